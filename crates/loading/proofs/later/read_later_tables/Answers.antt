use Rattle.std.proofs.Common.{rules, ◌≡◌, sym, subst, Result, Ok, Err}
use Rattle.sqlite.specs.Effect.{Database}
use Rattle.sqlite.specs.Held.{state}
use Rattle.sqlite.specs.State as conn
use Rattle.roster.specs.State.{State}
use Rattle.loading.specs.Loading.{Justifies}
use Rattle.loading.specs.OutsideTables.{HasOutsides}
use Rattle.entries.specs.OutsideRows.{Outsides}
use Rattle.loading.specs.Reading.{AgreesIn, ReadsAs}
use Rattle.state_rows.specs.Requests.{Requests, with_requests}
use Rattle.state_rows.specs.Rows.{StateTable, base, crew_base, outside, outside_segment}
use Rattle.state_rows.specs.declared.edition.Edition.TheVariants.{Second}
use Rattle.entries.specs.declared.fault.LoadFault.{LoadFault}
use Rattle.loading.proofs.ReadTables.{refused_as, seen_here, then_saw}
use Rattle.loading.proofs.later.read_later_tables.Goals as goal

abbrev Tells : StateTable → Requests → Database → State → Type 0
Tells it kept db r = AgreesIn Second it (with_requests kept r) db

abbrev Found : State → Requests → Database → Outsides → Type 0
Found r kept db m = AgreesIn Second outside (with_requests kept r) db × HasOutsides r db m

abbrev Refuses : Database → LoadFault → Type 0
Refuses db fault = Justifies fault db

-- the first three reads, one after another, each beside kept commands
in_turn : (first_kept second_kept third_kept : Requests) (old one two new : conn.State) (s t : State) (result : Result Outsides LoadFault) → ReadsAs (Tells base first_kept old.now) (Refuses old.now) old one (Ok s) →
    ReadsAs (Tells crew_base second_kept one.now) (Refuses one.now) one two (Ok t) → ReadsAs (Found t third_kept two.now) (Refuses two.now) two new result → ReadsAs (Found t third_kept old.now) (Refuses old.now) old new result
in_turn first_kept second_kept third_kept old one two new s t result first second third =
    then_saw (Tells crew_base second_kept old.now) (Refuses old.now) (Found t third_kept) Refuses t old two new result
    (then_saw (Tells base first_kept old.now) (Refuses old.now) (Tells crew_base second_kept) Refuses s old one two (Ok t) first second) third

pub read_crew_base-requires : goal.read_crew_base-requires
read_crew_base-requires g c =
    let old = state g.S.Store c.args.conn.now in
    let one = state g.S.Store c.read_base.new.conn in
    let kept = c.in_ok-roster.ensures.0 in
    (kept, λ clean. seen_here (Tells base kept) (Refuses old.now) c.in_ok-roster.roster old one c.in_ok-roster.ensures.1 clean)

pub read_outside-requires : goal.read_outside-requires
read_outside-requires g c =
    let one = state g.S.Store c.read_base.new.conn in
    let two = state g.S.Store c.read_crew_base.new.conn in
    let kept = c.in_ok-roster-2.ensures.0 in
    (kept, λ clean. seen_here (Tells crew_base kept) (Refuses one.now) c.in_ok-roster-2.roster one two c.in_ok-roster-2.ensures.1 clean)

pub read_outside_segment-requires-clause-above : goal.read_outside_segment-requires-clause-above
read_outside_segment-requires-clause-above g c =
    let two = state g.S.Store c.read_crew_base.new.conn in
    let three = state g.S.Store c.read_outside.new.conn in
    let kept = c.in_ok-outsides.ensures.0 in
    (kept, λ clean. (seen_here (Found c.in_ok-roster-2.roster kept) (Refuses two.now) c.in_ok-outsides.outsides two three c.in_ok-outsides.ensures.1 clean).0)

pub read_outside_segment-requires-clause-found : goal.read_outside_segment-requires-clause-found
read_outside_segment-requires-clause-found g c clean =
    let two = state g.S.Store c.read_crew_base.new.conn in
    let three = state g.S.Store c.read_outside.new.conn in
    let kept = c.in_ok-outsides.ensures.0 in
    (seen_here (Found c.in_ok-roster-2.roster kept) (Refuses two.now) c.in_ok-outsides.outsides two three c.in_ok-outsides.ensures.1 clean).1

pub returns-in_err-roster : goal.returns-in_err-roster
returns-in_err-roster g c =
    let old = state g.S.Store c.args.conn.now in
    let new = state g.S.Store c.read_base.new.conn in
    let fault = c.in_err-roster.field-0.0 in
    let is : c.from_residual.result ≡ Err fault = search rules in
    let kept = c.in_err-roster.ensures.0 in (
      kept,
      subst (λ (r : Result State LoadFault). ReadsAs (Tells outside_segment kept old.now) (Refuses old.now) old new r) (sym is)
          (refused_as (Tells base kept old.now) (Tells outside_segment kept old.now) (Refuses old.now) old new fault c.in_err-roster.ensures.1),
    )

pub returns-in_err-roster-2 : goal.returns-in_err-roster-2
returns-in_err-roster-2 g c =
    let old = state g.S.Store c.args.conn.now in
    let one = state g.S.Store c.read_base.new.conn in
    let new = state g.S.Store c.read_crew_base.new.conn in
    let fault = c.in_err-roster-2.field-0.0 in
    let is : c.from_residual-in_err-roster-2.result ≡ Err fault = search rules in
    let kept = c.in_err-roster-2.ensures.0 in
    let both = then_saw (Tells base c.in_ok-roster.ensures.0 old.now) (Refuses old.now) (Tells crew_base kept) Refuses c.in_ok-roster.roster old one new (Err fault) c.in_ok-roster.ensures.1 c.in_err-roster-2.ensures.1 in (
      kept,
      subst (λ (r : Result State LoadFault). ReadsAs (Tells outside_segment kept old.now) (Refuses old.now) old new r) (sym is)
          (refused_as (Tells crew_base kept old.now) (Tells outside_segment kept old.now) (Refuses old.now) old new fault both),
    )

pub returns-in_err-outsides : goal.returns-in_err-outsides
returns-in_err-outsides g c =
    let old = state g.S.Store c.args.conn.now in
    let one = state g.S.Store c.read_base.new.conn in
    let two = state g.S.Store c.read_crew_base.new.conn in
    let new = state g.S.Store c.read_outside.new.conn in
    let t = c.in_ok-roster-2.roster in
    let fault = c.in_err-outsides.field-0.0 in
    let is : c.from_residual-in_err-outsides.result ≡ Err fault = search rules in
    let kept = c.in_err-outsides.ensures.0 in
    let all = in_turn c.in_ok-roster.ensures.0 c.in_ok-roster-2.ensures.0 kept old one two new c.in_ok-roster.roster t (Err fault) c.in_ok-roster.ensures.1 c.in_ok-roster-2.ensures.1 c.in_err-outsides.ensures.1 in (
      kept,
      subst (λ (r : Result State LoadFault). ReadsAs (Tells outside_segment kept old.now) (Refuses old.now) old new r) (sym is)
          (refused_as (Found t kept old.now) (Tells outside_segment kept old.now) (Refuses old.now) old new fault all),
    )

pub returns : goal.returns
returns g c =
    let old = state g.S.Store c.args.conn.now in
    let one = state g.S.Store c.read_base.new.conn in
    let two = state g.S.Store c.read_crew_base.new.conn in
    let three = state g.S.Store c.read_outside.new.conn in
    let new = state g.S.Store c.read_outside_segment.new.conn in
    let t = c.in_ok-roster-2.roster in
    let m = c.in_ok-outsides.outsides in
    let third_kept = c.in_ok-outsides.ensures.0 in
    let kept = c.read_outside_segment.ensures.0 in
    let all = in_turn c.in_ok-roster.ensures.0 c.in_ok-roster-2.ensures.0 third_kept old one two three c.in_ok-roster.roster t (Ok m) c.in_ok-roster.ensures.1 c.in_ok-roster-2.ensures.1 c.in_ok-outsides.ensures.1 in
    (kept, then_saw (Found t third_kept old.now) (Refuses old.now) (Tells outside_segment kept) Refuses m old three new c.read_outside_segment.result all c.read_outside_segment.ensures.1)
