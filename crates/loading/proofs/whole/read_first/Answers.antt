use Rattle.std.proofs.Common.{rules, ◌≡◌, sym, subst, Result, Ok, Err}
use Rattle.std.specs.FinMap as fin
use Rattle.sqlite.specs.Effect.{Database}
use Rattle.sqlite.specs.Held.{state}
use Rattle.roster.specs.State.{State}
use Rattle.entries.specs.Right.{IsOfEdition}
use Rattle.loading.specs.Loading.{Justifies}
use Rattle.loading.specs.Reading.{AgreesThrough, ReadsAs}
use Rattle.state_rows.specs.Requests.{Requests, with_requests}
use Rattle.state_rows.specs.Rows.{StateTable, ground_duty, request, segment}
use Rattle.entries.specs.declared.fault.LoadFault.{LoadFault}
use Rattle.loading.proofs.ReadTables.{refused_as, still_here, then_saw}
use Rattle.loading.proofs.whole.read_first.Goals as goal

abbrev Tells : StateTable → Database → State → Type 0
Tells it db r = AgreesThrough it r db

abbrev Held : Requests → Database → State → Type 0
Held kept db r = AgreesThrough request (with_requests kept r) db

abbrev Refuses : Database → LoadFault → Type 0
Refuses db fault = Justifies fault db

pub read_records-requires-clause-of : goal.read_records-requires-clause-of
read_records-requires-clause-of g c =
    let old = state g.S.Store c.args.conn.now in
    let one = state g.S.Store c.read_plans.new.conn in
    let two = state g.S.Store c.read_duties.new.conn in
    let Is = IsOfEdition c.args.edition in
    still_here Is (Tells ground_duty one.now) (Refuses one.now) c.in_ok-roster-2.roster one two c.in_ok-roster-2.ensures.read
    (still_here Is (Tells segment old.now) (Refuses old.now) c.in_ok-roster.roster old one c.in_ok-roster.ensures.read c.requires.of)

pub returns-clause-read : goal.returns-clause-read
returns-clause-read g c =
    let old = state g.S.Store c.args.conn.now in
    let one = state g.S.Store c.read_plans.new.conn in
    let two = state g.S.Store c.read_duties.new.conn in
    let new = state g.S.Store c.read_records.new.conn in
    let both = then_saw (Tells segment old.now) (Refuses old.now) (Tells ground_duty) Refuses c.in_ok-roster.roster old one two (Ok c.in_ok-roster-2.roster)
    c.in_ok-roster.ensures.read c.in_ok-roster-2.ensures.read in
    let last = c.read_records.ensures.read in
    (last.0, then_saw (Tells ground_duty old.now) (Refuses old.now) (Held last.0) Refuses c.in_ok-roster-2.roster old two new c.read_records.result both last.1)

pub returns-in_err-roster-clause-read : goal.returns-in_err-roster-clause-read
returns-in_err-roster-clause-read g c =
    let old = state g.S.Store c.args.conn.now in
    let new = state g.S.Store c.read_plans.new.conn in
    let fault = c.in_err-roster.field-0.0 in
    let is : c.from_residual.result ≡ Err fault = search rules in (
      fin.empty,
      subst (λ (r : Result State LoadFault). ReadsAs (Held fin.empty old.now) (Refuses old.now) old new r) (sym is)
          (refused_as (Tells segment old.now) (Held fin.empty old.now) (Refuses old.now) old new fault c.in_err-roster.ensures.read),
    )

pub returns-in_err-roster-2-clause-read : goal.returns-in_err-roster-2-clause-read
returns-in_err-roster-2-clause-read g c =
    let old = state g.S.Store c.args.conn.now in
    let one = state g.S.Store c.read_plans.new.conn in
    let new = state g.S.Store c.read_duties.new.conn in
    let fault = c.in_err-roster-2.field-0.0 in
    let is : c.from_residual-in_err-roster-2.result ≡ Err fault = search rules in
    let both = then_saw (Tells segment old.now) (Refuses old.now) (Tells ground_duty) Refuses c.in_ok-roster.roster old one new (Err fault) c.in_ok-roster.ensures.read c.in_err-roster-2.ensures.read in (
      fin.empty,
      subst (λ (r : Result State LoadFault). ReadsAs (Held fin.empty old.now) (Refuses old.now) old new r) (sym is)
          (refused_as (Tells ground_duty old.now) (Held fin.empty old.now) (Refuses old.now) old new fault both),
    )
