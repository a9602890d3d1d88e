use Rattle.std.proofs.Common.{rules, ◌≡◌, sym, subst, Ok, Err}
use Rattle.sqlite.specs.Held.{state}
use Rattle.loading.specs.PlanTables.{HasUntold}
use Rattle.entries.specs.Faults.{Blames}
use Rattle.entries.specs.declared.fault.TableName.TheVariants as table_name
use Rattle.loading.proofs.Telling.{given}
use Rattle.loading.proofs.ReadPairings.{Reads, SawIds, SawPeriods, SawSegments, no_ids, no_periods, no_segments, are_read, none_held}
use Rattle.loading.proofs.read_pairings.read_pairings.Goals as goal

pub returns-in_err-ids-clause-read : goal.returns-in_err-ids-clause-read
returns-in_err-ids-clause-read g c =
    let old = state g.S.Store c.args.conn.now in
    let new = state g.S.Store c.read_ids.new.conn in
    let fault = c.in_err-ids.field-0.0 in
    let is : c.from_residual.result ≡ Err fault = search rules in
    let was : c.read_ids.result ≡ Err fault = search rules in
    subst (Reads c.args.roster old c.requires.above new) (sym is) (no_ids c.args.roster old c.requires.above new fault (subst (SawIds old new) was c.read_ids.ensures))

pub returns-in_err-periods-clause-read : goal.returns-in_err-periods-clause-read
returns-in_err-periods-clause-read g c =
    let old = state g.S.Store c.args.conn.now in
    let one = state g.S.Store c.read_ids.new.conn in
    let new = state g.S.Store c.read_periods.new.conn in
    let ids = c.in_ok-ids.ids in
    let fault = c.in_err-periods.field-0.0 in
    let is : c.from_residual-in_err-periods.result ≡ Err fault = search rules in
    let first : c.read_ids.result ≡ Ok ids = search rules in
    let was : c.read_periods.result ≡ Err fault = search rules in
    subst (Reads c.args.roster old c.requires.above new) (sym is)
    (no_periods c.args.roster old c.requires.above ids one (subst (SawIds old one) first c.read_ids.ensures) new fault (subst (SawPeriods one new) was c.read_periods.ensures.told))

pub returns-in_err-segments-clause-read : goal.returns-in_err-segments-clause-read
returns-in_err-segments-clause-read g c =
    let old = state g.S.Store c.args.conn.now in
    let one = state g.S.Store c.read_ids.new.conn in
    let two = state g.S.Store c.read_periods.new.conn in
    let new = state g.S.Store c.read_segments.new.conn in
    let ids = c.in_ok-ids.ids in
    let periods = c.in_ok-periods.periods in
    let fault = c.in_err-segments.field-0.0 in
    let is : c.from_residual-in_err-segments.result ≡ Err fault = search rules in
    let first : c.read_ids.result ≡ Ok ids = search rules in
    let second : c.read_periods.result ≡ Ok periods = search rules in
    let was : c.read_segments.result ≡ Err fault = search rules in
    subst (Reads c.args.roster old c.requires.above new) (sym is)
    (no_segments c.args.roster old c.requires.above ids one (subst (SawIds old one) first c.read_ids.ensures) periods two (subst (SawPeriods one two) second c.read_periods.ensures.told)
    new fault (subst (SawSegments periods two new) was c.read_segments.ensures.told))

pub returns-clause-read : goal.returns-clause-read
returns-clause-read g c =
    let old = state g.S.Store c.args.conn.now in
    let one = state g.S.Store c.read_ids.new.conn in
    let two = state g.S.Store c.read_periods.new.conn in
    let new = state g.S.Store c.read_segments.new.conn in
    let ids = c.in_ok-ids.ids in
    let periods = c.in_ok-periods.periods in
    let segments = c.in_ok-segments.segments in
    let first : c.read_ids.result ≡ Ok ids = search rules in
    let second : c.read_periods.result ≡ Ok periods = search rules in
    let third : c.read_segments.result ≡ Ok segments = search rules in
    are_read c.args.roster old c.requires.above ids one (subst (SawIds old one) first c.read_ids.ensures) periods two (subst (SawPeriods one two) second c.read_periods.ensures.told)
    segments new (subst (SawSegments periods two new) third c.read_segments.ensures.told) c.given_back.result (given _ _ c.add_pairings-done.result c.add_pairings-done.new.roster c.given_back.result c.given_back.ensures.ok c.given_back.ensures.err c.add_pairings-done.ensures)

pub returns-clause-free : goal.returns-clause-free
returns-clause-free g c =
    none_held c.in_ok-ids.ids c.in_ok-periods.periods c.in_ok-segments.segments c.args.roster (Blames table_name.Segment (HasUntold c.in_ok-ids.ids c.in_ok-periods.periods c.in_ok-segments.segments))
    c.given_back.result (given _ _ c.add_pairings-done.result c.add_pairings-done.new.roster c.given_back.result c.given_back.ensures.ok c.given_back.ensures.err c.add_pairings-done.ensures)
