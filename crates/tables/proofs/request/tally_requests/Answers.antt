use Rattle.std.proofs.Common.{◌≡◌, ap, rules, sym, subst, Err}
use Rattle.sqlite.specs.Held.{state}
use Rattle.tables.specs.Calls.{HasStepLimit, ReadAs}
use Rattle.tables.specs.Records.{IsRequestRow}
use Rattle.tables.specs.Tally.{IsTally}
use Rattle.tables.specs.declared.request.RequestTally.{RequestTally}
use Rattle.tables.specs.declared.table_fault.TableFault.{TableFault}
use Rattle.tables.proofs.Tallying.{Reads, not_tallied, tallied_by}
use Rattle.tables.proofs.RequestTexts.{tally_requests, tally_requests_bare}
use Rattle.tables.proofs.request.tally_requests.Goals as goal

pub read_all-requires : goal.read_all-requires
read_all-requires g c clean = tally_requests_bare (state g.S.Store c.args.conn.now).now.schema

pub returns-in_err-tallies-clause-read : goal.returns-in_err-tallies-clause-read
returns-in_err-tallies-clause-read g c =
    let old = state g.S.Store c.args.conn.now in
    let new = state g.S.Store c.read_all.new.conn in
    let given = c.in_err-tallies.ensures in
    let fault = c.in_err-tallies.field-0.0 in
    let is : c.from_residual.result ≡ Err fault = search rules in
    subst (Reads old new) (sym is)
    (not_tallied old new (tally_requests_bare old.now.schema) c.requires (tally_requests old) given.crash fault (λ clean. given.stops clean) (λ clean e. given.damaged clean (ap Err e)))

pub returns-clause-read : goal.returns-clause-read
returns-clause-read g c =
    let old = state g.S.Store c.args.conn.now in
    let new = state g.S.Store c.read_all.new.conn in
    let given = c.in_ok-tallies.ensures in
    tallied_by old new (tally_requests_bare old.now.schema) c.requires (tally_requests old) given.crash c.in_ok-tallies.tallies.items c.first_tally.result given.shown given.same
    (rw c.deref.ensures.value at c.first_tally.ensures.first) c.first_tally.ensures.fault
