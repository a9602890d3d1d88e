use Rattle.std.proofs.Common.{rules, ◌≡◌, sym, subst, Result, Err}
use Rattle.sqlite.specs.Held.{state}
use Rattle.roster.specs.State.{State}
use Rattle.loading.specs.Loading.{Justifies}
use Rattle.loading.specs.Reading.{ReadsAs}
use Rattle.entries.specs.declared.fault.LoadFault.{LoadFault}
use Rattle.loading.proofs.Telling.{given}
use Rattle.loading.proofs.SeatTable.{Now, not_read, is_read}
use Rattle.loading.proofs.read_seats.read_seats.Goals as goal

pub returns-in_err-records-clause-read : goal.returns-in_err-records-clause-read
returns-in_err-records-clause-read g c =
    let old = state g.S.Store c.args.conn.now in
    let new = state g.S.Store c.seat_records.new.conn in
    let fault = c.in_err-records.field-0.0 in
    let is : c.from_residual.result ≡ Err fault = search rules in
    subst (λ (r : Result State LoadFault). ReadsAs (Now c.args.roster old new c.requires.above) (λ f. Justifies f old.now) old new r) (sym is)
    (not_read c.args.roster old new c.requires.above fault c.in_err-records.ensures.told c.in_err-records.ensures.caused c.seat_records.ensures.left)

pub returns-clause-read : goal.returns-clause-read
returns-clause-read g c =
    is_read c.args.roster (state g.S.Store c.args.conn.now) (state g.S.Store c.seat_records.new.conn) c.requires.above c.in_ok-records.records.items c.deref.result.now c.given_back.result c.deref.ensures.value
    c.in_ok-records.ensures.told c.seat_records.ensures.left
    (given _ _ c.seat_all-done.result c.seat_all-done.new.roster c.given_back.result c.given_back.ensures.ok c.given_back.ensures.err c.seat_all-done.ensures)
