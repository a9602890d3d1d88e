use Rattle.std.proofs.Common.{rules, ◌≡◌, sym, subst, Result, Err}
use Rattle.std.specs.FinMap as fin
use Rattle.sqlite.specs.Held.{state}
use Rattle.loading.specs.Loading.{Justifies}
use Rattle.loading.specs.Reading.{ReadsAs}
use Rattle.entries.specs.declared.fault.LoadFault.{LoadFault}
use Rattle.loading.proofs.ReadRequests.{Now, not_read, is_checked}
use Rattle.loading.proofs.read_requests.check_requests.Goals as goal

pub returns-in_err-records : goal.returns-in_err-records
returns-in_err-records g c =
    let old = state g.S.Store c.args.conn.now in
    let new = state g.S.Store c.request_records.new.conn in
    let s = c.args.roster.now in
    let fault = c.in_err-records.field-0.0 in
    let is : c.from_residual.result ≡ Err fault = search rules in (
      fin.empty,
      subst (λ (r : Result (Unit {0}) LoadFault). ReadsAs (Now c.args.edition s old new c.requires.above c.requires.of fin.empty) (λ f. Justifies f old.now) old new r) (sym is)
          (not_read c.args.edition s old new c.requires.above c.requires.of fin.empty fault c.in_err-records.ensures.told c.in_err-records.ensures.caused c.request_records.ensures.left),
    )

pub returns : goal.returns
returns g c =
    is_checked c.args.edition c.args.roster.now (state g.S.Store c.args.conn.now) (state g.S.Store c.request_records.new.conn) c.requires.above c.requires.of c.in_ok-records.records.items c.check_held.result c.requires.first
    c.in_ok-records.ensures.told c.request_records.ensures.left c.check_held.ensures
