use Rattle.std.proofs.Common.{rules, ◌≡◌, refl, sym, subst, Result, Err, List}
use Rattle.sqlite.specs.Held.{state}
use Rattle.tables.specs.Records.{IsOutsideRow, outside_row}
use Rattle.tables.specs.declared.outside.OutsideRecord.{OutsideRecord}
use Rattle.entries.specs.Right.{AreRight}
use Rattle.loading.specs.Loading.{Justifies}
use Rattle.loading.specs.OutsideTables.{AreNoOutsides, AreOutsidesRead, HasOutsides}
use Rattle.entries.specs.OutsideRows.{Outsides}
use Rattle.loading.specs.Reading.{AgreesIn, IsReadAs, ReadsAs}
use Rattle.state_rows.specs.Requests.{with_requests}
use Rattle.state_rows.specs.Rows.{crew_base, outside}
use Rattle.state_rows.specs.declared.edition.Edition.TheVariants.{Second}
use Rattle.entries.specs.declared.fault.LoadFault.{LoadFault}
use Rattle.entries.specs.declared.fault.TableName.TheVariants as table_name
use Rattle.loading.proofs.LaterTables.{later_found}
use Rattle.loading.proofs.KeptBeside.{outsides_of}
use Rattle.entries.proofs.Editions.{next_outside}
use Rattle.loading.proofs.ReadTables.{not_read, is_read}
use Rattle.loading.proofs.ReadOutside.{not_unreadable, right, wrong}
use Rattle.loading.proofs.read_outside.read_outside.Goals as goal

pub returns-in_err-records : goal.returns-in_err-records
returns-in_err-records g c =
    let old = state g.S.Store c.args.conn.now in
    let new = state g.S.Store c.outside_records.new.conn in
    let roster = c.args.roster.now in
    let kept = c.requires.0 in
    let up = c.requires.1 in
    let s = with_requests kept roster in
    let fault = c.in_err-records.field-0.0 in
    let is : c.from_residual.result ≡ Err fault = search rules in (
      kept,
      subst (λ (r : Result Outsides LoadFault). ReadsAs (λ m. AgreesIn Second outside s old.now × HasOutsides roster old.now m) (λ f. Justifies f old.now) old new r) (sym is)
          (later_found crew_base outside next_outside table_name.Outside refl s (λ (_ : Outsides). s) old new up (HasOutsides roster old.now) (Err fault)
          (not_read outside table_name.Outside IsOutsideRow outside_row (AreRight outside old.now) (λ m. IsReadAs outside s old.now × HasOutsides roster old.now m) old new c.outside_records.ensures.left fault
          (λ clean. not_unreadable old.now (up clean).of) c.in_err-records.ensures.told c.in_err-records.ensures.caused)),
    )

pub returns : goal.returns
returns g c =
    let old = state g.S.Store c.args.conn.now in
    let new = state g.S.Store c.outside_records.new.conn in
    let roster = c.args.roster.now in
    let kept = c.requires.0 in
    let up = c.requires.1 in
    let s = with_requests kept roster in
    let records = c.in_ok-records.records.items in (
      kept,
      later_found crew_base outside next_outside table_name.Outside refl s (λ (_ : Outsides). s) old new up (HasOutsides roster old.now) c.all_by_ids.result
          (is_read outside table_name.Outside IsOutsideRow outside_row (AreRight outside old.now) (λ m. IsReadAs outside s old.now × HasOutsides roster old.now m) old new c.outside_records.ensures.left
          records c.deref.result.now c.deref.ensures.value (λ (l : List OutsideRecord) m. AreOutsidesRead roster l m) (λ l. AreNoOutsides roster l)
          c.in_ok-records.ensures.told (λ clean read m found. let it = right s old.now (up clean) records read m found in (it.0, outsides_of kept roster old.now m it.1)) (λ clean read. wrong s old.now (up clean) records read) c.all_by_ids.result c.all_by_ids.ensures),
    )
