use Rattle.std.proofs.Common.{rules, ◌≡◌, refl, sym, subst, Result, Err, List}
use Rattle.sqlite.specs.Held.{state}
use Rattle.roster.specs.State.{State}
use Rattle.tables.specs.Records.{IsBaseRow, base_row}
use Rattle.tables.specs.declared.base.BaseRecord.{BaseRecord}
use Rattle.entries.specs.Right.{AreRight}
use Rattle.loading.specs.Loading.{Justifies}
use Rattle.loading.specs.Reading.{AgreesIn, AreBasesRead, AreNoBases, IsReadAs, ReadsAs}
use Rattle.state_rows.specs.Requests.{with_requests}
use Rattle.state_rows.specs.Rows.{request, base}
use Rattle.state_rows.specs.declared.edition.Edition.TheVariants.{Second}
use Rattle.entries.specs.declared.fault.LoadFault.{LoadFault}
use Rattle.entries.specs.declared.fault.TableName.TheVariants as table_name
use Rattle.loading.proofs.LaterTables.{later_told}
use Rattle.loading.proofs.KeptBeside.{bases_beside}
use Rattle.entries.proofs.Editions.{next_base}
use Rattle.loading.proofs.ReadTables.{not_read, is_read}
use Rattle.loading.proofs.ReadBase.{not_unreadable, right, wrong}
use Rattle.loading.proofs.read_base.read_base.Goals as goal

pub returns-in_err-records : goal.returns-in_err-records
returns-in_err-records g c =
    let old = state g.S.Store c.args.conn.now in
    let new = state g.S.Store c.base_records.new.conn in
    let kept = c.requires.above.0 in
    let up = c.requires.above.1 in
    let s = with_requests kept c.args.roster in
    let fault = c.in_err-records.field-0.0 in
    let is : c.from_residual.result ≡ Err fault = search rules in (
      kept,
      subst (λ (r : Result State LoadFault). ReadsAs (λ (t : State). AgreesIn Second base (with_requests kept t) old.now) (λ f. Justifies f old.now) old new r) (sym is)
          (later_told request base next_base table_name.Base refl s (with_requests kept) old new up (Err fault)
          (not_read base table_name.Base IsBaseRow base_row (AreRight base old.now) (λ (t : State). IsReadAs base (with_requests kept t) old.now) old new c.base_records.ensures.left fault
          (λ clean. not_unreadable old.now (up clean).of) c.in_err-records.ensures.told c.in_err-records.ensures.caused)),
    )

pub returns : goal.returns
returns g c =
    let old = state g.S.Store c.args.conn.now in
    let new = state g.S.Store c.base_records.new.conn in
    let kept = c.requires.above.0 in
    let up = c.requires.above.1 in
    let s = with_requests kept c.args.roster in
    let records = c.in_ok-records.records.items in (
      kept,
      later_told request base next_base table_name.Base refl s (with_requests kept) old new up c.bases_of.result
          (is_read base table_name.Base IsBaseRow base_row (AreRight base old.now) (λ (t : State). IsReadAs base (with_requests kept t) old.now) old new c.base_records.ensures.left
          records c.deref.result.now c.deref.ensures.value (λ (l : List BaseRecord) t. AreBasesRead l c.args.roster t) (λ l. AreNoBases l c.args.roster)
          c.in_ok-records.ensures.told (λ clean read t found. right s old.now (up clean) records read (with_requests kept t) (bases_beside kept records c.args.roster t found)) (λ clean read. wrong s old.now (up clean) records read) c.bases_of.result c.bases_of.ensures),
    )
