use Rattle.std.proofs.Common.{rules, ◌≡◌, sym, subst, Result, Err, length, List, map}
use Rattle.sqlite.specs.Held.{state}
use Rattle.tables.specs.Records.{IsPairingRow, pairing_row}
use Rattle.tables.specs.declared.pairing.PairingRecord.{PairingRecord}
use Rattle.loading.specs.PlanTables.{AreIds, HasIds, IdsRead, IsId, row_of_id}
use Rattle.entries.specs.Keyed.{Ids}
use Rattle.loading.specs.Reading.{ReadsAs, BlamesOrFails}
use Rattle.entries.specs.Mapping.{HasStranger}
use Rattle.state_rows.specs.Rows.{pairing}
use Rattle.entries.specs.declared.fault.LoadFault.{LoadFault}
use Rattle.entries.specs.declared.fault.TableName.TheVariants as table_name
use Rattle.loading.proofs.ReadTables.{not_read, is_read}
use Rattle.loading.proofs.ReadIds.{not_unreadable, strange, has_ids}
use Rattle.loading.proofs.read_pairings.read_ids.Goals as goal

pub returns-in_err-records : goal.returns-in_err-records
returns-in_err-records g c =
    let old = state g.S.Store c.args.conn.now in
    let new = state g.S.Store c.pairing_records.new.conn in
    let fault = c.in_err-records.field-0.0 in
    let is : c.from_residual.result ≡ Err fault = search rules in
    subst (λ (r : Result Ids LoadFault). ReadsAs (HasIds old.now) (BlamesOrFails table_name.Pairing (AreIds old.now → ⊥)) old new r) (sym is)
    (not_read pairing table_name.Pairing IsPairingRow pairing_row (AreIds old.now) (HasIds old.now) old new c.pairing_records.ensures.left fault
    (λ clean. not_unreadable old.now) c.in_err-records.ensures.told c.in_err-records.ensures.caused)

pub returns : goal.returns
returns g c =
    let old = state g.S.Store c.args.conn.now in
    let new = state g.S.Store c.pairing_records.new.conn in
    is_read pairing table_name.Pairing IsPairingRow pairing_row (AreIds old.now) (HasIds old.now) old new c.pairing_records.ensures.left
    c.in_ok-records.records.items c.deref.result.now c.deref.ensures.value (λ (l : List PairingRecord). IdsRead l (length l)) (λ l. HasStranger row_of_id IsId (map pairing_row l))
    c.in_ok-records.ensures.told (λ clean. has_ids old.now c.in_ok-records.records.items) (λ clean. strange old.now c.in_ok-records.records.items) c.ids_of.result c.ids_of.ensures
