use Rattle.std.proofs.Common.{rules, ◌≡◌, sym, subst, Result, Err, length, List}
use Rattle.sqlite.specs.Held.{state}
use Rattle.tables.specs.Records.{IsPeriodRow, period_row}
use Rattle.tables.specs.declared.period.PeriodRecord.{PeriodRecord}
use Rattle.entries.specs.Keyed.{ArePeriodsWanting, ArePeriodsWhole}
use Rattle.loading.specs.PlanTables.{HasPeriods, IsPeriodTable}
use Rattle.entries.specs.PlanRows.{AreUngapped, Periods}
use Rattle.loading.specs.Reading.{ReadsAs, BlamesOrFails}
use Rattle.entries.specs.Faults.{Blames}
use Rattle.state_rows.specs.Rows.{period}
use Rattle.entries.specs.declared.fault.LoadFault.{LoadFault}
use Rattle.entries.specs.declared.fault.TableName.TheVariants as table_name
use Rattle.loading.proofs.ReadTables.{not_read, is_read, if_read}
use Rattle.loading.proofs.ReadPeriods.{not_unreadable, wanting, has_whole}
use Rattle.loading.proofs.read_periods.read_periods.Goals as goal

pub returns-in_err-records-clause-told : goal.returns-in_err-records-clause-told
returns-in_err-records-clause-told g c =
    let old = state g.S.Store c.args.conn.now in
    let new = state g.S.Store c.period_records.new.conn in
    let fault = c.in_err-records.field-0.0 in
    let is : c.from_residual.result ≡ Err fault = search rules in
    subst (λ (r : Result Periods LoadFault). ReadsAs (HasPeriods old.now) (BlamesOrFails table_name.Period (IsPeriodTable old.now → ⊥)) old new r) (sym is)
    (not_read period table_name.Period IsPeriodRow period_row (IsPeriodTable old.now) (HasPeriods old.now) old new c.period_records.ensures.left fault
    (λ clean. not_unreadable old.now c.args.ids.now (c.requires.above clean)) c.in_err-records.ensures.told c.in_err-records.ensures.caused)

pub returns-clause-told : goal.returns-clause-told
returns-clause-told g c =
    let old = state g.S.Store c.args.conn.now in
    let new = state g.S.Store c.period_records.new.conn in
    let ids = c.args.ids.now in
    let records = c.in_ok-records.records.items in
    is_read period table_name.Period IsPeriodRow period_row (IsPeriodTable old.now) (HasPeriods old.now) old new c.period_records.ensures.left
    records c.deref.result.now c.deref.ensures.value (λ (l : List PeriodRecord). ArePeriodsWhole ids l (length l)) (λ (l : List PeriodRecord). ArePeriodsWanting ids l (length l))
    c.in_ok-records.ensures.told (λ clean read. has_whole old.now ids (c.requires.above clean) records read)
    (λ clean read. wanting old.now ids (c.requires.above clean) records read) c.all_by_keys.result c.all_by_keys.ensures

pub returns-clause-ungapped : goal.returns-clause-ungapped
returns-clause-ungapped g c = if_read (ArePeriodsWhole c.args.ids.now c.deref.result.now (length c.deref.result.now)) AreUngapped (Blames table_name.Period (ArePeriodsWanting c.args.ids.now c.deref.result.now (length c.deref.result.now))) (λ m all. all.1) c.all_by_keys.result c.all_by_keys.ensures
