use Rattle.std.proofs.Common.{rules, ◌≡◌, sym, subst, Result, Err, length, List}
use Rattle.sqlite.specs.Held.{state}
use Rattle.tables.specs.Records.{IsSegmentRow, segment_row}
use Rattle.tables.specs.declared.segment.SegmentRecord.{SegmentRecord}
use Rattle.entries.specs.Keyed.{AreSegmentsWanting, AreSegmentsWhole, IsSegmentTable}
use Rattle.loading.specs.PlanTables.{HasSegmentsOf}
use Rattle.entries.specs.PlanRows.{HasNoGaps, Segments}
use Rattle.loading.specs.Reading.{ReadsAs, BlamesOrFails}
use Rattle.entries.specs.Faults.{Blames}
use Rattle.state_rows.specs.Rows.{segment}
use Rattle.entries.specs.declared.fault.LoadFault.{LoadFault}
use Rattle.entries.specs.declared.fault.TableName.TheVariants as table_name
use Rattle.loading.proofs.ReadTables.{not_read, is_read, if_read}
use Rattle.loading.proofs.ReadSegments.{not_unreadable, wanting, has_whole}
use Rattle.loading.proofs.read_segments.read_segments.Goals as goal

pub returns-in_err-records-clause-told : goal.returns-in_err-records-clause-told
returns-in_err-records-clause-told g c =
    let old = state g.S.Store c.args.conn.now in
    let new = state g.S.Store c.segment_records.new.conn in
    let periods = c.args.periods.now in
    let fault = c.in_err-records.field-0.0 in
    let is : c.from_residual.result ≡ Err fault = search rules in
    subst (λ (r : Result Segments LoadFault). ReadsAs (HasSegmentsOf old.now periods) (BlamesOrFails table_name.Segment (IsSegmentTable old.now → ⊥)) old new r) (sym is)
    (not_read segment table_name.Segment IsSegmentRow segment_row (IsSegmentTable old.now) (HasSegmentsOf old.now periods) old new c.segment_records.ensures.left fault
    (λ clean. not_unreadable old.now) c.in_err-records.ensures.told c.in_err-records.ensures.caused)

pub returns-clause-told : goal.returns-clause-told
returns-clause-told g c =
    let old = state g.S.Store c.args.conn.now in
    let new = state g.S.Store c.segment_records.new.conn in
    let periods = c.args.periods.now in
    let records = c.in_ok-records.records.items in
    is_read segment table_name.Segment IsSegmentRow segment_row (IsSegmentTable old.now) (HasSegmentsOf old.now periods) old new c.segment_records.ensures.left
    records c.deref.result.now c.deref.ensures.value (λ (l : List SegmentRecord). AreSegmentsWhole periods l (length l)) (λ (l : List SegmentRecord). AreSegmentsWanting periods l (length l))
    c.in_ok-records.ensures.told (λ clean read. has_whole old.now periods (c.requires.above clean) records read)
    (λ clean read. wanting old.now periods (c.requires.above clean) records read) c.all_by_keys.result c.all_by_keys.ensures

pub returns-clause-ungapped : goal.returns-clause-ungapped
returns-clause-ungapped g c = if_read (AreSegmentsWhole c.args.periods.now c.deref.result.now (length c.deref.result.now)) HasNoGaps (Blames table_name.Segment (AreSegmentsWanting c.args.periods.now c.deref.result.now (length c.deref.result.now))) (λ m all. all.1) c.all_by_keys.result c.all_by_keys.ensures
