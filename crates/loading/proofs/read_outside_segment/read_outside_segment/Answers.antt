use Rattle.std.proofs.Common.{rules, ◌≡◌, refl, sym, subst, Result, Err, List}
use Rattle.sqlite.specs.Held.{state}
use Rattle.roster.specs.State.{State}
use Rattle.tables.specs.Records.{IsOutsideSegmentRow, outside_segment_row}
use Rattle.tables.specs.declared.outside_segment.OutsideSegmentRecord.{OutsideSegmentRecord}
use Rattle.entries.specs.Right.{AreRight}
use Rattle.loading.specs.Loading.{Justifies}
use Rattle.loading.specs.OutsideTables.{AreOutsidesSet, AreOutsidesUnset}
use Rattle.loading.specs.Reading.{AgreesIn, IsReadAs, ReadsAs}
use Rattle.state_rows.specs.Requests.{with_requests}
use Rattle.state_rows.specs.Rows.{outside, outside_segment}
use Rattle.state_rows.specs.declared.edition.Edition.TheVariants.{Second}
use Rattle.entries.specs.declared.fault.LoadFault.{LoadFault}
use Rattle.entries.specs.declared.fault.TableName.TheVariants as table_name
use Rattle.loading.proofs.LaterTables.{later_told}
use Rattle.loading.proofs.KeptBeside.{outsides_beside, set_beside}
use Rattle.entries.proofs.Editions.{next_outside_segment}
use Rattle.loading.proofs.ReadTables.{not_read, is_read}
use Rattle.loading.proofs.Telling.{given}
use Rattle.loading.proofs.ReadOutsideSegment.{not_unreadable, right, wrong}
use Rattle.loading.proofs.read_outside_segment.read_outside_segment.Goals as goal

pub returns-in_err-records : goal.returns-in_err-records
returns-in_err-records g c =
    let old = state g.S.Store c.args.conn.now in
    let new = state g.S.Store c.outside_segment_records.new.conn in
    let kept = c.requires.above.0 in
    let up = c.requires.above.1 in
    let s = with_requests kept c.args.roster in
    let fault = c.in_err-records.field-0.0 in
    let is : c.from_residual.result ≡ Err fault = search rules in (
      kept,
      subst (λ (r : Result State LoadFault). ReadsAs (λ (t : State). AgreesIn Second outside_segment (with_requests kept t) old.now) (λ f. Justifies f old.now) old new r) (sym is)
          (later_told outside outside_segment next_outside_segment table_name.OutsideSegment refl s (with_requests kept) old new up (Err fault)
          (not_read outside_segment table_name.OutsideSegment IsOutsideSegmentRow outside_segment_row (AreRight outside_segment old.now) (λ (t : State). IsReadAs outside_segment (with_requests kept t) old.now) old new
          c.outside_segment_records.ensures.left fault (λ clean. not_unreadable old.now (up clean).of) c.in_err-records.ensures.told c.in_err-records.ensures.caused)),
    )

pub returns : goal.returns
returns g c =
    let old = state g.S.Store c.args.conn.now in
    let new = state g.S.Store c.outside_segment_records.new.conn in
    let kept = c.requires.above.0 in
    let up = c.requires.above.1 in
    let s = with_requests kept c.args.roster in
    let m = c.args.outsides.now in
    let records = c.in_ok-records.records.items in (
      kept,
      later_told outside outside_segment next_outside_segment table_name.OutsideSegment refl s (with_requests kept) old new up c.given_back.result
          (is_read outside_segment table_name.OutsideSegment IsOutsideSegmentRow outside_segment_row (AreRight outside_segment old.now) (λ (t : State). IsReadAs outside_segment (with_requests kept t) old.now) old new
          c.outside_segment_records.ensures.left records c.deref.result.now c.deref.ensures.value (λ (l : List OutsideSegmentRecord) t. AreOutsidesSet m l c.args.roster t) (λ l. AreOutsidesUnset m l)
          c.in_ok-records.ensures.told (λ clean read t found. right s old.now (up clean) m (outsides_beside kept c.args.roster old.now m (c.requires.found clean)) records read (with_requests kept t) (set_beside kept m records c.args.roster t found))
          (λ clean read. wrong s old.now (up clean) m (outsides_beside kept c.args.roster old.now m (c.requires.found clean)) records read) c.given_back.result (given _ _ c.set_outsides-done.result c.set_outsides-done.new.roster c.given_back.result c.given_back.ensures.ok c.given_back.ensures.err c.set_outsides-done.ensures)),
    )
