use Rattle.std.proofs.Common.{rules, map, Vec, Global}
use Rattle.sqlite.specs.Held.{state}
use Rattle.tables.specs.Records.{segment_row, IsSegmentRow}
use Rattle.tables.specs.declared.segment.SegmentRecord.{SegmentRecord}
use Rattle.state_rows.specs.Rows.{segment}
use Rattle.entries.specs.declared.fault.TableName.TheVariants as table_name
use Rattle.loading.proofs.Telling.{found, stopped}
use Rattle.loading.proofs.read_segments.segment_records.Goals as goal

pub returns-in-Ok : goal.returns-in-Ok
returns-in-Ok g c = found segment table_name.Segment IsSegmentRow (λ (v : Vec SegmentRecord Global). map segment_row v.items) (state g.S.Store c.args.conn.now) (state g.S.Store c.load_segments-loaded.new.conn) c.in-Ok.records
    (c.in_ok-is_segment_there.ensures.there.0 (search rules), c.is_spared.ensures.0 (search rules)) c.in-Ok.ensures.loaded c.load_segments-loaded.ensures.crash c.schema-live.ensures.live

pub returns-in-Err : goal.returns-in-Err
returns-in-Err g c =
    stopped segment table_name.Segment IsSegmentRow (λ (v : Vec SegmentRecord Global). map segment_row v.items) (state g.S.Store c.args.conn.now) (state g.S.Store c.load_segments-loaded.new.conn) c.in-Err.fault c.of_table.result
    c.of_table.ensures c.in-Err.ensures.loaded c.load_segments-loaded.ensures.crash
