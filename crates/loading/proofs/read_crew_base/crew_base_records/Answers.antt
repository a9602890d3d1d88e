use Rattle.std.proofs.Common.{rules, map, Vec, Global}
use Rattle.sqlite.specs.Held.{state}
use Rattle.tables.specs.Records.{crew_base_row, IsCrewBaseRow}
use Rattle.tables.specs.declared.crew_base.CrewBaseRecord.{CrewBaseRecord}
use Rattle.state_rows.specs.Rows.{crew_base}
use Rattle.entries.specs.declared.fault.TableName.TheVariants as table_name
use Rattle.loading.proofs.Telling.{found, stopped}
use Rattle.loading.proofs.read_crew_base.crew_base_records.Goals as goal

pub returns-in-Ok : goal.returns-in-Ok
returns-in-Ok g c = found crew_base table_name.CrewBase IsCrewBaseRow (λ (v : Vec CrewBaseRecord Global). map crew_base_row v.items) (state g.S.Store c.args.conn.now) (state g.S.Store c.load_crew_bases-loaded.new.conn) c.in-Ok.records
    (c.in_ok-is_crew_base_there.ensures.there.0 (search rules), c.is_spared.ensures.0 (search rules)) c.in-Ok.ensures.loaded c.load_crew_bases-loaded.ensures.crash c.schema-live.ensures.live

pub returns-in-Err : goal.returns-in-Err
returns-in-Err g c =
    stopped crew_base table_name.CrewBase IsCrewBaseRow (λ (v : Vec CrewBaseRecord Global). map crew_base_row v.items) (state g.S.Store c.args.conn.now) (state g.S.Store c.load_crew_bases-loaded.new.conn) c.in-Err.fault c.of_table.result
    c.of_table.ensures c.in-Err.ensures.loaded c.load_crew_bases-loaded.ensures.crash
