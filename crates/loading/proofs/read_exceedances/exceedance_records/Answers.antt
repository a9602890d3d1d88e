use Rattle.std.proofs.Common.{rules, map, Vec, Global}
use Rattle.sqlite.specs.Held.{state}
use Rattle.tables.specs.Records.{exceedance_row, IsExceedanceRow}
use Rattle.tables.specs.declared.exceedance.ExceedanceRecord.{ExceedanceRecord}
use Rattle.state_rows.specs.Rows.{exceedance}
use Rattle.entries.specs.declared.fault.TableName.TheVariants as table_name
use Rattle.loading.proofs.Telling.{found, stopped}
use Rattle.loading.proofs.read_exceedances.exceedance_records.Goals as goal

pub returns-in-Ok : goal.returns-in-Ok
returns-in-Ok g c = found exceedance table_name.Exceedance IsExceedanceRow (λ (v : Vec ExceedanceRecord Global). map exceedance_row v.items) (state g.S.Store c.args.conn.now) (state g.S.Store c.load_exceedances-loaded.new.conn) c.in-Ok.records
    (c.in_ok-is_exceedance_there.ensures.there.0 (search rules), c.is_spared.ensures.0 (search rules)) c.in-Ok.ensures.loaded c.load_exceedances-loaded.ensures.crash c.schema-live.ensures.live

pub returns-in-Err : goal.returns-in-Err
returns-in-Err g c =
    stopped exceedance table_name.Exceedance IsExceedanceRow (λ (v : Vec ExceedanceRecord Global). map exceedance_row v.items) (state g.S.Store c.args.conn.now) (state g.S.Store c.load_exceedances-loaded.new.conn) c.in-Err.fault c.of_table.result
    c.of_table.ensures c.in-Err.ensures.loaded c.load_exceedances-loaded.ensures.crash
