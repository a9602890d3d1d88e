use Rattle.std.proofs.Common.{rules, map, Vec, Global}
use Rattle.sqlite.specs.Held.{state}
use Rattle.tables.specs.Records.{period_row, IsPeriodRow}
use Rattle.tables.specs.declared.period.PeriodRecord.{PeriodRecord}
use Rattle.state_rows.specs.Rows.{period}
use Rattle.entries.specs.declared.fault.TableName.TheVariants as table_name
use Rattle.loading.proofs.Telling.{found, stopped}
use Rattle.loading.proofs.read_periods.period_records.Goals as goal

pub returns-in-Ok : goal.returns-in-Ok
returns-in-Ok g c = found period table_name.Period IsPeriodRow (λ (v : Vec PeriodRecord Global). map period_row v.items) (state g.S.Store c.args.conn.now) (state g.S.Store c.load_periods-loaded.new.conn) c.in-Ok.records
    (c.in_ok-is_period_there.ensures.there.0 (search rules), c.is_spared.ensures.0 (search rules)) c.in-Ok.ensures.loaded c.load_periods-loaded.ensures.crash c.schema-live.ensures.live

pub returns-in-Err : goal.returns-in-Err
returns-in-Err g c =
    stopped period table_name.Period IsPeriodRow (λ (v : Vec PeriodRecord Global). map period_row v.items) (state g.S.Store c.args.conn.now) (state g.S.Store c.load_periods-loaded.new.conn) c.in-Err.fault c.of_table.result
    c.of_table.ensures c.in-Err.ensures.loaded c.load_periods-loaded.ensures.crash
