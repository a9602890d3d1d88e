use Rattle.std.proofs.Common.{rules, map, Vec, Global}
use Rattle.sqlite.specs.Held.{state}
use Rattle.tables.specs.Records.{pairing_row, IsPairingRow}
use Rattle.tables.specs.declared.pairing.PairingRecord.{PairingRecord}
use Rattle.state_rows.specs.Rows.{pairing}
use Rattle.entries.specs.declared.fault.TableName.TheVariants as table_name
use Rattle.loading.proofs.Telling.{found, stopped}
use Rattle.loading.proofs.read_pairings.pairing_records.Goals as goal

pub returns-in-Ok : goal.returns-in-Ok
returns-in-Ok g c = found pairing table_name.Pairing IsPairingRow (λ (v : Vec PairingRecord Global). map pairing_row v.items) (state g.S.Store c.args.conn.now) (state g.S.Store c.load_pairings-loaded.new.conn) c.in-Ok.records
    (c.in_ok-is_pairing_there.ensures.there.0 (search rules), c.is_spared.ensures.0 (search rules)) c.in-Ok.ensures.loaded c.load_pairings-loaded.ensures.crash c.schema-live.ensures.live

pub returns-in-Err : goal.returns-in-Err
returns-in-Err g c =
    stopped pairing table_name.Pairing IsPairingRow (λ (v : Vec PairingRecord Global). map pairing_row v.items) (state g.S.Store c.args.conn.now) (state g.S.Store c.load_pairings-loaded.new.conn) c.in-Err.fault c.of_table.result
    c.of_table.ensures c.in-Err.ensures.loaded c.load_pairings-loaded.ensures.crash
