use Rattle.std.proofs.Common.{rules, map, Vec, Global}
use Rattle.sqlite.specs.Held.{state}
use Rattle.tables.specs.Records.{seat_row, IsSeatRow}
use Rattle.tables.specs.declared.seat.SeatRecord.{SeatRecord}
use Rattle.state_rows.specs.Rows.{seat}
use Rattle.entries.specs.declared.fault.TableName.TheVariants as table_name
use Rattle.loading.proofs.Telling.{found, stopped}
use Rattle.loading.proofs.read_seats.seat_records.Goals as goal

pub returns-in-Ok : goal.returns-in-Ok
returns-in-Ok g c = found seat table_name.Seat IsSeatRow (λ (v : Vec SeatRecord Global). map seat_row v.items) (state g.S.Store c.args.conn.now) (state g.S.Store c.load_seats-loaded.new.conn) c.in-Ok.records
    (c.in_ok-is_seat_there.ensures.there.0 (search rules), c.is_spared.ensures.0 (search rules)) c.in-Ok.ensures.loaded c.load_seats-loaded.ensures.crash c.schema-live.ensures.live

pub returns-in-Err : goal.returns-in-Err
returns-in-Err g c =
    stopped seat table_name.Seat IsSeatRow (λ (v : Vec SeatRecord Global). map seat_row v.items) (state g.S.Store c.args.conn.now) (state g.S.Store c.load_seats-loaded.new.conn) c.in-Err.fault c.of_table.result
    c.of_table.ensures c.in-Err.ensures.loaded c.load_seats-loaded.ensures.crash
