use Rattle.std.proofs.Common.{refl}
use Rattle.sqlite.specs.Held.{state}
use Rattle.tables.proofs.Statements.{written_at}
use Rattle.tables.proofs.SeatTexts.{create_seat, create_seat_stops}
use Rattle.tables.proofs.seat.create_seat.Goals as goal

pub returns : goal.returns
returns g c =
    let given = c.run.ensures in
    let old = state g.S.Store c.args.conn.now in
    let done = written_at old _ refl (create_seat old) (create_seat_stops old) given.survives c.run.result given.runs in
    record { ran = done.ran; fault = done.fault; crash = done.crash }
