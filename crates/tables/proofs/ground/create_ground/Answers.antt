use Rattle.std.proofs.Common.{refl}
use Rattle.sqlite.specs.Held.{state}
use Rattle.tables.proofs.Statements.{written_at}
use Rattle.tables.proofs.GroundTexts.{create_ground, create_ground_stops}
use Rattle.tables.proofs.ground.create_ground.Goals as goal

pub returns : goal.returns
returns g c =
    let given = c.run.ensures in
    let old = state g.S.Store c.args.conn.now in
    let done = written_at old _ refl (create_ground old) (create_ground_stops old) given.survives c.run.result given.runs in
    record { ran = done.ran; fault = done.fault; crash = done.crash }
