use Rattle.std.proofs.Common.{refl}
use Rattle.sqlite.specs.Held.{state}
use Rattle.tables.proofs.Statements.{written_at}
use Rattle.tables.proofs.CrewTexts.{create_crew, create_crew_stops}
use Rattle.tables.proofs.crew.create_crew.Goals as goal

pub returns : goal.returns
returns g c =
    let given = c.run.ensures in
    let old = state g.S.Store c.args.conn.now in
    let done = written_at old _ refl (create_crew old) (create_crew_stops old) given.survives c.run.result given.runs in
    record { ran = done.ran; fault = done.fault; crash = done.crash }
