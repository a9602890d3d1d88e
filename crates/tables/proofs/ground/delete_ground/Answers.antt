use Rattle.std.proofs.Common.{◌∷◌, ap, ap₂, refl}
use Rattle.sqlite.specs.Values.{bound_value}
use Rattle.sqlite.specs.Held.{state}
use Rattle.tables.proofs.Statements.{written_by_both}
use Rattle.tables.proofs.GroundTexts.{delete_ground, delete_ground_stops}
use Rattle.tables.proofs.ground.delete_ground.Goals as goal

pub returns : goal.returns
returns g c =
    let given = c.run.ensures in
    let old = state g.S.Store c.args.conn.now in
    let done = written_by_both old _ (ap₂ ◌∷◌ (ap bound_value c.params-to_sql.ensures) refl) c.requires.there c.requires.free (delete_ground c.args.id.now old) (λ there free. delete_ground_stops c.args.id.now old given.live there free) given.survives c.run.result given.runs in
    record { ran = done.ran; fault = done.fault; crash = done.crash }
