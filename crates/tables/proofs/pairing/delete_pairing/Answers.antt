use Rattle.std.proofs.Common.{◌∷◌, ap, ap₂, refl}
use Rattle.sqlite.specs.Values.{bound_value}
use Rattle.sqlite.specs.Held.{state}
use Rattle.tables.proofs.Statements.{written_by_both}
use Rattle.tables.proofs.PairingTexts.{delete_pairing, delete_pairing_stops}
use Rattle.tables.proofs.pairing.delete_pairing.Goals as goal

pub returns : goal.returns
returns g c =
    let given = c.run.ensures in
    let old = state g.S.Store c.args.conn.now in
    let done = written_by_both old _ (ap₂ ◌∷◌ (ap bound_value c.params-to_sql.ensures) refl) c.requires.there c.requires.free (delete_pairing c.args.id.now old) (λ there free. delete_pairing_stops c.args.id.now old given.live there free) given.survives c.run.result given.runs in
    record { ran = done.ran; fault = done.fault; crash = done.crash }
