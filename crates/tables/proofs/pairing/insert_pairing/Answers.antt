use Rattle.std.proofs.Common.{◌∷◌, ◌∙◌, ap, ap₂, refl}
use Rattle.sqlite_value.specs.declared.value.Value.TheVariants.{Text}
use Rattle.sqlite.specs.Values.{bound_value}
use Rattle.sqlite.specs.Held.{state}
use Rattle.tables.proofs.Holding.{inserted_by}
use Rattle.tables.proofs.PairingTexts.{insert_pairing, insert_pairing_stops}
use Rattle.tables.proofs.pairing.insert_pairing.Goals as goal

pub returns : goal.returns
returns g c =
    let given = c.run.ensures in
    let it = c.args.pairing.now in
    let old = state g.S.Store c.args.conn.now in
    let done = inserted_by old _
    (ap₂ ◌∷◌ (ap bound_value c.params-to_sql.ensures ∙ ap Text c.as_str.ensures) refl)
    c.requires (insert_pairing it old) (λ there. insert_pairing_stops it old given.live there) given.survives c.run.result given.runs in
    record { ran = done.ran; held = done.held; fault = done.fault; crash = done.crash }
