use Rattle.std.proofs.Common.{◌∷◌, ◌∙◌, ap, ap₂, refl}
use Rattle.sqlite_value.specs.declared.value.Value.TheVariants.{Text}
use Rattle.sqlite.specs.Values.{bound_value}
use Rattle.sqlite.specs.Held.{state}
use Rattle.tables.proofs.Holding.{inserted_by}
use Rattle.tables.proofs.GroundTexts.{insert_ground, insert_ground_stops}
use Rattle.tables.proofs.ground.insert_ground.Goals as goal

pub returns : goal.returns
returns g c =
    let given = c.run.ensures in
    let it = c.args.ground.now in
    let old = state g.S.Store c.args.conn.now in
    let done = inserted_by old _
    (ap₂ ◌∷◌ (ap bound_value c.params-to_sql.ensures ∙ ap Text c.as_str.ensures)
    (ap₂ ◌∷◌ (ap bound_value c.params-to_sql-2.ensures ∙ ap Text c.as_str-2.ensures)
    (ap₂ ◌∷◌ (ap bound_value c.params-to_sql-3.ensures ∙ ap Text c.as_str-3.ensures)
    (ap₂ ◌∷◌ (ap bound_value c.params-to_sql-4.ensures)
    (ap₂ ◌∷◌ (ap bound_value c.params-to_sql-5.ensures) refl)))))
    c.requires (insert_ground it old) (λ there. insert_ground_stops it old given.live there) given.survives c.run.result given.runs in
    record { ran = done.ran; held = done.held; fault = done.fault; crash = done.crash }
