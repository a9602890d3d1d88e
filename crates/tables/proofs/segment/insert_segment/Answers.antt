use Rattle.std.proofs.Common.{◌∷◌, ◌∙◌, ap, ap₂, refl}
use Rattle.sqlite_value.specs.declared.value.Value.TheVariants.{Text}
use Rattle.sqlite.specs.Values.{bound_value}
use Rattle.sqlite.specs.Held.{state}
use Rattle.tables.proofs.Selecting.{bound_number}
use Rattle.tables.proofs.Holding.{inserted_by}
use Rattle.tables.proofs.SegmentTexts.{insert_segment, insert_segment_stops}
use Rattle.tables.proofs.segment.insert_segment.Goals as goal

pub returns : goal.returns
returns g c =
    let given = c.run.ensures in
    let it = c.args.segment.now in
    let old = state g.S.Store c.args.conn.now in
    let done = inserted_by old _
    (ap₂ ◌∷◌ (ap bound_value c.params-to_sql.ensures ∙ ap Text c.as_str.ensures)
    (ap₂ ◌∷◌ (ap bound_value c.params-to_sql-2.ensures)
    (ap₂ ◌∷◌ (ap bound_value c.params-to_sql-3.ensures)
    (ap₂ ◌∷◌ (ap bound_value c.params-to_sql-4.ensures ∙ ap Text c.as_str-2.ensures)
    (ap₂ ◌∷◌ (ap bound_value c.params-to_sql-5.ensures ∙ ap Text c.as_str-3.ensures)
    (ap₂ ◌∷◌ (ap bound_value c.params-to_sql-6.ensures ∙ ap Text c.as_str-4.ensures)
    (ap₂ ◌∷◌ (ap bound_value c.params-to_sql-7.ensures)
    (ap₂ ◌∷◌ (ap bound_value c.params-to_sql-8.ensures)
    (ap₂ ◌∷◌ (ap bound_value c.params-to_sql-9.ensures ∙ bound_number it.act_out)
    (ap₂ ◌∷◌ (ap bound_value c.params-to_sql-10.ensures ∙ bound_number it.act_in) refl))))))))))
    c.requires (insert_segment it old) (λ there. insert_segment_stops it old given.live there) given.survives c.run.result given.runs in
    record { ran = done.ran; held = done.held; fault = done.fault; crash = done.crash }
