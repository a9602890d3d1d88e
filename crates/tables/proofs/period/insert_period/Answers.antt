use Rattle.std.proofs.Common.{◌∷◌, ◌∙◌, ap, ap₂, refl}
use Rattle.sqlite_value.specs.declared.value.Value.TheVariants.{Text}
use Rattle.sqlite.specs.Values.{bound_value}
use Rattle.sqlite.specs.Held.{state}
use Rattle.tables.proofs.Selecting.{bound_number}
use Rattle.tables.proofs.Holding.{inserted_by}
use Rattle.tables.proofs.PeriodTexts.{insert_period, insert_period_stops}
use Rattle.tables.proofs.period.insert_period.Goals as goal

pub returns : goal.returns
returns g c =
    let given = c.run.ensures in
    let it = c.args.period.now in
    let old = state g.S.Store c.args.conn.now in
    let done = inserted_by old _
    (ap₂ ◌∷◌ (ap bound_value c.params-to_sql.ensures ∙ ap Text c.as_str.ensures)
    (ap₂ ◌∷◌ (ap bound_value c.params-to_sql-2.ensures)
    (ap₂ ◌∷◌ (ap bound_value c.params-to_sql-3.ensures)
    (ap₂ ◌∷◌ (ap bound_value c.params-to_sql-4.ensures)
    (ap₂ ◌∷◌ (ap bound_value c.params-to_sql-5.ensures ∙ bound_number it.act_report)
    (ap₂ ◌∷◌ (ap bound_value c.params-to_sql-6.ensures ∙ bound_number it.act_release) refl))))))
    c.requires (insert_period it old) (λ there. insert_period_stops it old given.live there) given.survives c.run.result given.runs in
    record { ran = done.ran; held = done.held; fault = done.fault; crash = done.crash }
