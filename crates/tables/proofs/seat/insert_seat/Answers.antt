use Rattle.std.proofs.Common.{◌∷◌, ◌∙◌, ap, ap₂, refl}
use Rattle.sqlite_value.specs.declared.value.Value.TheVariants.{Text}
use Rattle.sqlite.specs.Values.{bound_value}
use Rattle.sqlite.specs.Held.{state}
use Rattle.tables.proofs.Holding.{inserted_by}
use Rattle.tables.proofs.SeatTexts.{insert_seat, insert_seat_stops}
use Rattle.tables.proofs.seat.insert_seat.Goals as goal

pub returns : goal.returns
returns g c =
    let given = c.run.ensures in
    let it = c.args.seat.now in
    let old = state g.S.Store c.args.conn.now in
    let done = inserted_by old _
    (ap₂ ◌∷◌ (ap bound_value c.params-to_sql.ensures ∙ ap Text c.as_str.ensures)
    (ap₂ ◌∷◌ (ap bound_value c.params-to_sql-2.ensures)
    (ap₂ ◌∷◌ (ap bound_value c.params-to_sql-3.ensures ∙ ap Text c.as_str-2.ensures) refl)))
    c.requires (insert_seat it old) (λ there. insert_seat_stops it old given.live there) given.survives c.run.result given.runs in
    record { ran = done.ran; held = done.held; fault = done.fault; crash = done.crash }
