use Rattle.std.proofs.Common.{[], ◌∷◌, pos}
use Rattle.sqlite_value.specs.declared.value.Value.TheVariants.{Int, Text}
use Rattle.sqlite.specs.Held.{state}
use Rattle.tables.specs.Rows.{begins_with}
use Rattle.state_rows.specs.Rows.{seat, seat_number}
use Rattle.writing.proofs.Chaining.{wrote_ok}
use Rattle.writing.proofs.Tables.{deletes_keep}
use Rattle.writing.proofs.writing.free_seat.Goals as goal

pub returns : goal.returns
returns g c =
    let given = rw (c.as_str.ensures, c.number_of_seat-seat.ensures) at c.in_ok-delete_seat.ensures in
    wrote_ok (state g.S.Store c.args.conn.now) (state g.S.Store c.delete_seat.new.conn) tt (deletes_keep seat (begins_with (Text c.args.change.now.pairing ∷ Int (pos (seat_number c.args.change.now.seat)) ∷ []))) c.requires given.ran given.crash
