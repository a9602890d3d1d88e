use Rattle.std.proofs.Common.{[], ◌∷◌}
use Rattle.sqlite_value.specs.declared.value.Value.TheVariants.{Text}
use Rattle.sqlite.specs.Held.{state}
use Rattle.tables.specs.Rows.{begins_with}
use Rattle.state_rows.specs.Rows.{outside}
use Rattle.writing.proofs.Chaining.{wrote_ok}
use Rattle.writing.proofs.Tables.{deletes_keep}
use Rattle.writing.proofs.writing.remove_outside_row.Goals as goal

pub returns : goal.returns
returns g c =
    let given = rw (c.as_str.ensures) at c.in_ok-delete_outside.ensures in
    wrote_ok (state g.S.Store c.args.conn.now) (state g.S.Store c.delete_outside.new.conn) tt (deletes_keep outside (begins_with (Text c.args.id.now ∷ []))) c.requires given.ran given.crash
