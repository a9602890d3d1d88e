use Rattle.std.proofs.Common.{[], ◌∷◌, pos}
use Rattle.sqlite_value.specs.declared.value.Value.TheVariants.{Int}
use Rattle.sqlite.specs.Held.{state}
use Rattle.tables.specs.Records.{with_version}
use Rattle.tables.specs.Rows.{begins_with}
use Rattle.state_rows.specs.Rows.{book}
use Rattle.writing.proofs.Chaining.{wrote_ok}
use Rattle.writing.proofs.Tables.{updates_keep}
use Rattle.writing.proofs.migrating.set_version.Goals as goal

pub returns : goal.returns
returns g c =
    let given = c.in_ok-update_book.ensures in
    wrote_ok (state g.S.Store c.args.conn.now) (state g.S.Store c.update_book.new.conn) tt (updates_keep book (begins_with (Int (pos 1) ∷ [])) (with_version (pos 2))) c.requires given.ran given.crash
