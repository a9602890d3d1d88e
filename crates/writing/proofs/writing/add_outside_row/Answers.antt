use Rattle.sqlite.specs.Held.{state}
use Rattle.state_rows.specs.Rows.{outside}
use Rattle.writing.proofs.Chaining.{wrote_ok}
use Rattle.writing.proofs.Tables.{inserts_keep}
use Rattle.writing.proofs.writing.add_outside_row.Goals as goal

pub returns : goal.returns
returns g c =
    let given = rw c.in_ok-record.ensures at c.in_ok-insert_outside.ensures in
    wrote_ok (state g.S.Store c.args.conn.now) (state g.S.Store c.insert_outside.new.conn) tt (inserts_keep outside _) c.requires given.ran given.crash
