use Rattle.sqlite.specs.Held.{state}
use Rattle.state_rows.specs.Rows.{base}
use Rattle.writing.proofs.Chaining.{wrote_ok}
use Rattle.writing.proofs.Tables.{inserts_keep}
use Rattle.writing.proofs.writing.add_base.Goals as goal

pub returns : goal.returns
returns g c =
    let given = rw c.in_ok-record.ensures at c.in_ok-insert_base.ensures in
    wrote_ok (state g.S.Store c.args.conn.now) (state g.S.Store c.insert_base.new.conn) tt (inserts_keep base _) c.requires given.ran given.crash
