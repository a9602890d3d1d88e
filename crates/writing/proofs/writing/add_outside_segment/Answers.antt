use Rattle.sqlite.specs.Held.{state}
use Rattle.state_rows.specs.Rows.{outside_segment}
use Rattle.writing.proofs.Chaining.{wrote_ok}
use Rattle.writing.proofs.Tables.{inserts_keep}
use Rattle.writing.proofs.writing.add_outside_segment.Goals as goal

pub returns : goal.returns
returns g c =
    let given = rw c.in_ok-record.ensures at c.in_ok-insert_outside_segment.ensures in
    wrote_ok (state g.S.Store c.args.conn.now) (state g.S.Store c.insert_outside_segment.new.conn) tt (inserts_keep outside_segment _) c.requires.ready given.ran given.crash
