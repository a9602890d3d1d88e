use Rattle.sqlite.specs.Held.{state}
use Rattle.state_rows.specs.Rows.{pairing}
use Rattle.writing.proofs.Chaining.{wrote_ok}
use Rattle.writing.proofs.Tables.{inserts_keep}
use Rattle.writing.proofs.writing.add_id.Goals as goal

pub returns : goal.returns
returns g c =
    let given = rw c.in_ok-record.ensures at c.in_ok-insert_pairing.ensures in
    wrote_ok (state g.S.Store c.args.conn.now) (state g.S.Store c.insert_pairing.new.conn) tt (inserts_keep pairing _) c.requires given.ran given.crash
