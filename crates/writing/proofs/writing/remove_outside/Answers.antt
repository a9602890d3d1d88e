use Rattle.sqlite.specs.Held.{state}
use Rattle.writing.proofs.Chaining.{then_write}
use Rattle.writing.proofs.writing.remove_outside.Goals as goal

pub returns : goal.returns
returns g c =
    let G = g.S.Store in
    let new = state G c.remove_outside_row.new.conn in
    then_write (state G c.args.conn.now) (state G c.remove_outside_segments.new.conn) new tt c.remove_outside_row.result c.in_ok-remove_outside_segments.ensures c.remove_outside_row.ensures
