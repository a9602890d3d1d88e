use Rattle.sqlite.specs.Held.{state}
use Rattle.writing.proofs.Chaining.{then_write}
use Rattle.writing.proofs.writing.add_outside.Goals as goal

pub returns : goal.returns
returns g c =
    let G = g.S.Store in
    let new = state G c.add_outside_segments.new.conn in
    let segments = rw (c.id.ensures.id, c.segments.ensures) at c.add_outside_segments.ensures in
    then_write (state G c.args.conn.now) (state G c.add_outside_row.new.conn) new tt c.add_outside_segments.result c.in_ok-add_outside_row.ensures segments
