use Rattle.sqlite.specs.Held.{state}
use Rattle.writing.proofs.Chaining.{then_write}
use Rattle.writing.proofs.writing.remove_pairing.Goals as goal

pub returns : goal.returns
returns g c =
    let G = g.S.Store in
    let new = state G c.remove_id.new.conn in
    then_write (state G c.args.conn.now) (state G c.remove_segments.new.conn) new tt c.remove_id.result c.in_ok-remove_segments.ensures
    (then_write (state G c.remove_segments.new.conn) (state G c.remove_periods.new.conn) new tt c.remove_id.result c.in_ok-remove_periods.ensures c.remove_id.ensures)
