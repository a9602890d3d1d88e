use Rattle.sqlite.specs.Held.{state}
use Rattle.writing.proofs.Chaining.{then_write}
use Rattle.writing.proofs.writing.add_pairing.Goals as goal

pub returns : goal.returns
returns g c =
    let G = g.S.Store in
    let one = state G c.add_id.new.conn in
    let new = state G c.add_segments.new.conn in
    let named = rw c.id.ensures.id at c.in_ok-add_id.ensures in
    let periods = rw (c.id-2.ensures.id, c.periods-periods.ensures.periods) at c.in_ok-add_periods.ensures in
    let segments = rw (c.id-3.ensures.id, c.periods-periods.ensures.periods) at c.add_segments.ensures in
    then_write (state G c.args.conn.now) one new tt c.add_segments.result named
    (then_write one (state G c.add_periods.new.conn) new tt c.add_segments.result periods segments)
