use Rattle.sqlite.specs.Held.{state}
use Rattle.writing.proofs.Chaining.{then_write}
use Rattle.writing.proofs.writing.fly.Goals as goal

pub returns : goal.returns
returns g c =
    let G = g.S.Store in
    let new = state G c.record_flown.new.conn in
    then_write (state G c.args.conn.now) (state G c.fly_period.new.conn) new tt c.record_flown.result c.in_ok-fly_period.ensures
    (then_write (state G c.fly_period.new.conn) (state G c.fly_segments.new.conn) new tt c.record_flown.result
    (rw (c.segments.ensures, c.period-number.ensures.period) at c.in_ok-fly_segments.ensures)
    (rw c.period-number.ensures.period at c.record_flown.ensures))
