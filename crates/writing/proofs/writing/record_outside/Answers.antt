use Rattle.sqlite.specs.Held.{state}
use Rattle.writing.proofs.Chaining.{then_write}
use Rattle.writing.proofs.writing.record_outside.Goals as goal

pub returns : goal.returns
returns g c =
    let G = g.S.Store in
    let new = state G c.record_outside_of.new.conn in
    let removed = rw c.id.ensures.id at c.in_ok-remove_outside.ensures in
    let told = rw c.id-2.ensures.id at c.record_outside_of.ensures in
    then_write (state G c.args.conn.now) (state G c.remove_outside.new.conn) new tt c.record_outside_of.result removed
    (then_write (state G c.remove_outside.new.conn) (state G c.add_outside.new.conn) new tt c.record_outside_of.result c.in_ok-add_outside.ensures told)
