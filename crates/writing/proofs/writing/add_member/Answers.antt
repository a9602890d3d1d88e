use Rattle.sqlite.specs.Held.{state}
use Rattle.writing.proofs.Chaining.{then_write}
use Rattle.writing.proofs.writing.add_member.Goals as goal

pub returns : goal.returns
returns g c =
    let G = g.S.Store in
    then_write (state G c.args.conn.now) (state G c.add_crew.new.conn) (state G c.add_post.new.conn) tt c.add_post.result c.in_ok-add_crew.ensures c.add_post.ensures
