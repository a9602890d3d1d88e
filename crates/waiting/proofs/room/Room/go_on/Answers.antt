use Rattle.std.proofs.Common.{◌<◌, ◌∙◌, length, arith}
use Rattle.std.proofs.lemmas.List.{length-set}
use Rattle.waiting.proofs.RoomLemmas.{one_gone_on}
use Rattle.waiting.proofs.room.Room.go_on.Goals as goal

pub loop-connection-preserved : goal.loop-connection-preserved
loop-connection-preserved g c =
    let items = c.loop-connection.connection-items in
    let at = c.loop-connection.connection-index in
    let within : at < length items = omega (arith, c.loop-connection-test.true, c.loop-connection.auto.connection-items) in
    record {
      answered = one_gone_on g.A.Answerer.answers g.A.Answerer.fails c.args.self.now.connections.items items at c.connection-item.result c.go_on-over.new.self c.args.kept.now
          c.loop-connection.kept c.go_on-over.new.kept c.loop-connection.invariant.answered within c.go_on-over.ensures;
      count = length-set items at c.go_on-over.new.self ∙ c.loop-connection.invariant.count;
    }
