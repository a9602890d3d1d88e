use Rattle.waiting.proofs.RoomLemmas.{at_first, closed_if, then_open, turned}
use Rattle.waiting.proofs.room.Room.serve_one.Goals as goal

pub loop-turn-init : goal.loop-turn-init
loop-turn-init g c = at_first g.A.Answerer.answers g.A.Answerer.fails c.args.self.now c.args.kept.now

pub loop-turn-preserved : goal.loop-turn-preserved
loop-turn-preserved g c =
    let closed = closed_if g.A.Answerer.answers g.A.Answerer.fails c.args.self.now c.loop-turn.self c.close_if.new.self c.args.kept.now c.loop-turn.kept c.has_failed.result
    c.loop-turn.invariant c.has_failed.ensures c.close_if.ensures.requests c.close_if.ensures.open in
    turned g.A.Answerer.answers g.A.Answerer.fails c.args.self.now c.close_if.new.self c.welcome.new.self c.go_on_or_wait.new.self c.args.kept.now c.loop-turn.kept
    c.go_on_or_wait.new.kept closed (then_open c.close_if.new.self c.leave.new.self c.welcome.new.self c.in_default.ensures c.in_default-welcome.ensures)
    c.go_on_or_wait.ensures.answered c.go_on_or_wait.ensures.open
