use Rattle.waiting.specs.Rooms.{KeepsConnections}
use Rattle.waiting.proofs.room.Room.welcome.Given as goal

abbrev pub invariant-loop-place : goal.invariant-loop-place
invariant-loop-place g l = KeepsConnections l.fn.self l.self
