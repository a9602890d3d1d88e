use Rattle.waiting.proofs.RoomLemmas.{IsSoFar}
use Rattle.waiting.proofs.room.Room.serve_one.Given as goal

abbrev pub invariant-loop-turn : goal.invariant-loop-turn
invariant-loop-turn g l = IsSoFar g.A.Answerer.answers g.A.Answerer.fails l.fn.self l.self l.fn.kept l.kept
