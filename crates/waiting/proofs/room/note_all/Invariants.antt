use Rattle.waiting.specs.Rooms.{StayAsFar}
use Rattle.waiting.proofs.room.note_all.Given as goal

abbrev pub invariant-loop-connection : goal.invariant-loop-connection
invariant-loop-connection l = StayAsFar l.fn.connections.items l.connection-items
