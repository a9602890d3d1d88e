use Rattle.waiting.specs.Rooms.{StayAsFar}
use Rattle.waiting.proofs.room.note_events.Given as goal

abbrev pub invariant-loop-event : goal.invariant-loop-event
invariant-loop-event l = StayAsFar l.fn.connections.items l.connections.items
