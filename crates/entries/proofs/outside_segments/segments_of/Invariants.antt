use Rattle.entries.proofs.KeyedOutsideSegments.{AreInTurn}
use Rattle.entries.proofs.outside_segments.segments_of.Given as goal

abbrev pub invariant-loop-place : goal.invariant-loop-place
invariant-loop-place l = AreInTurn l.segments l.outside l.place l.its.items
