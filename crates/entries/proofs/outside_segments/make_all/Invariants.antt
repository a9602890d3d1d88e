use Rattle.entries.proofs.KeyedOutsideSegments.{Making}
use Rattle.entries.proofs.outside_segments.make_all.Given as goal

abbrev pub invariant-loop-id : goal.invariant-loop-id
invariant-loop-id l = Making l.outsides l.segments l.made l.id-iterator
