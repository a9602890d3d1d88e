use Rattle.std.proofs.Common.{◌≡◌, ◌+◌, length}
use Rattle.std.specs.Vec.Iter.{into_iter_items}
use Rattle.codec.specs.Grouping.{IsGroupedUpTo}
use Rattle.codec.proofs.grouping.group_segments.Given as goal

abbrev pub invariant-loop-it : goal.invariant-loop-it
invariant-loop-it l =
    (l.number ≡ 2 + length l.yielded)
    × IsGroupedUpTo l.fn.segments.items l.yielded (into_iter_items l.it-iterator) l.grouping
