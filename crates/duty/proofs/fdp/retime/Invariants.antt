use Rattle.std.proofs.Common.{◌≡◌, ◌++◌, map}
use Rattle.std.specs.List.{zip}
use Rattle.std.specs.Slice.Iter.{iter_rest}
use Rattle.duty.specs.Plans.{retimed}
use Rattle.duty.proofs.fdp.retime.Given as goal

abbrev pub invariant-loop-segment : goal.invariant-loop-segment
invariant-loop-segment l =
    l.flown.items ++ map retimed (zip (iter_rest l.segment-iterator.a) (iter_rest l.segment-iterator.b))
    ≡ map retimed (zip l.segments l.times)
