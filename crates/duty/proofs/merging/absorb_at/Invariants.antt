use Rattle.std.proofs.Common.{◌≡◌, ◌≤◌}
use Rattle.std.specs.Prelude.{vec_len, vec_capacity}
use Rattle.duty.proofs.Absorbing.{IsAbsorbing}
use Rattle.duty.proofs.merging.absorb_at.Given as goal

abbrev pub invariant-loop-intervals : goal.invariant-loop-intervals
invariant-loop-intervals l = record {
  absorbing : IsAbsorbing l.fn.intervals.items l.place l.fn.span l.intervals.items l.merged;
  fewer : vec_len l.intervals ≤ vec_len l.fn.intervals;
  capacity : vec_capacity l.intervals ≡ vec_capacity l.fn.intervals;
}

abbrev pub decreases-loop-intervals : goal.decreases-loop-intervals
decreases-loop-intervals l = vec_len l.intervals
