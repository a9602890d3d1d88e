use Rattle.std.proofs.Common.{◌≡◌, ◌≤◌, ◌+◌, ◌-◌, ◌++◌, ◌∷◌, map}
use Rattle.std.specs.Prelude.{slice_range, vec_len, vec_capacity}
use Rattle.duty.specs.Intervals.{unsummed}
use Rattle.duty.proofs.merging.push_all.Given as goal

abbrev pub invariant-loop-index : goal.invariant-loop-index
invariant-loop-index g l = record {
  items : l.intervals.items ≡ l.fn.intervals.items ++ map unsummed (l.fn.span ∷ slice_range (g.S.Spans.spans l.spans) l.first l.index);
  order : l.first ≤ l.index;
  len : vec_len l.intervals ≡ vec_len l.fn.intervals + 1 + (l.index - l.first);
  capacity : vec_capacity l.fn.intervals ≤ vec_capacity l.intervals;
}
