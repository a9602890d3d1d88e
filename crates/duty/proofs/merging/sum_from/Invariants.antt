use Rattle.std.proofs.Common.{◌≡◌, take}
use Rattle.std.specs.Prelude.{vec_len, vec_capacity}
use Rattle.duty.specs.Intervals.{AreSummed, spans_in, lengths}
use Rattle.duty.proofs.merging.sum_from.Given as goal

abbrev pub invariant-loop-index : goal.invariant-loop-index
invariant-loop-index l = record {
  spans : spans_in l.intervals.items ≡ spans_in l.fn.intervals.items;
  summed : AreSummed l.index l.intervals.items;
  total : l.total ≡ lengths (take l.index (spans_in l.fn.intervals.items));
  end : l.index-end ≡ vec_len l.fn.intervals;
  len : vec_len l.intervals ≡ vec_len l.fn.intervals;
  capacity : vec_capacity l.intervals ≡ vec_capacity l.fn.intervals;
}
