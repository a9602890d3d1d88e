use Rattle.std.proofs.Common.{◌≡◌, take, false}
use Rattle.std.specs.List.{list_any}
use Rattle.duty.specs.Overlaps.{meets_span}
use Rattle.duty.specs.Intervals.{spans_in}
use Rattle.duty.proofs.intervals.Intervals.shares.Given as goal

abbrev pub invariant-loop-interval : goal.invariant-loop-interval
invariant-loop-interval l = record {
  items : spans_in l.interval-items ≡ l.fn.self.spans;
  none : list_any (λ span. list_any (meets_span span) l.other.spans) (take l.interval-index l.fn.self.spans) ≡ false;
}
