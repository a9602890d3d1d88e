use Rattle.std.proofs.Common.{◌≡◌, length, take, false}
use Rattle.std.specs.List.{list_any}
use Rattle.duty.specs.Minutes.{spans_of}
use Rattle.duty.proofs.scan.any_span_of.Given as goal

abbrev pub invariant-loop-index : goal.invariant-loop-index
invariant-loop-index g l = record {
  end : l.index-end ≡ length (spans_of l.kind l.duty);
  none : list_any (g.T.SpanTest.passes l.test) (take l.index (spans_of l.kind l.duty)) ≡ false;
}
