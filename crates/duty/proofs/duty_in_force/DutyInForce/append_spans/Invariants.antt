use Rattle.std.proofs.Common.{◌≡◌, ◌++◌, length, take}
use Rattle.duty.specs.Minutes.{spans_of}
use Rattle.duty.proofs.duty_in_force.DutyInForce.append_spans.Given as goal

abbrev pub invariant-loop-index : goal.invariant-loop-index
invariant-loop-index l = record {
  items : l.spans.items ≡ l.fn.spans.items ++ take l.index (spans_of l.kind l.self);
  end : l.index-end ≡ length (spans_of l.kind l.self);
}
