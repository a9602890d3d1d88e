use Rattle.std.proofs.Common.{◌≡◌, take}
use Rattle.std.specs.List.{flat_map}
use Rattle.duty.specs.Minutes.{spans_of}
use Rattle.duty.proofs.history.spans_held.Given as goal

abbrev pub invariant-loop-duty : goal.invariant-loop-duty
invariant-loop-duty l = record {
  items : l.spans.items ≡ flat_map (spans_of l.kind) (take l.duty-index l.duties);
}
