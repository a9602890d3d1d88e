use Rattle.std.proofs.Common.{◌≡◌, ◌≤◌, ◌-◌, take}
use Rattle.std.specs.List.{sum_by}
use Rattle.limits.proofs.table_limits.is_longer.Given as goal

abbrev pub invariant-loop-segment : goal.invariant-loop-segment
invariant-loop-segment l = record {
  total : l.total ≡ sum_by (λ segment. segment.to - segment.from) (take l.segment-index l.segments);
  within : l.total ≤ l.most;
}
