use Rattle.std.proofs.Common.{◌≡◌, ◌≤◌, ◌*◌, ◌-◌, take}
use Rattle.std.specs.List.{sum_by}
use Rattle.duty.proofs.segment.flight_minutes.Given as goal

abbrev pub invariant-loop-segment : goal.invariant-loop-segment
invariant-loop-segment g l = record {
  total : l.minutes ≡ sum_by (λ s. (g.S.Timed.times s).block_in - (g.S.Timed.times s).block_out) (take l.segment-index l.segments);
  bounded : l.minutes ≤ 52_596_000 * l.segment-index;
}
