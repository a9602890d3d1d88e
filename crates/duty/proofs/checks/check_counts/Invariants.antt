use Rattle.std.proofs.Common.{◌≡◌, not, ◌+◌, length, drop}
use Rattle.std.specs.List.{position_from}
use Rattle.duty.specs.Pairings.{is_segment_count}
use Rattle.duty.proofs.checks.check_counts.Given as goal

abbrev pub invariant-loop-index : goal.invariant-loop-index
invariant-loop-index l =
    position_from (λ f. not (is_segment_count (length f.segments))) (l.index + 1) (drop l.index l.periods)
    ≡ position_from (λ f. not (is_segment_count (length f.segments))) 1 l.periods
