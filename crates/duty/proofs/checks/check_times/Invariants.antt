use Rattle.std.proofs.Common.{◌≡◌, not, ◌+◌, drop}
use Rattle.std.specs.List.{position_from}
use Rattle.duty.specs.Pairings.{is_timely}
use Rattle.duty.specs.Words.{beside}
use Rattle.duty.proofs.checks.check_times.Given as goal

abbrev pub invariant-loop-index : goal.invariant-loop-index
invariant-loop-index l =
    position_from (λ p. not (is_timely p)) (l.index + 1) (beside l.released (λ f. f.release) (drop l.index l.periods))
    ≡ position_from (λ p. not (is_timely p)) 1 (beside 0 (λ f. f.release) l.periods)
