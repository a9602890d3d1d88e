use Rattle.std.proofs.Common.{◌≡◌, not, ◌+◌, drop, []}
use Rattle.std.specs.List.{position_from}
use Rattle.duty.specs.Pairings.{is_chained}
use Rattle.duty.specs.Words.{beside}
use Rattle.duty.proofs.checks.check_chain.Given as goal

abbrev pub invariant-loop-index : goal.invariant-loop-index
invariant-loop-index l =
    position_from (λ p. not (is_chained p)) (l.index + 1) (beside l.before (λ f. f.segments) (drop l.index l.periods))
    ≡ position_from (λ p. not (is_chained p)) 1 (beside [] (λ f. f.segments) l.periods)
