use Rattle.std.specs.FinMap as fin
use Rattle.entries.specs.Keyed.{Follows, name_of_period}
use Rattle.entries.specs.PlanRows.{period_name}
use Rattle.entries.proofs.Entries.{Passed}
use Rattle.entries.proofs.periods.are_ungapped.Given as goal

abbrev pub invariant-loop-key : goal.invariant-loop-key
invariant-loop-key l = Passed name_of_period (λ key. Follows (λ number. fin.get l.periods (period_name key.pairing number)) key.number) l.periods l.key-iterator
