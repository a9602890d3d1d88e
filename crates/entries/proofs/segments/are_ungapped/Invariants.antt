use Rattle.std.specs.FinMap as fin
use Rattle.entries.specs.Keyed.{Follows, name_of_segment}
use Rattle.entries.specs.PlanRows.{segment_name}
use Rattle.entries.proofs.Entries.{Passed}
use Rattle.entries.proofs.segments.are_ungapped.Given as goal

abbrev pub invariant-loop-key : goal.invariant-loop-key
invariant-loop-key l = Passed name_of_segment (λ key. Follows (λ number. fin.get l.segments (segment_name key.pairing key.period number)) key.number) l.segments l.key-iterator
