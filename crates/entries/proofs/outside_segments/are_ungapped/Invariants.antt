use Rattle.std.specs.FinMap as fin
use Rattle.entries.specs.Keyed.{Follows}
use Rattle.entries.specs.OutsideRows.{name_of_outside_segment, outside_segment_name}
use Rattle.entries.proofs.Entries.{Passed}
use Rattle.entries.proofs.outside_segments.are_ungapped.Given as goal

abbrev pub invariant-loop-key : goal.invariant-loop-key
invariant-loop-key l = Passed name_of_outside_segment (λ key. Follows (λ number. fin.get l.segments (outside_segment_name key.outside number)) key.number) l.segments l.key-iterator
