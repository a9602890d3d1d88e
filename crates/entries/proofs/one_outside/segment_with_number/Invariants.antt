use Rattle.std.proofs.Common.{◌≡◌, ◌<◌, ℕ, Some, slice_get}
use Rattle.tables.specs.declared.outside_segment.OutsideSegmentRecord.{OutsideSegmentRecord}
use Rattle.entries.proofs.one_outside.segment_with_number.Given as goal

abbrev pub invariant-loop-row : goal.invariant-loop-row
invariant-loop-row l = (i : ℕ) (it : OutsideSegmentRecord) → i < l.row-index → slice_get l.segments i ≡ Some it → it.number ≡ l.number → ⊥
