use Rattle.std.proofs.Common.{◌≡◌, ◌<◌, ℕ, Some, slice_get}
use Rattle.tables.specs.declared.seat.SeatRecord.{SeatRecord}
use Rattle.lookup.proofs.pairing.holder_in.Given as goal

abbrev pub invariant-loop-row : goal.invariant-loop-row
invariant-loop-row l = (i : ℕ) (row : SeatRecord) → i < l.row-index → slice_get l.seats i ≡ Some row → row.seat ≡ l.number → ⊥
