use Rattle.std.specs.Prelude.{◌≡◌, ℕ, length, true, slice_get, Some}
use Rattle.std.specs.List.{list_all}
use Rattle.duty.specs.declared.segment.BlockTimes.{BlockTimes}
use Rattle.stored_json.specs.Instants.{times_have_instants}
use Rattle.entries.specs.OneOutside.{HasTimesAt}
use Rattle.entries.proofs.one_outside.all_times.Given as goal

abbrev pub invariant-loop-place : goal.invariant-loop-place
invariant-loop-place l = (length l.all.items ≡ l.place)
    × ((i : ℕ) (times : BlockTimes) → slice_get l.all.items i ≡ Some times → HasTimesAt l.segments i times)
    × (list_all times_have_instants l.all.items ≡ true)
