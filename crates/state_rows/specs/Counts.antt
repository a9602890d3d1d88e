-- How many segments a period has. No public clause names the definition of this file.
use Rattle.std.specs.Prelude.{◌≡◌, ◌≤◌, ℕ, List, length, Some, slice_get}
use Rattle.duty.specs.declared.fdp.Fdp.{Fdp}

-- each period of the list has at most twelve segments
abbrev pub HaveFewSegments : List Fdp → Type 0
HaveFewSegments periods = (place : ℕ) (fdp : Fdp) → slice_get periods place ≡ Some fdp →
    length fdp.segments ≤ 12
