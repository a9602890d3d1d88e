-- How many requests a state keeps, and which number is free for the next.
use Rattle.std.specs.Prelude.{◌≡◌, ◌+◌, ◌<◌, ◌≤◌, ℕ, ℤ, pos, true, if◌then◌else◌, IfOk, IfErr}
use Rattle.std.specs.Prelude.{Option, None, Some, IsSome, Result}
use Rattle.std.specs.FinMap as fin
use Rattle.sqlite.specs.State as conn
use Rattle.sqlite.specs.State.{HasCleanDisk, IsUnchanged}
use Rattle.request.specs.Range.{is_in_range}
use Rattle.command.specs.Keys.{KeyParts, key_name}
use Rattle.roster.specs.State.{State}
use Rattle.tables.specs.Tally.{IsTally}
use Rattle.tables.specs.declared.request.RequestTally.{RequestTally}
use Rattle.state_rows.specs.declared.fault.StoreFault.{StoreFault}
use Rattle.lookup.specs.Reads.{IsCausedIfStore, Stays}
use Rattle.lookup.specs.declared.count.RequestCount.{RequestCount}

-- the number is above the number of each key that is held
abbrev pub IsAboveAll : State → ℕ → Type 0
IsAboveAll s number =
    (key : KeyParts) → IsSome (fin.get s.requests (key_name key)) → key.number < number

-- this is the lowest of the numbers that a request may have and that are above all that are kept;
-- or there is none
abbrev pub IsNextNumber : State → Option ℕ → Type 0
IsNextNumber s None = (n : ℕ) → is_in_range n ≡ true → IsAboveAll s n → ⊥
IsNextNumber s (Some n) =
    (is_in_range n ≡ true) × IsAboveAll s n
    × ((m : ℕ) → is_in_range m ≡ true → IsAboveAll s m → n ≤ m)

-- this is how many keys the state holds, and the lowest number that is above all of theirs
pub record IsCount (s : State) (count : RequestCount) : Type 0 where
  pub kept : count.kept ≡ fin.len s.requests
  pub next : IsNextNumber s count.next

-- ---- As the program makes it

-- the number after a highest one, if a request may have it, or the first of all; none comes after a
-- number below 0
abbrev pub IsNumberAfter : Option ℤ → Option ℕ → Type 0
IsNumberAfter None next = next ≡ Some 1
IsNumberAfter (Some highest) next =
    (last : ℕ) × (highest ≡ pos last)
    × (next ≡ (if is_in_range (last + 1) then Some (last + 1) else None))

-- a count is made of how many rows there are, and the highest of their numbers
abbrev pub IsCountOf : RequestTally → RequestCount → Type 0
IsCountOf it count = (count.kept ≡ it.kept) × IsNumberAfter it.highest count.next

-- The table of requests is counted. Nothing is changed, the answer is that of the table, and a
-- fault of the store has a cause.
pub record ReadsTally (old new : conn.State) (result : Result RequestTally StoreFault)
    : Type 0 where
  pub stays : Stays old new
  pub told : HasCleanDisk new → IfOk result (λ it. IsUnchanged old new × IsTally old.now it)
  pub caused : IfErr result (IsCausedIfStore old new)
