-- How long a rest is (117.25): minutes in a row that hold none of a set, as of a member's duty.
use Rattle.std.specs.Prelude.{◌≡◌, ℕ, ◌≤◌, Bool, ℤ, pos, ◌-ℤ◌}
use Rattle.duty.specs.Minutes.{count, HasFreeRun}

-- Some `length` minutes in a row among the `width` minutes from `from` on hold no minute of the
-- set, and no longer run among those `width` minutes does.
pub record IsLongestFreeRun (set : ℤ → Bool) (from : ℤ) (width length : ℕ) : Type 0 where
  pub runs : HasFreeRun set from width length
  pub longest : (other : ℕ) → HasFreeRun set from width other → other ≤ length

-- The `free` minutes before `end`, at most `most`, hold no minute of the set, and no more than
-- `free` of at most `most` minutes before `end` do.
pub record IsFreeBefore (set : ℤ → Bool) (end : ℤ) (most free : ℕ) : Type 0 where
  pub within : free ≤ most
  pub is_free : count set (end -ℤ pos free) free ≡ 0
  pub longest : (other : ℕ) → other ≤ most → count set (end -ℤ pos other) other ≡ 0 → other ≤ free
