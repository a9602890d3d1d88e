-- The fullest windows: of the windows of minutes in a row that a limit of 117.23 looks at, the
-- windows that hold the most. The sets are minutes of one kind: `all` of a member's duties, `new`
-- of the new duties. If all duties are new, the windows that are left out hold nothing.
use Rattle.std.specs.Prelude.{◌≡◌, ℕ, ◌<◌, ◌≤◌, Bool, ℤ, pos, ◌*ℤ◌, ◌<ℤ◌, IsTrue}
use Rattle.duty.specs.Minutes.{count, Meets}

-- Of the windows of `width` minutes in a row that meet a minute of `new`, the window from `start`
-- on holds `minutes` minutes of `all`, no other window holds more, and no earlier window holds as
-- many.
pub record IsFullest (all new : ℤ → Bool) (width minutes : ℕ) (start : ℤ) : Type 0 where
  pub meets : Meets new start width
  pub holds : count all start width ≡ minutes
  pub most : (other : ℤ) → Meets new other width → count all other width ≤ minutes
  pub first : (other : ℤ) → other <ℤ start → Meets new other width →
      count all other width < minutes

-- Of the windows of 365 days of UTC (117.3) in a row, each from the first minute of a day on, that
-- meet a minute of `new`, the window from `start` on holds `minutes` minutes of `all`, no other
-- window holds more, and no earlier window holds as many.
pub record IsFullestYear (all new : ℤ → Bool) (minutes : ℕ) (start : ℤ) : Type 0 where
  pub day : ℤ
  pub begins : start ≡ day *ℤ pos 1_440
  pub meets : Meets new start 525_600
  pub holds : count all start 525_600 ≡ minutes
  pub most : (other : ℤ) → Meets new (other *ℤ pos 1_440) 525_600 →
      count all (other *ℤ pos 1_440) 525_600 ≤ minutes
  pub first : (other : ℤ) → other <ℤ day → Meets new (other *ℤ pos 1_440) 525_600 →
      count all (other *ℤ pos 1_440) 525_600 < minutes

-- the set has no minute
abbrev pub HasNoMinute : (ℤ → Bool) → Type 0
HasNoMinute set = (minute : ℤ) → IsTrue (set minute) → ⊥
