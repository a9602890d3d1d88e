-- The limits on each flight duty period, and the period that is nearest to such a limit. `all` is a
-- member's duties, the new ones too; `new` is the new duties, which are the duties of `all` from
-- index `others` on.
use Rattle.std.specs.Prelude.{◌≡◌, ℕ, ◌<◌, ◌≤◌, Bool, List, length, ℤ, pos, ◌-ℤ◌, ◌≤ℤ◌, ◌<ℤ◌}
use Rattle.std.specs.Prelude.{Option, Some, slice_get, ◌⊎◌}
use Rattle.std.specs.Option.{option_map}
use Rattle.duty.specs.FdpTimes.{FdpTimes}
use Rattle.duty.specs.Minutes.{fdp_length, flight_time, minutes_in, Meets}
use Rattle.duty.specs.declared.duty_in_force.DutyInForce.{DutyInForce}
use Rattle.duty.specs.declared.duty_in_force.DutyInForce.TheVariants.{Fdp}
use Rattle.duty.specs.declared.kind.Kind.TheVariants.{Duty}
use Rattle.limits.specs.Tables.{table_a, table_b}
use Rattle.nearness.specs.Rests.{IsLongestFreeRun, IsFreeBefore}
use Rattle.nearness.specs.declared.periods.MeasuredPeriod.{MeasuredPeriod}
use Rattle.nearness.specs.declared.periods.PeriodLimit.{PeriodLimit}
use Rattle.nearness.specs.declared.periods.PeriodLimit.TheVariants.{TableA, TableB, ThirtyHours}
use Rattle.nearness.specs.declared.periods.PeriodLimit.TheVariants.{TenHours}

-- The minutes of a flight duty period that a limit counts, if `duty` is the set of duty minutes: by
-- 117.11(a)(1) its flight time, by 117.13(a) its length from report to the last block-in, by
-- 117.25(b) the longest rest in the 168 hours before its report, and by 117.25(e) the rest just
-- before its report, of which at most 168 hours are counted.
abbrev pub Counts : PeriodLimit → (ℤ → Bool) → FdpTimes → ℕ → Type 0
Counts TableA duty fdp minutes = minutes ≡ flight_time fdp
Counts TableB duty fdp minutes = minutes ≡ fdp_length fdp
Counts ThirtyHours duty fdp minutes =
    IsLongestFreeRun duty (pos fdp.report -ℤ pos 10_080) 10_080 minutes
Counts TenHours duty fdp minutes = IsFreeBefore duty (pos fdp.report) 10_080 minutes

-- The minutes that the regulation sets for a flight duty period: at most the minutes of Table A
-- (117.11(a)(1)) and of Table B (117.13(a)), at least 30 hours of rest (117.25(b)) and 10 hours of
-- rest (117.25(e)). The tables set no minutes for a period without a start.
abbrev pub minutes_set : PeriodLimit → FdpTimes → Option ℕ
minutes_set TableA fdp = option_map table_a fdp.start
minutes_set TableB fdp = option_map (λ start. table_b start (length fdp.segments)) fdp.start
minutes_set ThirtyHours fdp = Some 1_800
minutes_set TenHours fdp = Some 600

-- how many minutes are left to a limit that counts `minutes` of a period, if the regulation sets
-- `limit` minutes for that period: below zero if the limit is exceeded
abbrev pub minutes_left : PeriodLimit → (minutes limit : ℕ) → ℤ
minutes_left TableA minutes limit = pos limit -ℤ pos minutes
minutes_left TableB minutes limit = pos limit -ℤ pos minutes
minutes_left ThirtyHours minutes limit = pos minutes -ℤ pos limit
minutes_left TenHours minutes limit = pos minutes -ℤ pos limit

-- New duties, from index `others` on, touch the flight duty period at index `k`: the period is a
-- new duty, or the limit is on rest, and the 168 hours (117.25(b)) or the 10 hours (117.25(e))
-- before its report meet `new`, the duty minutes of the new duties.
abbrev pub Touches : PeriodLimit → (others k : ℕ) → (new : ℤ → Bool) → FdpTimes → Type 0
Touches TableA others k new fdp = others ≤ k
Touches TableB others k new fdp = others ≤ k
Touches ThirtyHours others k new fdp =
    (others ≤ k) ⊎ Meets new (pos fdp.report -ℤ pos 10_080) 10_080
Touches TenHours others k new fdp = (others ≤ k) ⊎ Meets new (pos fdp.report -ℤ pos 600) 600

-- The duty at index `k` is a flight duty period that new duties touch, the limit counts `minutes`
-- of that period, and the regulation sets `set` minutes for that period.
pub record IsMeasured (limit : PeriodLimit) (all new : List DutyInForce)
    (others k minutes set : ℕ) : Type 0 where
  pub fdp : FdpTimes
  pub at : slice_get all k ≡ Some (Fdp fdp)
  pub touches : Touches limit others k (minutes_in Duty new) fdp
  pub counts : Counts limit (minutes_in Duty all) fdp minutes
  pub sets : minutes_set limit fdp ≡ Some set

-- New duties touch this period and the regulation sets minutes for it. Of the first `n` duties,
-- each measured period that new duties touch has no less left to the limit, and each such period
-- before this one in the history has more left.
pub record IsNearest (n : ℕ) (limit : PeriodLimit) (all new : List DutyInForce) (others : ℕ)
    (period : MeasuredPeriod) : Type 0 where
  pub measured : IsMeasured limit all new others period.index period.minutes period.limit
  pub least : (k minutes set : ℕ) → k < n → IsMeasured limit all new others k minutes set →
      minutes_left limit period.minutes period.limit ≤ℤ minutes_left limit minutes set
  pub first : (k minutes set : ℕ) → k < period.index →
      IsMeasured limit all new others k minutes set →
      minutes_left limit period.minutes period.limit <ℤ minutes_left limit minutes set

-- None of the first `n` duties is a flight duty period that new duties touch and for which the
-- regulation sets minutes.
abbrev pub HasNone : (n : ℕ) → PeriodLimit → (all new : List DutyInForce) → (others : ℕ) → Type 0
HasNone n limit all new others =
    (k minutes set : ℕ) → k < n → IsMeasured limit all new others k minutes set → ⊥
