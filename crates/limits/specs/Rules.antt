-- The limits of 14 CFR Part 117 as facts about a crew member's duties in force: `history` is all
-- these duties, the new ones too, and `new` is the new ones. Each fact says that the new duties
-- break the limit.
use Rattle.std.specs.Prelude.{◌≡◌, ℕ, ◌<◌, Bool, List, length, Some, ℤ, pos, ◌+ℤ◌, ◌-ℤ◌, ◌*ℤ◌, ◌≤ℤ◌}
use Rattle.std.specs.Prelude.{◌⊎◌}
use Rattle.std.specs.List.{Contains}
use Rattle.duty.specs.declared.duty_in_force.DutyInForce.{DutyInForce}
use Rattle.duty.specs.declared.duty_in_force.DutyInForce.TheVariants.{Fdp}
use Rattle.duty.specs.declared.kind.Kind.TheVariants.{Flight, FlightDuty, Duty}
use Rattle.duty.specs.FdpTimes.{FdpTimes}
use Rattle.duty.specs.Minutes.{Meets, count, minutes_in, fdp_length, flight_time}
use Rattle.limits.specs.Tables.{table_a, table_b}
use Rattle.limits.specs.declared.section.Section.{Section}
use Rattle.limits.specs.declared.section.Section.TheVariants as section

-- 117.11(a)(1): a new flight duty period that has a start has more flight time, from block-out to
-- block-in, than Table A gives for that start. A period without a start enters no table.
pub record IsOverTableA (history new : List DutyInForce) : Type 0 where
  pub fdp : FdpTimes
  pub is_new : Contains new (Fdp fdp)
  pub start : ℕ
  pub entered : fdp.start ≡ Some start
  pub over : table_a start < flight_time fdp

-- 117.13(a): a new flight duty period that has a start is longer than Table B gives for that start
-- and its number of segments. A period without a start enters no table.
pub record IsOverTableB (history new : List DutyInForce) : Type 0 where
  pub fdp : FdpTimes
  pub is_new : Contains new (Fdp fdp)
  pub start : ℕ
  pub entered : fdp.start ≡ Some start
  pub over : table_b start (length fdp.segments) < fdp_length fdp

-- some `width` minutes in a row meet a minute of `new` and hold more than `most` minutes of `all`
pub record IsOver (width most : ℕ) (all new : ℤ → Bool) : Type 0 where
  pub start : ℤ
  pub meets : Meets new start width
  pub more : most < count all start width

-- 117.23(b)(1): some 672 hours that meet a new flight minute hold more than 100 hours of flight
-- time.
abbrev pub FlightTime672Hours : List DutyInForce → List DutyInForce → Type 0
FlightTime672Hours history new =
    IsOver 40_320 6_000 (minutes_in Flight history) (minutes_in Flight new)

-- Some 365 days of UTC (117.3) in a row, from the first minute of a day, meet a minute of `new` and
-- hold more than `most` minutes of `all`.
pub record IsYearOver (most : ℕ) (all new : ℤ → Bool) : Type 0 where
  pub day : ℤ
  pub meets : Meets new (day *ℤ pos 1_440) 525_600
  pub more : most < count all (day *ℤ pos 1_440) 525_600

-- 117.23(b)(2): some 365 days that meet a new flight minute hold more than 1,000 hours of flight
-- time.
abbrev pub FlightTime365Days : List DutyInForce → List DutyInForce → Type 0
FlightTime365Days history new =
    IsYearOver 60_000 (minutes_in Flight history) (minutes_in Flight new)

-- 117.23(c)(1): some 168 hours that meet a minute of a new flight duty period hold more than 60
-- hours of flight duty periods.
abbrev pub FlightDutyPeriods168Hours : List DutyInForce → List DutyInForce → Type 0
FlightDutyPeriods168Hours history new =
    IsOver 10_080 3_600 (minutes_in FlightDuty history) (minutes_in FlightDuty new)

-- 117.23(c)(2): some 672 hours that meet a minute of a new flight duty period hold more than 190
-- hours of flight duty periods.
abbrev pub FlightDutyPeriods672Hours : List DutyInForce → List DutyInForce → Type 0
FlightDutyPeriods672Hours history new =
    IsOver 40_320 11_400 (minutes_in FlightDuty history) (minutes_in FlightDuty new)

-- The new duties touch a flight duty period: it is new, or it is one of the history and the `width`
-- minutes before its report meet a new duty minute.
abbrev pub IsTouched : List DutyInForce → List DutyInForce → FdpTimes → ℕ → Type 0
IsTouched history new fdp width =
    Contains new (Fdp fdp) ⊎
    (Contains history (Fdp fdp) × Meets (minutes_in Duty new) (pos fdp.report -ℤ pos width) width)

-- 117.25(b): in the 168 hours before a report that the new duties touch, no 30 hours in a row are
-- free from all duty.
pub record ThirtyHourRest (history new : List DutyInForce) : Type 0 where
  pub fdp : FdpTimes
  pub touched : IsTouched history new fdp 10_080
  pub worked : (start : ℤ) →
      (pos fdp.report -ℤ pos 10_080) ≤ℤ start → (start +ℤ pos 1_800) ≤ℤ pos fdp.report →
      Meets (minutes_in Duty history) start 1_800

-- 117.25(e): the 10 hours before a report that the new duties touch are not free from all duty.
pub record TenHourRest (history new : List DutyInForce) : Type 0 where
  pub fdp : FdpTimes
  pub touched : IsTouched history new fdp 600
  pub worked : Meets (minutes_in Duty history) (pos fdp.report -ℤ pos 600) 600

-- the rule of a section: the fact that the new duties break the section's limit
abbrev pub Rule : Section → List DutyInForce → List DutyInForce → Type 0
Rule section.FlightTime = IsOverTableA
Rule section.FlightDutyPeriod = IsOverTableB
Rule section.FlightTime672Hours = FlightTime672Hours
Rule section.FlightTime365Days = FlightTime365Days
Rule section.FlightDutyPeriods168Hours = FlightDutyPeriods168Hours
Rule section.FlightDutyPeriods672Hours = FlightDutyPeriods672Hours
Rule section.ThirtyHourRest = ThirtyHourRest
Rule section.TenHourRest = TenHourRest
