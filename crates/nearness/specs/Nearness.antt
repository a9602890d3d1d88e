-- How near the duties of a member are to each of the eight limits, and whether the duties exceed
-- that limit. `all` is the member's duties, the new ones too; `new` is the new duties, which are
-- the duties of `all` from index `others` on.
use Rattle.std.specs.Prelude.{ℕ, Bool, false, nat_lt, List, length, ℤ, IfSome, IfNone, Option, Some}
use Rattle.std.specs.Prelude.{None, IsTrue, ◌↔◌}
use Rattle.duty.specs.Minutes.{minutes_in}
use Rattle.duty.specs.declared.duty_in_force.DutyInForce.{DutyInForce}
use Rattle.duty.specs.declared.kind.Kind.TheVariants.{Flight, FlightDuty}
use Rattle.limits.specs.Rules.{Rule}
use Rattle.limits.specs.declared.section.Section.{Section}
use Rattle.limits.specs.declared.section.Section.TheVariants as section
use Rattle.nearness.specs.Fullest.{IsFullest, IsFullestYear, HasNoMinute}
use Rattle.nearness.specs.Nearest.{IsNearest, HasNone}
use Rattle.nearness.specs.declared.all_limits.Nearness.{Nearness}
use Rattle.nearness.specs.declared.periods.MeasuredPeriod.{MeasuredPeriod}
use Rattle.nearness.specs.declared.periods.PeriodLimit.{PeriodLimit}
use Rattle.nearness.specs.declared.periods.PeriodLimit.TheVariants.{TableA, TableB, ThirtyHours}
use Rattle.nearness.specs.declared.periods.PeriodLimit.TheVariants.{TenHours}
use Rattle.nearness.specs.declared.windows.FullestWindow.{FullestWindow}

-- The answer for a limit on windows of `width` minutes: the fullest of the windows that meet a new
-- minute, or none if there is no new minute.
pub record IsWindow (all new : ℤ → Bool) (width : ℕ) (answer : Option FullestWindow) : Type 0 where
  pub some : IfSome answer (λ window. IsFullest all new width window.minutes window.start)
  pub none : IfNone answer (HasNoMinute new)

-- The answer for the limit on 365 days of UTC: the fullest of the windows of 365 days that meet a
-- new minute, or none if there is no new minute.
pub record IsYear (all new : ℤ → Bool) (answer : Option FullestWindow) : Type 0 where
  pub some : IfSome answer (λ year. IsFullestYear all new year.minutes year.start)
  pub none : IfNone answer (HasNoMinute new)

-- The answer for a limit on each flight duty period: the nearest of the periods that new duties
-- touch, or none if new duties touch no period for which the regulation sets minutes.
pub record IsNearestPeriod (limit : PeriodLimit) (all new : List DutyInForce) (others : ℕ)
    (answer : Option MeasuredPeriod) : Type 0 where
  pub some : IfSome answer (λ period. IsNearest (length all) limit all new others period)
  pub none : IfNone answer (HasNone (length all) limit all new others)

-- What is nearest to each limit, of what new duties touch: the flight duty period by Table A
-- (117.11(a)(1)) and by Table B (117.13(a)), the window of flight time of 672 hours (117.23(b)(1))
-- and of 365 days (117.23(b)(2)), the window of flight duty periods of 168 hours (117.23(c)(1)) and
-- of 672 hours (117.23(c)(2)), and the flight duty period by the rest in the 168 hours before its
-- report (117.25(b)) and just before its report (117.25(e)).
pub record IsNearness (all new : List DutyInForce) (others : ℕ) (nearness : Nearness) : Type 0 where
  pub flight_time : IsNearestPeriod TableA all new others nearness.flight_time
  pub flight_duty_period : IsNearestPeriod TableB all new others nearness.flight_duty_period
  pub flight_time_672_hours :
      IsWindow (minutes_in Flight all) (minutes_in Flight new) 40_320
      nearness.flight_time_672_hours
  pub flight_time_365_days :
      IsYear (minutes_in Flight all) (minutes_in Flight new) nearness.flight_time_365_days
  pub flight_duty_periods_168_hours :
      IsWindow (minutes_in FlightDuty all) (minutes_in FlightDuty new) 10_080
      nearness.flight_duty_periods_168_hours
  pub flight_duty_periods_672_hours :
      IsWindow (minutes_in FlightDuty all) (minutes_in FlightDuty new) 40_320
      nearness.flight_duty_periods_672_hours
  pub thirty_hour_rest : IsNearestPeriod ThirtyHours all new others nearness.thirty_hour_rest
  pub ten_hour_rest : IsNearestPeriod TenHours all new others nearness.ten_hour_rest

-- whether there is a window of 117.23 and it holds more than `most` minutes
abbrev pub holds_over : ℕ → Option FullestWindow → Bool
holds_over most (Some window) = nat_lt most window.minutes
holds_over most None = false

-- whether there is a period and it has more minutes than Table A (117.11(a)(1)) or Table B
-- (117.13(a)) gives for it
abbrev pub is_over_table : Option MeasuredPeriod → Bool
is_over_table (Some period) = nat_lt period.limit period.minutes
is_over_table None = false

-- whether there is a period and it has less rest before its report than 117.25(b) or 117.25(e) sets
abbrev pub has_too_little_rest : Option MeasuredPeriod → Bool
has_too_little_rest (Some period) = nat_lt period.minutes period.limit
has_too_little_rest None = false

-- whether what is nearest to a section's limit exceeds that limit: 100 hours of flight time in 672
-- hours and 1,000 in 365 days, 60 hours of flight duty periods in 168 hours and 190 in 672, what
-- Tables A and B give, and the rests of 30 and of 10 hours
abbrev pub exceeds : Section → Nearness → Bool
exceeds section.FlightTime n = is_over_table n.flight_time
exceeds section.FlightDutyPeriod n = is_over_table n.flight_duty_period
exceeds section.FlightTime672Hours n = holds_over 6_000 n.flight_time_672_hours
exceeds section.FlightTime365Days n = holds_over 60_000 n.flight_time_365_days
exceeds section.FlightDutyPeriods168Hours n = holds_over 3_600 n.flight_duty_periods_168_hours
exceeds section.FlightDutyPeriods672Hours n = holds_over 11_400 n.flight_duty_periods_672_hours
exceeds section.ThirtyHourRest n = has_too_little_rest n.thirty_hour_rest
exceeds section.TenHourRest n = has_too_little_rest n.ten_hour_rest

-- Each section's limit is exceeded if and only if the new duties break its rule (`Rule` of
-- `limits`).
abbrev pub ExceedsIsRule : (all new : List DutyInForce) → Nearness → Type 0
ExceedsIsRule all new nearness =
    (section : Section) → IsTrue (exceeds section nearness) ↔ Rule section all new
