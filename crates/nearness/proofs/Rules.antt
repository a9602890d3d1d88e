-- What is nearest to a limit exceeds it if and only if the new duties break the limit's rule.
use Rattle.std.proofs.Common.{◌≡◌, ℕ, ◌<◌, Bool, List, sym, ap, ◌∙◌, subst, arith, drop}
use Rattle.std.specs.Prelude.{ℤ, pos, ◌*ℤ◌, IsTrue, ◌↔◌, Option, Some, None}
use Rattle.duty.specs.Minutes.{count, Meets, minutes_in}
use Rattle.duty.specs.declared.duty_in_force.DutyInForce.{DutyInForce}
use Rattle.duty.specs.declared.kind.Kind.TheVariants.{Flight, FlightDuty}
use Rattle.limits.specs.Rules.{IsOver, IsYearOver}
use Rattle.limits.specs.declared.section.Section.TheVariants as section
use Rattle.nearness.specs.declared.windows.FullestWindow.{FullestWindow}
use Rattle.nearness.specs.declared.all_limits.Nearness.{Nearness}
use Rattle.nearness.specs.Fullest.{IsFullest, IsFullestYear}
use Rattle.nearness.specs.Nearness.{IsWindow, IsYear, IsNearness, holds_over, ExceedsIsRule}
use Rattle.nearness.proofs.PeriodRules.{by_test, never, a_rule, b_rule, thirty_rule, ten_rule}

fullest_is_rule : (all new : ℤ → Bool) (width most minutes : ℕ) (start : ℤ) → IsFullest all new width minutes start →
    (most < minutes) ↔ IsOver width most all new
fullest_is_rule all new width most minutes start is = (
  λ more. (let e = is.holds in record { start = start; meets = is.meets; more = omega arith }),
  λ over. (let a = is.most over.start over.meets in let b = over.more in omega arith),
)

fullest_year_is_rule : (all new : ℤ → Bool) (most minutes : ℕ) (start : ℤ) → IsFullestYear all new minutes start →
    (most < minutes) ↔ IsYearOver most all new
fullest_year_is_rule all new most minutes start is = (
  λ more. (let e = is.holds in
      let same : count all (is.day *ℤ pos 1_440) 525_600 ≡ minutes = ap (λ s. count all s 525_600) (sym is.begins) ∙ e in
      record {
        day = is.day;
        meets = subst (λ s. Meets new s 525_600) is.begins is.meets;
        more = omega arith;
      }),
  λ over. (let a = is.most over.day over.meets in let b = over.more in omega arith),
)

window_rule : (all new : ℤ → Bool) (width most : ℕ) (w : Option FullestWindow) → IsWindow all new width w →
    IsTrue (holds_over most w) ↔ IsOver width most all new
window_rule all new width most (Some w) is = by_test most w.minutes _ (fullest_is_rule all new width most w.minutes w.start is.some)
window_rule all new width most None is = never _ (λ over. is.none over.meets.minute over.meets.member)

year_rule : (all new : ℤ → Bool) (most : ℕ) (y : Option FullestWindow) → IsYear all new y → IsTrue (holds_over most y) ↔ IsYearOver most all new
year_rule all new most (Some y) is = by_test most y.minutes _ (fullest_year_is_rule all new most y.minutes y.start is.some)
year_rule all new most None is = never _ (λ over. is.none over.meets.minute over.meets.member)

pub exceeds_is_rule : (all new : List DutyInForce) (others : ℕ) (n : Nearness) → drop others all ≡ new → IsNearness all new others n →
    ExceedsIsRule all new n
exceeds_is_rule all new others n same is section.FlightTime = a_rule all new others n.flight_time same is.flight_time
exceeds_is_rule all new others n same is section.FlightDutyPeriod = b_rule all new others n.flight_duty_period same is.flight_duty_period
exceeds_is_rule all new others n same is section.FlightTime672Hours =
    window_rule (minutes_in Flight all) (minutes_in Flight new) 40_320 6_000 n.flight_time_672_hours is.flight_time_672_hours
exceeds_is_rule all new others n same is section.FlightTime365Days =
    year_rule (minutes_in Flight all) (minutes_in Flight new) 60_000 n.flight_time_365_days is.flight_time_365_days
exceeds_is_rule all new others n same is section.FlightDutyPeriods168Hours =
    window_rule (minutes_in FlightDuty all) (minutes_in FlightDuty new) 10_080 3_600 n.flight_duty_periods_168_hours
    is.flight_duty_periods_168_hours
exceeds_is_rule all new others n same is section.FlightDutyPeriods672Hours =
    window_rule (minutes_in FlightDuty all) (minutes_in FlightDuty new) 40_320 11_400 n.flight_duty_periods_672_hours
    is.flight_duty_periods_672_hours
exceeds_is_rule all new others n same is section.ThirtyHourRest = thirty_rule all new others n.thirty_hour_rest same is.thirty_hour_rest
exceeds_is_rule all new others n same is section.TenHourRest = ten_rule all new others n.ten_hour_rest same is.ten_hour_rest
