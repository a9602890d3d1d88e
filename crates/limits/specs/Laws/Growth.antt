-- What fewer duties break, more duties break.
use Rattle.std.proofs.Common.{ℕ, Bool, List, arith, inl, inr}
use Rattle.std.specs.Prelude.{ℤ, pos, ◌-ℤ◌, ◌*ℤ◌}
use Rattle.duty.specs.declared.duty_in_force.DutyInForce.{DutyInForce}
use Rattle.duty.specs.declared.kind.Kind.TheVariants.{Flight, FlightDuty, Duty}
use Rattle.duty.specs.FdpTimes.{FdpTimes}
use Rattle.duty.specs.Minutes.{minutes_in}
use Rattle.limits.specs.declared.section.Section.{Section}
use Rattle.limits.specs.declared.section.Section.TheVariants as section
use Rattle.limits.specs.Judgement.{IsWithin}
use Rattle.limits.specs.Rules.{IsOver, IsYearOver, IsTouched, Rule, ThirtyHourRest, TenHourRest}
use Rattle.limits.specs.Laws.Parts.{IsPart, part-minutes, count-part, meets-part}

-- a window rule that fewer minutes break, more minutes break
over-part :
    (width most : ℕ) (some all some_new all_new : ℤ → Bool) → IsPart some all →
    IsPart some_new all_new →
    IsOver width most some some_new → IsOver width most all all_new
over-part width most some all some_new all_new part part_new over = record {
  start = over.start;
  meets = meets-part some_new all_new over.start width part_new over.meets;
  more = (let grown = count-part some all part over.start width in
      let more = over.more in omega arith);
}

-- a rule of 365 days that fewer minutes break, more minutes break
year-part :
    (most : ℕ) (some all some_new all_new : ℤ → Bool) → IsPart some all → IsPart some_new all_new →
    IsYearOver most some some_new → IsYearOver most all all_new
year-part most some all some_new all_new part part_new over = record {
  day = over.day;
  meets = meets-part some_new all_new (over.day *ℤ pos 1_440) 525_600 part_new over.meets;
  more = (let grown = count-part some all part (over.day *ℤ pos 1_440) 525_600 in
      let more = over.more in omega arith);
}

-- a period that fewer duties touch, more duties touch
touched-part : (fewer history some new : List DutyInForce) (fdp : FdpTimes) (width : ℕ) →
    IsWithin fewer history →
    IsWithin some new → IsTouched fewer some fdp width → IsTouched history new fdp width
touched-part fewer history some new fdp width within within_new touched =
    elim touched [
      | inl is_new ↦ inl (within_new _ is_new)
      | inr old ↦ inr (
        within _ old.0,
        meets-part (minutes_in Duty some) (minutes_in Duty new)
            (pos fdp.report -ℤ pos width) width (part-minutes Duty some new within_new) old.1,
      )
    ]

-- a rest of ten hours that fewer duties break, more duties break
ten_hours-part : (fewer history some new : List DutyInForce) → IsWithin fewer history →
    IsWithin some new →
    TenHourRest fewer some → TenHourRest history new
ten_hours-part fewer history some new within within_new rule = record {
  fdp = rule.fdp;
  touched = touched-part fewer history some new rule.fdp 600 within within_new rule.touched;
  worked = meets-part (minutes_in Duty fewer) (minutes_in Duty history)
      (pos rule.fdp.report -ℤ pos 600) 600
      (part-minutes Duty fewer history within) rule.worked;
}

-- a rest of thirty hours that fewer duties break, more duties break
thirty_hours-part : (fewer history some new : List DutyInForce) → IsWithin fewer history →
    IsWithin some new →
    ThirtyHourRest fewer some → ThirtyHourRest history new
thirty_hours-part fewer history some new within within_new rule = record {
  fdp = rule.fdp;
  touched = touched-part fewer history some new rule.fdp 10_080 within within_new rule.touched;
  worked = λ start from to. meets-part (minutes_in Duty fewer) (minutes_in Duty history) start 1_800
      (part-minutes Duty fewer history within) (rule.worked start from to);
}

-- a rule that fewer duties break, more duties break
pub rule_grows : (s : Section) (fewer history some new : List DutyInForce) →
    IsWithin fewer history →
    IsWithin some new → Rule s fewer some → Rule s history new
rule_grows section.FlightTime fewer history some new within within_new rule =
    record {
      fdp = rule.fdp;
      is_new = within_new _ rule.is_new;
      start = rule.start;
      entered = rule.entered;
      over = rule.over;
    }
rule_grows section.FlightDutyPeriod fewer history some new within within_new rule =
    record {
      fdp = rule.fdp;
      is_new = within_new _ rule.is_new;
      start = rule.start;
      entered = rule.entered;
      over = rule.over;
    }
rule_grows section.FlightTime672Hours fewer history some new within within_new rule =
    over-part 40_320 6_000 (minutes_in Flight fewer) (minutes_in Flight history)
    (minutes_in Flight some)
    (minutes_in Flight new) (part-minutes Flight fewer history within)
    (part-minutes Flight some new within_new) rule
rule_grows section.FlightTime365Days fewer history some new within within_new rule =
    year-part 60_000 (minutes_in Flight fewer) (minutes_in Flight history) (minutes_in Flight some)
    (minutes_in Flight new) (part-minutes Flight fewer history within)
    (part-minutes Flight some new within_new) rule
rule_grows section.FlightDutyPeriods168Hours fewer history some new within within_new rule =
    over-part 10_080 3_600 (minutes_in FlightDuty fewer) (minutes_in FlightDuty history)
    (minutes_in FlightDuty some)
    (minutes_in FlightDuty new) (part-minutes FlightDuty fewer history within)
    (part-minutes FlightDuty some new within_new) rule
rule_grows section.FlightDutyPeriods672Hours fewer history some new within within_new rule =
    over-part 40_320 11_400 (minutes_in FlightDuty fewer) (minutes_in FlightDuty history)
    (minutes_in FlightDuty some)
    (minutes_in FlightDuty new) (part-minutes FlightDuty fewer history within)
    (part-minutes FlightDuty some new within_new) rule
rule_grows section.ThirtyHourRest fewer history some new within within_new rule =
    thirty_hours-part fewer history some new within within_new rule
rule_grows section.TenHourRest fewer history some new within within_new rule =
    ten_hours-part fewer history some new within within_new rule
