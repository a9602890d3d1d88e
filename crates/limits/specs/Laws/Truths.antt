-- Eight truth values, one of each section, as the list of the sections whose value is true.
use Rattle.std.proofs.Common.{◌≡◌, ℕ, Bool, true, false, ◌&&◌, List, get_or, refl, sym, ap, ◌∙◌}
use Rattle.std.specs.Prelude.{nat_eq}
use Rattle.std.specs.List.{filter, list_any}
use Rattle.std.proofs.lemmas.Bool.{eqb-true}
use Rattle.std.proofs.lemmas.Map.Views.{any-filter_same}
use Rattle.limits.specs.declared.section.Section.{Section}
use Rattle.limits.specs.declared.section.Section.TheVariants as section
use Rattle.limits.specs.declared.sections.Sections.TheInside.{Inside}
use Rattle.limits.specs.Judgement.{all_sections}

-- the truth value of a section, among the eight
abbrev pub truth_of : Inside → Section → Bool
truth_of a section.FlightTime = a.flight_time
truth_of a section.FlightDutyPeriod = a.flight_duty_period
truth_of a section.FlightTime672Hours = a.flight_time_672_hours
truth_of a section.FlightTime365Days = a.flight_time_365_days
truth_of a section.FlightDutyPeriods168Hours = a.flight_duty_periods_168_hours
truth_of a section.FlightDutyPeriods672Hours = a.flight_duty_periods_672_hours
truth_of a section.ThirtyHourRest = a.thirty_hour_rest
truth_of a section.TenHourRest = a.ten_hour_rest

-- the sections whose truth value is true, in the order of the list of all sections
abbrev pub listed : Inside → List Section
listed a = filter (truth_of a) all_sections

-- the place of a section in the list of all
abbrev pub place : Section → ℕ
place section.FlightTime = 0
place section.FlightDutyPeriod = 1
place section.FlightTime672Hours = 2
place section.FlightTime365Days = 3
place section.FlightDutyPeriods168Hours = 4
place section.FlightDutyPeriods672Hours = 5
place section.ThirtyHourRest = 6
place section.TenHourRest = 7

-- whether a list has a section
abbrev pub lists : List Section → Section → Bool
lists sections s = list_any (λ t. nat_eq (place t) (place s)) sections

-- eight truth values, from the list of the sections whose value is true
abbrev pub unlisted : List Section → Inside
unlisted sections = record {
  flight_time = lists sections section.FlightTime;
  flight_duty_period = lists sections section.FlightDutyPeriod;
  flight_time_672_hours = lists sections section.FlightTime672Hours;
  flight_time_365_days = lists sections section.FlightTime365Days;
  flight_duty_periods_168_hours = lists sections section.FlightDutyPeriods168Hours;
  flight_duty_periods_672_hours = lists sections section.FlightDutyPeriods672Hours;
  thirty_hour_rest = lists sections section.ThirtyHourRest;
  ten_hour_rest = lists sections section.TenHourRest;
}

-- the section at a place of the list of all
section_at : ℕ → Section
section_at n = get_or all_sections n section.FlightTime

-- Each section stands at its place in the list of all sections.
at_place : (s : Section) → section_at (place s) ≡ s
unfolding section_at
at_place section.FlightTime = refl
at_place section.FlightDutyPeriod = refl
at_place section.FlightTime672Hours = refl
at_place section.FlightTime365Days = refl
at_place section.FlightDutyPeriods168Hours = refl
at_place section.FlightDutyPeriods672Hours = refl
at_place section.ThirtyHourRest = refl
at_place section.TenHourRest = refl

-- Two sections at one place are the same section.
same_place : (s t : Section) → place s ≡ place t → s ≡ t
same_place s t is = sym (at_place s) ∙ ap section_at is ∙ at_place t

-- The list of all sections has each section.
all_listed : (s : Section) → lists all_sections s ≡ true
all_listed section.FlightTime = refl
all_listed section.FlightDutyPeriod = refl
all_listed section.FlightTime672Hours = refl
all_listed section.FlightTime365Days = refl
all_listed section.FlightDutyPeriods168Hours = refl
all_listed section.FlightDutyPeriods672Hours = refl
all_listed section.ThirtyHourRest = refl
all_listed section.TenHourRest = refl

-- A truth value stays what it is when `&&` joins it to a true one.
and_true : (b c : Bool) → c ≡ true → (b && c) ≡ b
and_true true c is = is
and_true false c is = refl

-- The list of the sections whose value is true has a section if and only if the section's value is
-- true.
kept : (a : Inside) (s : Section) → lists (listed a) s ≡ truth_of a s
kept a s = any-filter_same (λ t. nat_eq (place t) (place s)) (truth_of a) (truth_of a s)
    (λ t is. ap (truth_of a) (same_place t s (eqb-true _ _ is))) all_sections ∙
    and_true (truth_of a s) (lists all_sections s) (all_listed s)

-- The list of the true sections gives the eight truth values back.
pub listed_back : (a : Inside) → unlisted (listed a) ≡ a
listed_back a i = record {
  flight_time = kept a section.FlightTime i;
  flight_duty_period = kept a section.FlightDutyPeriod i;
  flight_time_672_hours = kept a section.FlightTime672Hours i;
  flight_time_365_days = kept a section.FlightTime365Days i;
  flight_duty_periods_168_hours = kept a section.FlightDutyPeriods168Hours i;
  flight_duty_periods_672_hours = kept a section.FlightDutyPeriods672Hours i;
  thirty_hour_rest = kept a section.ThirtyHourRest i;
  ten_hour_rest = kept a section.TenHourRest i;
}
