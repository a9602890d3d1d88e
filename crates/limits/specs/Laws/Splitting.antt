-- If duties are added to others, what all the duties break was broken by the others, or the added
-- duties break it: a window or a look-back that holds no minute of the added duties is as it was
-- without these duties.
use Rattle.std.proofs.Common.{◌≡◌, ℕ, Bool, List, arith, inl, inr, ◌⊎◌}
use Rattle.std.specs.Prelude.{ℤ, pos, ◌-ℤ◌, ◌+ℤ◌, ◌≤ℤ◌, ◌*ℤ◌}
use Rattle.std.specs.List.{Contains}
use Rattle.std.proofs.lemmas.Int.{ints}
use Rattle.duty.specs.declared.duty_in_force.DutyInForce.{DutyInForce}
use Rattle.duty.specs.declared.duty_in_force.DutyInForce.TheVariants.{Fdp}
use Rattle.duty.specs.declared.kind.Kind.TheVariants.{Flight, FlightDuty, Duty}
use Rattle.duty.specs.FdpTimes.{FdpTimes}
use Rattle.duty.specs.Minutes.{Meets, count, minutes_in}
use Rattle.duty.proofs.Counting.{meets_or_free, meets-count}
use Rattle.limits.specs.declared.section.Section.{Section}
use Rattle.limits.specs.declared.section.Section.TheVariants as section
use Rattle.limits.specs.Judgement.{IsJoined}
use Rattle.limits.specs.Rules.{IsOver, IsYearOver, IsTouched, Rule, IsOverTableA, IsOverTableB}
use Rattle.limits.specs.Rules.{ThirtyHourRest, TenHourRest}
use Rattle.limits.specs.Laws.Parts.{IsUnion, union-minutes, count-union, meets-other}

-- A window that holds too much held too much without the added minutes, or meets one of the added
-- minutes.
over-split :
    (width most : ℕ) (all others added : ℤ → Bool) → IsUnion all others added →
    IsOver width most all all → IsOver width most others others ⊎ IsOver width most all added
over-split width most all others added union over =
    elim (meets_or_free added over.start width) [
      | inl meets ↦ inr (record { start = over.start; meets = meets; more = over.more })
      | inr none ↦ inl (record {
        start = over.start;
        meets = meets-other all others added over.start width union none over.meets;
        more = (let few = count-union all others added union over.start width in
            let more = over.more in omega arith);
      })
    ]

-- 365 days that hold too much held too much without the added minutes, or meet one of the added
-- minutes.
year-split :
    (most : ℕ) (all others added : ℤ → Bool) → IsUnion all others added →
    IsYearOver most all all → IsYearOver most others others ⊎ IsYearOver most all added
year-split most all others added union over =
    let start : ℤ = over.day *ℤ pos 1_440 in
    elim (meets_or_free added start 525_600) [
      | inl meets ↦ inr (record { day = over.day; meets = meets; more = over.more })
      | inr none ↦ inl (record {
        day = over.day;
        meets = meets-other all others added start 525_600 union none over.meets;
        more = (let few = count-union all others added union start 525_600 in
            let more = over.more in omega arith);
      })
    ]

-- a period over Table A is one of the others, or one of the added duties
flight_time-split : (all others added : List DutyInForce) → IsJoined all others added →
    IsOverTableA all all →
    IsOverTableA others others ⊎ IsOverTableA all added
flight_time-split all others added joined rule =
    elim (joined.0 (Fdp rule.fdp) rule.is_new) [
      | inl other ↦ inl (record {
        fdp = rule.fdp;
        is_new = other;
        start = rule.start;
        entered = rule.entered;
        over = rule.over;
      })
      | inr new ↦ inr (record {
        fdp = rule.fdp;
        is_new = new;
        start = rule.start;
        entered = rule.entered;
        over = rule.over;
      })
    ]

-- a period over Table B is one of the others, or one of the added duties
flight_duty_period-split : (all others added : List DutyInForce) → IsJoined all others added →
    IsOverTableB all all → IsOverTableB others others ⊎ IsOverTableB all added
flight_duty_period-split all others added joined rule =
    elim (joined.0 (Fdp rule.fdp) rule.is_new) [
      | inl other ↦ inl (record {
        fdp = rule.fdp;
        is_new = other;
        start = rule.start;
        entered = rule.entered;
        over = rule.over;
      })
      | inr new ↦ inr (record {
        fdp = rule.fdp;
        is_new = new;
        start = rule.start;
        entered = rule.entered;
        over = rule.over;
      })
    ]

-- A period that the duties touch is one of the duties.
touched-in : (all : List DutyInForce) (fdp : FdpTimes) (width : ℕ) → IsTouched all all fdp width →
    Contains all (Fdp fdp)
touched-in all fdp width touched = elim touched [ inl is_new ↦ is_new | inr old ↦ old.0 ]

-- The added duties touch the period, or the period is one of the others and its look-back holds no
-- added minute.
touched-split :
    (all others added : List DutyInForce) (fdp : FdpTimes) (width : ℕ) → IsJoined all others added →
    IsTouched all all fdp width →
    IsTouched all added fdp width ⊎ (IsTouched others others fdp width ×
    (count (minutes_in Duty added) (pos fdp.report -ℤ pos width) width ≡ 0))
touched-split all others added fdp width joined touched =
    let is_in = touched-in all fdp width touched in
    elim (joined.0 (Fdp fdp) is_in) [
      | inr new ↦ inl (inl new)
      | inl other ↦ elim (meets_or_free (minutes_in Duty added)
          (pos fdp.report -ℤ pos width) width) [
            | inl meets ↦ inl (inr (is_in, meets))
            | inr none ↦ inr (inl other, none)
          ]
    ]

-- a rest of ten hours was broken by the others, or the added duties break it
ten_hours-split : (all others added : List DutyInForce) → IsJoined all others added →
    TenHourRest all all →
    TenHourRest others others ⊎ TenHourRest all added
ten_hours-split all others added joined rule =
    elim (touched-split all others added rule.fdp 600 joined rule.touched) [
      | inl touched ↦ inr (record { fdp = rule.fdp; touched = touched; worked = rule.worked })
      | inr old ↦ inl (record {
        fdp = rule.fdp;
        touched = old.0;
        worked = meets-other (minutes_in Duty all) (minutes_in Duty others) (minutes_in Duty added)
            (pos rule.fdp.report -ℤ pos 600) 600 (union-minutes Duty all others added joined)
            old.1 rule.worked;
      })
    ]

-- If the whole look-back holds no minute of the added set, a minute of the union that a run inside
-- the look-back meets is of the other set.
run-other :
    (all others added : ℤ → Bool) (end start : ℤ) (width length : ℕ) → IsUnion all others added →
    count added (end -ℤ pos width) width ≡ 0 →
    (end -ℤ pos width) ≤ℤ start → (start +ℤ pos length) ≤ℤ end → Meets all start length →
    Meets others start length
run-other all others added end start width length union none from to m =
    let later = m.from_start in
    let sooner = m.before_end in
    elim (union m.minute m.member) [
      | inl other ↦ record {
        minute = m.minute;
        from_start = m.from_start;
        before_end = m.before_end;
        member = other;
      }
      | inr new ↦ (let some = meets-count added (end -ℤ pos width) width
          (record {
            minute = m.minute;
            from_start = omega (arith, ints);
            before_end = omega (arith, ints);
            member =
                new;
          }) in
          absurd (omega arith))
    ]

-- a rest of thirty hours was broken by the others, or the added duties break it
thirty_hours-split : (all others added : List DutyInForce) → IsJoined all others added →
    ThirtyHourRest all all →
    ThirtyHourRest others others ⊎ ThirtyHourRest all added
thirty_hours-split all others added joined rule =
    elim (touched-split all others added rule.fdp 10_080 joined rule.touched) [
      | inl touched ↦ inr (record { fdp = rule.fdp; touched = touched; worked = rule.worked })
      | inr old ↦ inl (record {
        fdp = rule.fdp;
        touched = old.0;
        worked = λ start from to. run-other (minutes_in Duty all) (minutes_in Duty others)
            (minutes_in Duty added)
            (pos rule.fdp.report) start 10_080 1_800 (union-minutes Duty all others added joined)
            old.1 from to
            (rule.worked start from to);
      })
    ]

-- What all duties break was broken by the other duties, or the added duties break it.
pub rule_splits : (s : Section) (all others added : List DutyInForce) → IsJoined all others added →
    Rule s all all →
    Rule s others others ⊎ Rule s all added
rule_splits section.FlightTime all others added joined = flight_time-split all others added joined
rule_splits section.FlightDutyPeriod all others added joined =
    flight_duty_period-split all others added joined
rule_splits section.FlightTime672Hours all others added joined =
    over-split 40_320 6_000 (minutes_in Flight all) (minutes_in Flight others)
    (minutes_in Flight added)
    (union-minutes Flight all others added joined)
rule_splits section.FlightTime365Days all others added joined =
    year-split 60_000 (minutes_in Flight all) (minutes_in Flight others) (minutes_in Flight added)
    (union-minutes Flight all others added joined)
rule_splits section.FlightDutyPeriods168Hours all others added joined =
    over-split 10_080 3_600 (minutes_in FlightDuty all) (minutes_in FlightDuty others)
    (minutes_in FlightDuty added)
    (union-minutes FlightDuty all others added joined)
rule_splits section.FlightDutyPeriods672Hours all others added joined =
    over-split 40_320 11_400 (minutes_in FlightDuty all) (minutes_in FlightDuty others)
    (minutes_in FlightDuty added)
    (union-minutes FlightDuty all others added joined)
rule_splits section.ThirtyHourRest all others added joined =
    thirty_hours-split all others added joined
rule_splits section.TenHourRest all others added joined = ten_hours-split all others added joined
