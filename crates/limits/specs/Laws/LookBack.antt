-- The look-back rules by tests of the reports.
use Rattle.std.proofs.Common.{◌≡◌, ℕ, ◌<◌, Bool, true, not, List, ◌↔◌, sym, ap, ◌∙◌, arith, inl}
use Rattle.std.proofs.Common.{inr}
use Rattle.std.specs.Prelude.{ℤ, pos, ◌+ℤ◌, ◌-ℤ◌, ◌≤ℤ◌}
use Rattle.std.specs.List.{list_any, flat_map, Contains}
use Rattle.std.proofs.lemmas.Int.{ints}
use Rattle.std.proofs.lemmas.Bool.{false≢true, or_cases, or_left, or_right, and_parts, and_from}
use Rattle.std.proofs.lemmas.Bool.{not-true, cases_Bool}
use Rattle.duty.specs.declared.duty_in_force.DutyInForce.{DutyInForce}
use Rattle.duty.specs.declared.duty_in_force.DutyInForce.TheVariants.{Fdp, Ground}
use Rattle.duty.specs.FdpTimes.{FdpTimes}
use Rattle.duty.specs.declared.kind.Kind.TheVariants.{Duty}
use Rattle.duty.specs.Minutes.{Meets, HasFreeRun, spans_of, minutes_in}
use Rattle.duty.proofs.Counting.{meets_or_free, meets-count}
use Rattle.duty.proofs.FreeRuns.{free_run_test, free_run_decides}
use Rattle.limits.specs.declared.rest_limits.Rest.{Rest}
use Rattle.limits.specs.declared.rest_limits.Rest.TheVariants as rest
use Rattle.limits.specs.Rules.{IsTouched, TenHourRest, ThirtyHourRest}
use Rattle.limits.specs.Laws.SumRule.{reach_decides}
use Rattle.limits.specs.Laws.TableRules.{contained, from_contained}
use Rattle.limits.specs.Laws.Tests.{is_on_duty_before, look_width, lacks_rest, by_report, is_spoilt}
use Rattle.limits.specs.Laws.Tests.{some_lacks_rest}

-- Before a report that the new duties touch there is too little rest.
pub record Lacks (r : Rest) (history new : List DutyInForce) : Type 0 where
  pub fdp : FdpTimes
  pub touched : IsTouched history new fdp (look_width r)
  pub lacks : lacks_rest r history fdp.report ≡ true

-- The test of duty before a report passes if and only if the minutes before the report meet a duty
-- minute.
on_duty_decides : (history : List DutyInForce) (end width : ℕ) → 0 < width →
    (is_on_duty_before history end width ≡ true) ↔
    Meets (minutes_in Duty history) (pos end -ℤ pos width) width
on_duty_decides history end width some =
    reach_decides (flat_map (spans_of Duty) history) end width some

-- Each look-back from a report is at least one minute long.
look_width-some : (r : Rest) → 0 < look_width r
look_width-some rest.TenHours = omega arith
look_width-some rest.ThirtyHours = omega arith

-- The report of a new duty that passes the test lacks the rest.
lacks_new : (r : Rest) (history new : List DutyInForce) (duty : DutyInForce) → Contains new duty →
    by_report (lacks_rest r history) duty ≡ true → Lacks r history new
lacks_new r history new (Fdp fdp) in' is = record { fdp = fdp; touched = inl in'; lacks = is }
lacks_new r history new (Ground span) in' is = absurd (false≢true is)

-- The report of a duty of the history that passes the test, and whose look-back meets a new duty,
-- lacks the rest.
lacks_old : (r : Rest) (history new : List DutyInForce) (duty : DutyInForce) →
    Contains history duty →
    by_report (is_spoilt r history new) duty ≡ true → Lacks r history new
lacks_old r history new (Fdp fdp) in' is =
    let a = and_parts _ _ is in
    record {
      fdp = fdp;
      touched = inr (
        in',
        (on_duty_decides new fdp.report (look_width r) (look_width-some r)).0
            a.0,
      );
      lacks = a.1;
    }
lacks_old r history new (Ground span) in' is = absurd (false≢true is)

-- where the tests find a duty, some touched report lacks the rest
lacks_found : (r : Rest) (history new : List DutyInForce) → some_lacks_rest r history new ≡ true →
    Lacks r history new
lacks_found r history new is =
    elim (or_cases (list_any (by_report (lacks_rest r history)) new)
    (list_any (by_report (is_spoilt r history new)) history) is) [
      | inl a ↦ (let c = contained (by_report (lacks_rest r history)) new a in
          lacks_new r history new c.0 c.1 c.2)
      | inr b ↦ (let c = contained (by_report (is_spoilt r history new)) history b in
          lacks_old r history new c.0 c.1 c.2)
    ]

-- where some touched report lacks the rest, the tests find a duty
lacks_tested : (r : Rest) (history new : List DutyInForce) → Lacks r history new →
    some_lacks_rest r history new ≡ true
lacks_tested r history new l =
    elim l.touched [
      | inl is_new ↦ or_left _ _
          (from_contained (by_report (lacks_rest r history)) new (Fdp l.fdp) is_new l.lacks)
      | inr old ↦ or_right _ _
          (from_contained (by_report (is_spoilt r history new)) history (Fdp l.fdp) old.0
          (and_from _ _
          ((on_duty_decides new l.fdp.report (look_width r) (look_width-some r)).1 old.1) l.lacks))
    ]

-- the tests decide the rule of ten hours (117.25(e))
pub ten_hours_decides : (history new : List DutyInForce) →
    (some_lacks_rest rest.TenHours history new ≡ true) ↔
    TenHourRest history new
ten_hours_decides history new = (
  λ is. let l = lacks_found rest.TenHours history new is in
      record {
        fdp = l.fdp;
        touched = l.touched;
        worked =
            (on_duty_decides history l.fdp.report 600 (omega arith)).0 l.lacks;
      },
  λ t. lacks_tested rest.TenHours history new (record {
    fdp = t.fdp;
    touched = t.touched;
    lacks = (on_duty_decides history t.fdp.report 600 (omega arith)).1 t.worked;
  }),
)

-- If no run of that length is free, each run meets the set.
worked_from : (set : ℤ → Bool) (end : ℤ) (width length : ℕ) →
    (HasFreeRun set (end -ℤ pos width) width length → ⊥) →
    (start : ℤ) → (end -ℤ pos width) ≤ℤ start → (start +ℤ pos length) ≤ℤ end →
    Meets set start length
worked_from set end width length none start from to =
    elim (meets_or_free set start length) [
      | inl m ↦ m
      | inr free ↦ absurd (none (record {
        start = start;
        from_start = from;
        to_end = omega (arith, ints);
        free =
            free;
      }))
    ]

-- If each run of some length meets the set, no run of that length is free.
no_free_run : (set : ℤ → Bool) (end : ℤ) (width length : ℕ) →
    ((start : ℤ) → (end -ℤ pos width) ≤ℤ start → (start +ℤ pos length) ≤ℤ end →
    Meets set start length) →
    HasFreeRun set (end -ℤ pos width) width length → ⊥
no_free_run set end width length worked has =
    let from = has.from_start in
    let to = has.to_end in
    let some = meets-count set has.start length (worked has.start from (omega (arith, ints))) in
    let free = has.free in
    omega arith

-- the tests decide the rule of thirty hours (117.25(b))
pub thirty_hours_decides : (history new : List DutyInForce) →
    (some_lacks_rest rest.ThirtyHours history new ≡ true) ↔
    ThirtyHourRest history new
thirty_hours_decides history new = (thirty_found history new, thirty_tested history new)
  where
    thirty_found : (history new : List DutyInForce) →
        some_lacks_rest rest.ThirtyHours history new ≡ true →
        ThirtyHourRest history new
    thirty_found history new is =
        let l = lacks_found rest.ThirtyHours history new is in
        let report = l.fdp.report in
        let d = free_run_decides (minutes_in Duty history)
        (pos report -ℤ pos 10_080) 10_080 1_800 in
        let no = not-true (free_run_test (minutes_in Duty history)
        (pos report -ℤ pos 10_080) 10_080 1_800) l.lacks in
        record {
          fdp = l.fdp;
          touched = l.touched;
          worked =
              worked_from (minutes_in Duty history) (pos report) 10_080 1_800
              (λ has. false≢true (sym no ∙ d.1 has));
        }

    thirty_tested : (history new : List DutyInForce) → ThirtyHourRest history new →
        some_lacks_rest rest.ThirtyHours history new ≡ true
    thirty_tested history new t =
        let report = t.fdp.report in
        let d = free_run_decides (minutes_in Duty history)
        (pos report -ℤ pos 10_080) 10_080 1_800 in
        lacks_tested rest.ThirtyHours history new (record {
          fdp = t.fdp;
          touched = t.touched;
          lacks = elim (cases_Bool
              (free_run_test (minutes_in Duty history) (pos report -ℤ pos 10_080) 10_080 1_800)) [
                | inl is ↦ absurd (no_free_run (minutes_in Duty history) (pos report) 10_080 1_800
                    t.worked (d.0 is))
                | inr is ↦ ap not is
              ];
        })
