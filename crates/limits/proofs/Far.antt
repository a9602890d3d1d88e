-- A duty that is far from all new duties changes nothing: no window that meets the new duties has a
-- minute of it, and no look-back that they touch has one.
use Rattle.std.proofs.Common.{◌≡◌, ℕ, zero, suc, ◌≤◌, Bool, true, List, refl, sym, ◌∙◌}
use Rattle.std.proofs.Common.{arith, inl, inr, ◌⊎◌, ◌↔◌}
use Rattle.std.specs.Prelude.{ℤ, pos, ◌+ℤ◌, ◌-ℤ◌, ◌≤ℤ◌, ◌<ℤ◌, ◌*ℤ◌}
use Rattle.std.specs.List.{Contains}
use Rattle.std.proofs.lemmas.Int.{ints}
use Rattle.std.proofs.lemmas.Bool.{cases_Bool, false≢true}
use Rattle.std.proofs.lemmas.List.Elements.{filter_agree}
use Rattle.duty.specs.declared.duty_in_force.DutyInForce.{DutyInForce}
use Rattle.duty.specs.declared.duty_in_force.DutyInForce.TheVariants.{Fdp}
use Rattle.duty.specs.declared.kind.Kind.{Kind}
use Rattle.duty.specs.declared.span.Span.{Span}
use Rattle.duty.specs.declared.kind.Kind.TheVariants.{Flight, FlightDuty, Duty}
use Rattle.duty.specs.FdpTimes.{FdpTimes}
use Rattle.duty.specs.Minutes.{Meets, Overlap, count, minutes_in}
use Rattle.duty.proofs.Counting.{count-none, count-more}
use Rattle.limits.specs.declared.section.Section.{Section}
use Rattle.limits.specs.declared.section.Section.TheVariants as section
use Rattle.limits.specs.Judgement.{Broken, all_sections}
use Rattle.limits.specs.Reach.{AreAllButFar, AreIn, FarChangesNothing, FarOverlapsNothing}
use Rattle.limits.specs.Reach.{IsApart, reach}
use Rattle.limits.specs.Rules.{IsOver, IsYearOver, IsTouched, Rule, IsOverTableA, IsOverTableB}
use Rattle.limits.specs.Rules.{ThirtyHourRest, TenHourRest}
use Rattle.limits.specs.Laws.Decisions.{breaks, breaks_is}
use Rattle.limits.specs.Laws.Growth.{rule_grows}
use Rattle.limits.specs.Laws.Parts.{from_minutes, in_minutes, one_if-part, part-minutes}

-- a minute of all duties is one of those that are near, or apart from each span
near_or_apart : (kind : Kind) (all near : List DutyInForce) (spans : List Span) →
    AreAllButFar spans all near → (i : ℤ) → minutes_in kind all i ≡ true →
    (minutes_in kind near i ≡ true) ⊎ ((span : Span) → Contains spans span → IsApart span i)
near_or_apart kind all near spans rest i is =
    let h = from_minutes kind all i is in
    elim (rest.others h.0 h.1) [
      | inl is_near ↦ inl (in_minutes kind near i h.0 is_near h.2)
      | inr far ↦ inr (far.minutes kind i h.2)
    ]

-- the members of a set in a window are no more than those of a set that has all of them there
count-there : (some all : ℤ → Bool) (start : ℤ) (width : ℕ) →
    ((i : ℤ) → start ≤ℤ i → i <ℤ (start +ℤ pos width) → some i ≡ true → all i ≡ true) →
    count some start width ≤ count all start width
count-there some all start zero there = let a = count-none some start in omega arith
count-there some all start (suc width) there =
    let rest = count-there some all (start +ℤ pos 1) width
    (λ i from to is. there i (omega (arith, ints)) (omega (arith, ints)) is) in
    let here = one_if-part (some start) (all start)
    (there start (omega (arith, ints)) (omega (arith, ints))) in
    let a = count-more some start width in
    let b = count-more all start width in
    omega arith

-- a window of at most 365 days that has a minute from `from` up to `to` has no minute apart from them
no_minute_apart : (from to start m i : ℤ) (width : ℕ) → width ≤ reach →
    from ≤ℤ m → m <ℤ to → start ≤ℤ m → m <ℤ (start +ℤ pos width) →
    start ≤ℤ i → i <ℤ (start +ℤ pos width) →
    ((i +ℤ pos reach) ≤ℤ from) ⊎ ((to +ℤ pos reach) ≤ℤ i) → ⊥
no_minute_apart from to start m i width narrow low high begins ends at_least before apart =
    elim apart [
      | inl early ↦ omega (arith, ints)
      | inr late ↦ omega (arith, ints)
    ]

-- what a window that meets new duties has of all duties, it has of those that are near
count-near : (kind : Kind) (all near new : List DutyInForce) (spans : List Span) (start : ℤ)
    (width : ℕ) → width ≤ reach → AreIn spans new → AreAllButFar spans all near →
    Meets (minutes_in kind new) start width →
    count (minutes_in kind all) start width ≤ count (minutes_in kind near) start width
count-near kind all near new spans start width narrow inside rest meets =
    let m = inside.minutes kind meets.minute meets.member in
    let span = m.0 in
    count-there (minutes_in kind all) (minutes_in kind near) start width
    (λ i low high is. elim (near_or_apart kind all near spans rest i is) [
      | inl is_near ↦ is_near
      | inr apart ↦ absurd (no_minute_apart (pos span.from) (pos span.to) start meets.minute i
          width narrow m.2 m.3 meets.from_start meets.before_end low high (apart span m.1))
    ])

over-near : (kind : Kind) (all near new : List DutyInForce) (spans : List Span) (width most : ℕ) →
    width ≤ reach → AreIn spans new → AreAllButFar spans all near →
    IsOver width most (minutes_in kind all) (minutes_in kind new) →
    IsOver width most (minutes_in kind near) (minutes_in kind new)
over-near kind all near new spans width most narrow inside rest over = record {
  start = over.start;
  meets = over.meets;
  more = (let few = count-near kind all near new spans over.start width narrow inside rest
      over.meets in
      let more = over.more in omega arith);
}

year-near : (kind : Kind) (all near new : List DutyInForce) (spans : List Span) (most : ℕ) →
    AreIn spans new → AreAllButFar spans all near →
    IsYearOver most (minutes_in kind all) (minutes_in kind new) →
    IsYearOver most (minutes_in kind near) (minutes_in kind new)
year-near kind all near new spans most inside rest over = record {
  day = over.day;
  meets = over.meets;
  more = (let few = count-near kind all near new spans (over.day *ℤ pos 1_440) 525_600
      (omega arith) inside rest over.meets in
      let more = over.more in omega arith);
}

-- a report is in the span, or less than `width` minutes after it
pub record IsNear (span : Span) (report : ℤ) (width : ℕ) : Type 0 where
  pub later : pos span.from ≤ℤ report
  pub sooner : report <ℤ ((pos span.to +ℤ pos width) +ℤ pos 1)

-- a report that new duties touch is near one of the spans
touched_is_near : (all new : List DutyInForce) (spans : List Span) (fdp : FdpTimes) (width : ℕ) →
    AreIn spans new → IsTouched all new fdp width →
    (span : Span) × Contains spans span × IsNear span (pos fdp.report) width
touched_is_near all new spans fdp width inside touched =
    elim touched [
      | inl is_new ↦ (let r = inside.reports fdp is_new in
          let span = r.0 in
          let a = r.2 in
          let b = r.3 in
          (span, r.1, record { later = omega (arith, ints); sooner = omega (arith, ints) }))
      | inr old ↦ (let m = old.1 in
          let r = inside.minutes Duty m.minute m.member in
          let span = r.0 in
          let a = r.2 in
          let b = r.3 in
          let c = m.from_start in
          let d = m.before_end in
          (span, r.1, record { later = omega (arith, ints); sooner = omega (arith, ints) }))
    ]

-- a touched period is near, or new
touched-near : (all near new : List DutyInForce) (spans : List Span) (fdp : FdpTimes) (width : ℕ) →
    width ≤ 10_080 → AreIn spans new → AreAllButFar spans all near →
    IsTouched all new fdp width → IsTouched near new fdp width
touched-near all near new spans fdp width narrow inside rest touched =
    let n = touched_is_near all new spans fdp width inside touched in
    let later = n.2.later in
    let sooner = n.2.sooner in
    elim touched [
      | inl is_new ↦ inl is_new
      | inr old ↦ elim (rest.others (Fdp fdp) old.0) [
        | inl is_near ↦ inr (is_near, old.1)
        | inr far ↦ elim (far.report fdp refl n.0 n.1) [
          | inl early ↦ absurd (omega (arith, ints))
          | inr late ↦ absurd (omega (arith, ints))
        ]
      ]
    ]

-- a run in the look-back of a report that is near meets the near duties if it meets any
run-near : (all near : List DutyInForce) (spans : List Span) (span : Span) → Contains spans span →
    (report start : ℤ) (width length : ℕ) →
    width ≤ 10_080 → AreAllButFar spans all near → IsNear span report width →
    (report -ℤ pos width) ≤ℤ start → (start +ℤ pos length) ≤ℤ report →
    Meets (minutes_in Duty all) start length → Meets (minutes_in Duty near) start length
run-near all near spans span here report start width length narrow rest n low high m =
    let later = n.later in
    let sooner = n.sooner in
    let a = m.from_start in
    let b = m.before_end in
    elim (near_or_apart Duty all near spans rest m.minute m.member) [
      | inl is_near ↦ record {
        minute = m.minute;
        from_start = m.from_start;
        before_end = m.before_end;
        member = is_near;
      }
      | inr apart ↦ elim (apart span here) [
        | inl early ↦ absurd (omega (arith, ints))
        | inr late ↦ absurd (omega (arith, ints))
      ]
    ]

ten_hours-near : (all near new : List DutyInForce) (spans : List Span) → AreIn spans new →
    AreAllButFar spans all near → TenHourRest all new → TenHourRest near new
ten_hours-near all near new spans inside rest rule =
    let n = touched_is_near all new spans rule.fdp 600 inside rule.touched in
    record {
      fdp = rule.fdp;
      touched = touched-near all near new spans rule.fdp 600 (omega arith) inside rest rule.touched;
      worked = run-near all near spans n.0 n.1 (pos rule.fdp.report)
          (pos rule.fdp.report -ℤ pos 600) 600 600 (omega arith) rest n.2
          (omega (arith, ints)) (omega (arith, ints)) rule.worked;
    }

thirty_hours-near : (all near new : List DutyInForce) (spans : List Span) → AreIn spans new →
    AreAllButFar spans all near → ThirtyHourRest all new → ThirtyHourRest near new
thirty_hours-near all near new spans inside rest rule =
    let n = touched_is_near all new spans rule.fdp 10_080 inside rule.touched in
    record {
      fdp = rule.fdp;
      touched = touched-near all near new spans rule.fdp 10_080 (omega arith) inside rest
          rule.touched;
      worked = λ start low high. run-near all near spans n.0 n.1 (pos rule.fdp.report) start 10_080
          1_800 (omega arith) rest n.2 low high (rule.worked start low high);
    }

-- What the new duties break among all duties, they break among those that are near.
pub rule_stays : (s : Section) (all near new : List DutyInForce) (spans : List Span) →
    AreIn spans new → AreAllButFar spans all near → Rule s all new → Rule s near new
rule_stays section.FlightTime all near new spans inside rest rule = record {
  fdp = rule.fdp;
  is_new = rule.is_new;
  start = rule.start;
  entered = rule.entered;
  over = rule.over;
}
rule_stays section.FlightDutyPeriod all near new spans inside rest rule = record {
  fdp = rule.fdp;
  is_new = rule.is_new;
  start = rule.start;
  entered = rule.entered;
  over = rule.over;
}
rule_stays section.FlightTime672Hours all near new spans inside rest rule =
    over-near Flight all near new spans 40_320 6_000 (omega arith) inside rest rule
rule_stays section.FlightTime365Days all near new spans inside rest rule =
    year-near Flight all near new spans 60_000 inside rest rule
rule_stays section.FlightDutyPeriods168Hours all near new spans inside rest rule =
    over-near FlightDuty all near new spans 10_080 3_600 (omega arith) inside rest rule
rule_stays section.FlightDutyPeriods672Hours all near new spans inside rest rule =
    over-near FlightDuty all near new spans 40_320 11_400 (omega arith) inside rest rule
rule_stays section.ThirtyHourRest all near new spans inside rest rule =
    thirty_hours-near all near new spans inside rest rule
rule_stays section.TenHourRest all near new spans inside rest rule =
    ten_hours-near all near new spans inside rest rule

-- The rule of a section holds of all duties if and only if it holds of those that are near.
rule_same : (s : Section) (all near new : List DutyInForce) (spans : List Span) →
    AreIn spans new → AreAllButFar spans all near → Rule s all new ↔ Rule s near new
rule_same s all near new spans inside rest = (
  λ rule. rule_stays s all near new spans inside rest rule,
  λ rule. rule_grows s near all new new rest.within (λ duty is. is) rule,
)

breaks_same : (s : Section) (all near new : List DutyInForce) (spans : List Span) →
    AreIn spans new → AreAllButFar spans all near → breaks s all new ≡ breaks s near new
breaks_same s all near new spans inside rest =
    let a = breaks_is s all new in
    let b = breaks_is s near new in
    let r = rule_same s all near new spans inside rest in
    elim (cases_Bool (breaks s all new)) [
      | inl is ↦ is ∙ sym (b.1 (r.0 (a.0 is)))
      | inr not ↦ elim (cases_Bool (breaks s near new)) [
        | inl is ↦ absurd (false≢true (sym not ∙ a.1 (r.1 (b.0 is))))
        | inr none ↦ not ∙ sym none
      ]
    ]

pub far_changes_nothing : FarChangesNothing
unfolding Broken
far_changes_nothing all near new spans inside rest =
    filter_agree (λ s. breaks s all new) (λ s. breaks s near new)
    (λ s. breaks_same s all near new spans inside rest) all_sections

pub far_overlaps_nothing : FarOverlapsNothing
far_overlaps_nothing all near new spans inside rest = (
  λ o. elim (near_or_apart Duty all near spans rest o.minute o.in_history) [
    | inl is_near ↦ record { minute = o.minute; in_history = is_near; in_other = o.in_other }
    | inr apart ↦ (let r = inside.minutes Duty o.minute o.in_other in
        let a = r.2 in
        let b = r.3 in
        elim (apart r.0 r.1) [
          | inl early ↦ absurd (omega (arith, ints))
          | inr late ↦ absurd (omega (arith, ints))
        ])
  ],
  λ o. record {
    minute = o.minute;
    in_history = part-minutes Duty near all rest.within o.minute o.in_history;
    in_other = o.in_other;
  },
)
