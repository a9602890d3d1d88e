-- The rule of 365 days needs to be tried at finitely many years: those whose last day is the day of
-- a span's last minute or the one before, and those that end with the first day, or begin with the
-- last day, of a new span.
use Rattle.std.proofs.Common.{◌≡◌, ℕ, suc, ◌+◌, ◌-◌, ◌*◌, ◌/◌, ◌<◌, ◌≤◌, Bool, true, ltb, List, sym}
use Rattle.std.proofs.Common.{ap, ◌∙◌, subst, arith, inl, inr, ◌⊎◌, ◌↔◌}
use Rattle.std.specs.Prelude.{ℤ, pos, negsuc, ◌+ℤ◌, ◌-ℤ◌, ◌*ℤ◌, ◌≤ℤ◌, ◌<ℤ◌, IsTrue}
use Rattle.std.specs.List.{list_any}
use Rattle.std.proofs.lemmas.Int.{ints}
use Rattle.std.proofs.lemmas.Bool.{false≢true, cases_lt, cases_eq, or_cases, or_left, or_right}
use Rattle.std.proofs.lemmas.Bool.{and_parts, and_from, lt-ltb, ltb-true}
use Rattle.duty.specs.declared.span.Span.{Span}
use Rattle.duty.specs.Minutes.{count, covers, minutes_of}
use Rattle.duty.proofs.Counting.{below, below-range, below-full, before, count-before}
use Rattle.duty.proofs.SpanFacts.{covers-true, covers-from, no_negative}
use Rattle.limits.specs.Rules.{IsYearOver}
use Rattle.limits.specs.Laws.SumRule.{members, trimmed, over-test, test-over, some_span}
use Rattle.limits.specs.Laws.SumRule.{reaches-from, reaches-true}
use Rattle.limits.specs.Laws.Windows.{held, reaches, year_is_over, year_end_is_over}
use Rattle.limits.specs.Laws.Windows.{year_edge_is_over, some_year_is_over}

-- up to a later minute a set has no fewer members, and at most one more for each minute
below-le : (set : ℕ → Bool) (m n : ℕ) → m ≤ n →
    (below set m ≤ below set n) × (below set n ≤ below set m + (n - m))
below-le set m n l = let e : m + (n - m) ≡ n = omega arith in rw e at (below-range set m (n - m))

-- a window that slides on over members holds no less
grown : (set : ℕ → Bool) (from to width : ℕ) → from ≤ to →
    ((i : ℕ) → from ≤ i → i < to → set i ≡ true) →
    before set from width ≤ before set to width
grown set from to width l full =
    let a = below-full set from to l full in
    let b = below-le set (from - width) (to - width) (omega arith) in
    omega arith

-- From a day that ends in a span the 365 days may slide on to the last day that the span fills.
year_at :
    (all new : List Span) (most day : ℕ) (span s : Span) → span.from < span.to →
    ((P : Span → Bool) → P span ≡ true → list_any P new ≡ true) →
    ((P : Span → Bool) → P s ≡ true → list_any P all ≡ true) →
    span.from < (day + 1) * 1_440 → (day + 1) * 1_440 ≤ span.to - 1 + 525_600 →
    s.from < (day + 1) * 1_440 →
    day ≤ (s.to - 1) / 1_440 → 0 < s.to →
    most < before (members all) ((day + 1) * 1_440) 525_600 → some_year_is_over all new most ≡ true
year_at all new most day span s some among among_all after within starts lasts full more =
    let q : ℕ = (s.to - 1) / 1_440 in
    elim (cases_eq day q) [
      | inl same ↦ (let P : ℕ → Type 0 =
          λ d. most < before (members all) ((d + 1) * 1_440) 525_600 in
          let R : ℕ → Type 0 = λ d. (span.from < (d + 1) * 1_440) ×
          ((d + 1) * 1_440 < span.to + 525_600) in
          let r : R q = subst R same (after, omega arith) in
          or_left _ _ (among_all (year_end_is_over all new most)
          (or_left _ _ (and_from _ _ (among (reaches ((q + 1) * 1_440) 525_600)
          (reaches-from ((q + 1) * 1_440) 525_600 span some r.0 r.1))
          (over-test all most ((q + 1) * 1_440) 525_600 (subst P same more))))))
      | inr other ↦ (let set = members all in
          let last : ℕ = (span.to - 1) / 1_440 + 365 in
          let from : ℕ = (day + 1) * 1_440 in
          let full_to : (to : ℕ) → to ≤ q * 1_440 → (i : ℕ) → from ≤ i → i < to → set i ≡ true =
          λ to l i b h. among_all (covers (pos i)) (covers-from i s (omega arith) (omega arith)) in
          elim (cases_lt last q) [
            | inl cut ↦ (let to : ℕ = last * 1_440 in
                let more_to = grown set from to 525_600 (omega arith) (full_to to (omega arith)) in
                or_right _ _ (among (year_edge_is_over all most)
                (and_from _ _ (lt-ltb _ _ some)
                (or_right _ _ (over-test all most to 525_600 (omega arith))))))
            | inr whole ↦ (let to : ℕ = q * 1_440 in
                let more_to = grown set from to 525_600 (omega arith) (full_to to (omega arith)) in
                or_left _ _ (among_all (year_end_is_over all new most)
                (or_right _ _ (and_from _ _ (among (reaches to 525_600)
                (reaches-from to 525_600 span some (omega arith) (omega arith)))
                (over-test all most to 525_600 (omega arith))))))
          ])
    ]

-- the tests find a year that holds too much and reaches a new span
found_year :
    (all new : List Span) (most days minute : ℕ) (span : Span) →
    covers (pos minute) span ≡ true → ((P : Span → Bool) → P span ≡ true → list_any P new ≡ true) →
    minute < days * 1_440 → days * 1_440 ≤ minute + 525_600 →
    most < before (members all) (days * 1_440) 525_600 →
    some_year_is_over all new most ≡ true
found_year all new most days minute span covered among from to more =
    let set = members all in
    let end : ℕ = days * 1_440 in
    let c = covers-true minute span covered in
    let r = trimmed set (span.from + 1) (end - (span.from + 1)) in
    let whole : span.from + 1 + (end - (span.from + 1)) ≡ end = omega arith in
    let at = r.0 in
    let day : ℕ = (at - 1) / 1_440 in
    let up : ℕ = (day + 1) * 1_440 in
    let same : below set at ≡ below set end = r.3 ∙ ap (below set) whole in
    let at_up : at ≤ up = omega arith in
    let up_end : up ≤ end = omega arith in
    let a = below-le set at up at_up in
    let b = below-le set up end up_end in
    let front = below-le set (up - 525_600) (end - 525_600) (omega arith) in
    let more_up : most < before set up 525_600 = omega arith in
    elim r.4 [
      | inl least ↦ (let P : ℕ → Type 0 =
          λ n. most < before set (((n - 1) / 1_440 + 1) * 1_440) 525_600 in
          let e : span.from + 1 - 1 ≡ span.from = omega arith in
          let Q : ℕ → Type 0 = λ n. most < before set ((n / 1_440 + 1) * 1_440) 525_600 in
          let more_first : Q span.from = subst Q e (subst P least more_up) in
          or_right _ _ (among (year_edge_is_over all most)
          (and_from _ _ (lt-ltb _ _ (omega arith))
          (or_left _ _ (over-test all most ((span.from / 1_440 + 1) * 1_440) 525_600 more_first)))))
      | inr last ↦ (let s = some_span (covers (pos (at - 1))) all last in
          let d = covers-true (at - 1) s.0 s.1 in
          year_at all new most day span s.0 (omega arith) among s.2 (omega arith) (omega arith)
          (omega arith)
          (omega arith) (omega arith) more_up)
    ]

-- a year that reaches a natural minute ends with a natural number of days
year_end : (day : ℤ) (minute : ℕ) → (day *ℤ pos 1_440) ≤ℤ pos minute →
    pos minute <ℤ (day *ℤ pos 1_440 +ℤ pos 525_600) →
    (days : ℕ) × (day *ℤ pos 1_440 ≡ pos (days * 1_440) -ℤ pos 525_600) × (minute < days * 1_440) ×
    (days * 1_440 ≤ minute + 525_600)
year_end (pos n) minute from to =
    (n + 365, omega (arith, ints), omega (arith, ints), omega (arith, ints))
year_end (negsuc n) minute from to =
    (365 - suc n, omega (arith, ints), omega (arith, ints), omega (arith, ints))

-- The day 365 days before a day begins 525,600 minutes before that day.
year_back : (days : ℕ) → (pos days -ℤ pos 365) *ℤ pos 1_440 ≡ pos (days * 1_440) -ℤ pos 525_600
year_back days = omega (arith, ints)

-- 365 days that end with a whole day, meet a new minute and hold too much break the rule of 365
-- days.
year_broken : (all new : List Span) (most days minute : ℕ) → members new minute ≡ true →
    minute < days * 1_440 →
    days * 1_440 ≤ minute + 525_600 →
    most < before (members all) (days * 1_440) 525_600 →
    IsYearOver most (minutes_of all) (minutes_of new)
year_broken all new most days minute member from to more =
    let e = year_back days in
    record {
      day = pos days -ℤ pos 365;
      meets = record {
        minute = pos minute;
        from_start = rw e (omega (arith, ints));
        before_end =
            rw e (omega (arith, ints));
        member = member;
      };
      more = rw (e, count-before (minutes_of all) (no_negative all) (days * 1_440) 525_600) more;
    }

-- 365 days that the test finds at the end of a day break the rule of 365 days.
year_sound_end : (all new : List Span) (most days : ℕ) →
    year_is_over all new most (days * 1_440) ≡ true →
    IsYearOver most (minutes_of all) (minutes_of new)
year_sound_end all new most days is =
    let end : ℕ = days * 1_440 in
    let a = and_parts (list_any (reaches end 525_600) new) (ltb most (held all end 525_600)) is in
    let r = some_span (reaches end 525_600) new a.0 in
    let s = r.0 in
    let t = reaches-true end 525_600 s r.1 in
    let more = test-over all most end 525_600 a.1 in
    elim (cases_lt (s.from + 525_600) end) [
      | inl short ↦ (let m : ℕ = end - 525_600 in
          year_broken all new most days m
          (r.2 (covers (pos m)) (covers-from m s (omega arith) (omega arith)))
          (omega arith) (omega arith) more)
      | inr long ↦ year_broken all new most days s.from
          (r.2 (covers (pos s.from)) (covers-from s.from s (omega arith) (omega arith)))
          (omega arith)
          (omega arith) more
    ]

-- What the test of an edge finds: a span with a minute, and one of the span's two years holds too
-- much.
year_edge-parts :
    (all : List Span) (most : ℕ) (s : Span) → year_edge_is_over all most s ≡ true →
    (s.from < s.to) × ((most < before (members all) ((s.from / 1_440 + 1) * 1_440) 525_600) ⊎
    (most < before (members all) (((s.to - 1) / 1_440 + 365) * 1_440) 525_600))
year_edge-parts all most s is =
    let t = and_parts _ _ is in (
      ltb-true _ _ t.0,
      elim (or_cases _ _ t.1) [
        | inl first ↦
            inl (test-over all most ((s.from / 1_440 + 1) * 1_440) 525_600 first)
        | inr last ↦
            inr (test-over all most (((s.to - 1) / 1_440 + 365) * 1_440) 525_600 last)
      ],
    )

-- 365 days that the test finds at an edge of a new span break the rule of 365 days.
year_sound_edge : (all new : List Span) (most : ℕ) →
    list_any (year_edge_is_over all most) new ≡ true →
    IsYearOver most (minutes_of all) (minutes_of new)
year_sound_edge all new most is =
    let r = some_span (year_edge_is_over all most) new is in
    let s = r.0 in
    let t = year_edge-parts all most s r.1 in
    let lt : s.from < s.to = t.0 in
    elim t.1 [
      | inl first ↦ year_broken all new most (s.from / 1_440 + 1) s.from
          (r.2 (covers (pos s.from)) (covers-from s.from s (omega arith) (omega arith)))
          (omega arith)
          (omega arith) first
      | inr last ↦ (let m : ℕ = s.to - 1 in
          year_broken all new most ((s.to - 1) / 1_440 + 365) m
          (r.2 (covers (pos m)) (covers-from m s (omega arith) (omega arith))) (omega arith)
          (omega arith) last)
    ]

-- 365 days that the test of a span of the history finds break the rule of 365 days.
year_sound_span : (all new : List Span) (most : ℕ) (s : Span) →
    year_end_is_over all new most s ≡ true →
    IsYearOver most (minutes_of all) (minutes_of new)
year_sound_span all new most s is =
    elim (or_cases (year_is_over all new most (((s.to - 1) / 1_440 + 1) * 1_440))
    (year_is_over all new most ((s.to - 1) / 1_440 * 1_440)) is) [
      | inl a ↦ year_sound_end all new most ((s.to - 1) / 1_440 + 1) a
      | inr b ↦ year_sound_end all new most ((s.to - 1) / 1_440) b
    ]

-- If the tests find 365 days, the rule of 365 days is broken.
year_sound : (all new : List Span) (most : ℕ) → some_year_is_over all new most ≡ true →
    IsYearOver most (minutes_of all) (minutes_of new)
year_sound all new most is =
    elim (or_cases (list_any (year_end_is_over all new most) all)
    (list_any (year_edge_is_over all most) new) is) [
      | inl at_end ↦ (let r = some_span (year_end_is_over all new most) all at_end in
          year_sound_span all new most r.0 r.1)
      | inr at_edge ↦ year_sound_edge all new most at_edge
    ]

-- where some 365 days meet a new minute and hold too much, the tests find a year
year_complete :
    (all new : List Span) (most : ℕ) (day minute : ℤ) → (day *ℤ pos 1_440) ≤ℤ minute →
    minute <ℤ (day *ℤ pos 1_440 +ℤ pos 525_600) →
    minutes_of new minute ≡ true → most < count (minutes_of all) (day *ℤ pos 1_440) 525_600 →
    some_year_is_over all new most ≡ true
year_complete all new most day (negsuc n) from to member more =
    absurd (false≢true (sym (no_negative new n) ∙ member))
year_complete all new most day (pos n) from to member more =
    let r = some_span (covers (pos n)) new member in
    let w = year_end day n from to in
    let e : count (minutes_of all) (day *ℤ pos 1_440) 525_600 ≡
    before (members all) (w.0 * 1_440) 525_600 =
    ap (λ t. count (minutes_of all) t 525_600) w.1 ∙
    count-before (minutes_of all) (no_negative all) (w.0 * 1_440) 525_600 in
    found_year all new most w.0 n r.0 r.1 r.2 w.2 w.3 (omega arith)

-- The rule of 365 days is broken if and only if the tests find a year.
pub year_rule : (all new : List Span) (most : ℕ) → IsTrue (some_year_is_over all new most) ↔
    IsYearOver most (minutes_of all) (minutes_of new)
year_rule all new most = (
  year_sound all new most,
  λ over. year_complete all new most over.day over.meets.minute over.meets.from_start
      over.meets.before_end over.meets.member over.more,
)
