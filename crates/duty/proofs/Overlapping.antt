-- Two lists of spans share a minute where a span of the one meets a span of the other.
use Rattle.std.proofs.Common.{◌≡◌, ℕ, ◌-◌, ◌<◌, ◌≤◌, Bool, true, false, List, [], ◌∷◌, max, min, refl, sym, ◌∙◌, arith, inl, inr, ◌↔◌}
use Rattle.std.specs.Prelude.{ℤ, pos, negsuc, ◌-ℤ◌, ◌≤ℤ◌, ◌<ℤ◌, IsTrue}
use Rattle.std.specs.List.{list_any, flat_map}
use Rattle.std.proofs.lemmas.Int.{ints}
use Rattle.std.proofs.lemmas.Bool.{false≢true, cases_Bool, or_from, ltb-true, lt-ltb, le-ltb}
use Rattle.duty.specs.declared.span.Span.{Span}
use Rattle.duty.specs.declared.duty_in_force.DutyInForce.{DutyInForce}
use Rattle.duty.specs.declared.kind.Kind.TheVariants.{Duty}
use Rattle.duty.specs.Minutes.{covers, minutes_of, spans_of, Meets, Overlap}
use Rattle.duty.specs.Overlaps.{meets_span, overlaps}
use Rattle.duty.proofs.SpanFacts.{covers-true, covers-from, no_negative, some_span}

meets-shared : (a b : Span) (n : ℕ) → covers (pos n) a ≡ true → covers (pos n) b ≡ true → meets_span a b ≡ true
meets-shared a b n in_a in_b =
    let p = covers-true n a in_a in
    let q = covers-true n b in_b in
    lt-ltb _ _ (omega arith)

-- the first minute that two spans share
at_first : (a b : Span) → meets_span a b ≡ true → (covers (pos (max a.from b.from)) a ≡ true) ×
    (covers (pos (max a.from b.from)) b ≡ true)
at_first a b meets =
    let l : max a.from b.from < min a.to b.to = ltb-true _ _ meets in (
      covers-from (max a.from b.from) a (omega arith) (omega arith),
      covers-from (max a.from b.from) b (omega arith) (omega arith),
    )

-- a span meets one of the list where the list has one of its minutes
meets-member : (s : Span) (spans : List Span) (minute : ℤ) → (pos s.to -ℤ pos (s.to - s.from)) ≤ℤ minute →
    minute <ℤ pos s.to → s.from < s.to → minutes_of spans minute ≡ true → list_any (meets_span s) spans ≡ true
meets-member s spans (negsuc n) from to some member = absurd (false≢true (sym (no_negative spans n) ∙ member))
meets-member s spans (pos n) from to some member =
    let b = some_span (covers (pos n)) spans member in
    b.2 (meets_span s) (meets-shared s b.0 n (covers-from n s (omega (arith, ints)) (omega (arith, ints))) b.1)

meets-here : (s : Span) (spans : List Span) → s.from < s.to →
    IsTrue (list_any (meets_span s) spans) ↔ Meets (minutes_of spans) (pos s.to -ℤ pos (s.to - s.from)) (s.to - s.from)
meets-here s spans some = (
  λ is. (let b = some_span (meets_span s) spans is in
      let n : ℕ = max s.from b.0.from in
      let c = at_first s b.0 b.1 in
      let l = covers-true n s c.0 in
      record {
        minute = pos n;
        from_start = omega (arith, ints);
        before_end = omega (arith, ints);
        member = b.2 (covers (pos n)) c.1;
      }),
  λ m. meets-member s spans m.minute m.from_start (let e = m.before_end in omega (arith, ints)) some m.member,
)

same_test : (a b : Bool) (P : Type 0) → (a ≡ true) ↔ P → (b ≡ true) ↔ P → a ≡ b
same_test true true P p q = refl
same_test false false P p q = refl
same_test true false P p q = absurd (false≢true (q.1 (p.0 refl)))
same_test false true P p q = absurd (false≢true (p.1 (q.0 refl)))

-- a test of whether the minutes of a span are met is one of whether a span of the list meets it
pub meets-test : (test : Bool) (s : Span) (spans : List Span) → s.from < s.to →
    IsTrue test ↔ Meets (minutes_of spans) (pos s.to -ℤ pos (s.to - s.from)) (s.to - s.from) →
    test ≡ list_any (meets_span s) spans
meets-test test s spans some tells = same_test test (list_any (meets_span s) spans) _ tells (meets-here s spans some)

-- a span that holds no minute meets none
pub meets-none : (s : Span) (spans : List Span) → s.to ≤ s.from → false ≡ list_any (meets_span s) spans
meets-none s [] empty = refl
meets-none s (x ∷ xs) empty = sym (or_from _ _ (le-ltb _ _ (omega arith)) (sym (meets-none s xs empty)))

-- some spans of the two lists meet
abbrev pub share : List Span → List Span → Bool
share spans other = list_any (λ span. list_any (meets_span span) other) spans

shared_minute : (spans other : List Span) → share spans other ≡ true →
    (minute : ℤ) × (minutes_of spans minute ≡ true) × (minutes_of other minute ≡ true)
shared_minute spans other is =
    let a = some_span (λ span. list_any (meets_span span) other) spans is in
    let b = some_span (meets_span a.0) other a.1 in
    let n : ℕ = max a.0.from b.0.from in
    let c = at_first a.0 b.0 b.1 in
    (pos n, a.2 (covers (pos n)) c.0, b.2 (covers (pos n)) c.1)

share-minute : (spans other : List Span) (minute : ℤ) → minutes_of spans minute ≡ true → minutes_of other minute ≡ true →
    share spans other ≡ true
share-minute spans other (negsuc n) here there = absurd (false≢true (sym (no_negative spans n) ∙ here))
share-minute spans other (pos n) here there =
    let a = some_span (covers (pos n)) spans here in
    let b = some_span (covers (pos n)) other there in
    a.2 (λ span. list_any (meets_span span) other) (b.2 (meets_span a.0) (meets-shared a.0 b.0 n a.1 b.1))

share-within : (spans other spans' other' : List Span) → ((m : ℤ) → minutes_of spans m ≡ minutes_of spans' m) →
    ((m : ℤ) → minutes_of other m ≡ minutes_of other' m) → share spans other ≡ true → share spans' other' ≡ true
share-within spans other spans' other' same same' is =
    let r = shared_minute spans other is in
    share-minute spans' other' r.0 (sym (same r.0) ∙ r.1) (sym (same' r.0) ∙ r.2)

-- lists of the same minutes share a minute alike
pub share-same : (spans other spans' other' : List Span) → ((m : ℤ) → minutes_of spans m ≡ minutes_of spans' m) →
    ((m : ℤ) → minutes_of other m ≡ minutes_of other' m) → share spans other ≡ share spans' other'
share-same spans other spans' other' same same' =
    elim (cases_Bool (share spans other)) [
      | inl is ↦ is ∙ sym (share-within spans other spans' other' same same' is)
      | inr none ↦ elim (cases_Bool (share spans' other')) [
        | inl is ↦ absurd (false≢true (sym none ∙
            share-within spans' other' spans other (λ m. sym (same m)) (λ m. sym (same' m)) is))
        | inr none' ↦ none ∙ sym none'
      ]
    ]

-- histories overlap where they share a duty minute
pub overlaps_is : (history other : List DutyInForce) → IsTrue (overlaps history other) ↔ Overlap history other
unfolding overlaps
overlaps_is history other =
    let spans = flat_map (spans_of Duty) history in
    let others = flat_map (spans_of Duty) other in (
      λ is. (let r = shared_minute spans others is in record { minute = r.0; in_history = r.1; in_other = r.2 }),
      λ o. share-minute spans others o.minute o.in_history o.in_other,
    )
