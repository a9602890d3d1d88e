-- A sum rule needs to be tried at finitely many windows: those that end where a span of the history
-- ends, and those that end just past the first minute, or begin at the last minute, of a new span.
pub use Rattle.duty.proofs.SpanFacts.{some_span}
use Rattle.std.proofs.Common.{◌≡◌, ℕ, zero, suc, ◌+◌, ◌-◌, ◌<◌, ◌≤◌, Bool, true, false, List, []}
use Rattle.std.proofs.Common.{◌∷◌, refl, sym, ap, ◌∙◌, subst, arith, inl, inr, ◌⊎◌, ◌↔◌}
use Rattle.std.specs.Prelude.{ℤ, pos, negsuc, ◌+ℤ◌, ◌-ℤ◌, ◌≤ℤ◌, ◌<ℤ◌, IsTrue, nat_lt}
use Rattle.std.specs.List.{list_any}
use Rattle.std.proofs.lemmas.Int.{ints}
use Rattle.std.proofs.lemmas.Bool.{false≢true, cases_Bool, cases_lt, cases_eq, or_parts, or_left}
use Rattle.std.proofs.lemmas.Bool.{or_right, and_parts, and_from, or_cases, ltb-true, lt-ltb}
use Rattle.duty.specs.declared.span.Span.{Span}
use Rattle.duty.specs.Minutes.{count, Meets, covers, minutes_of}
use Rattle.duty.proofs.Counting.{below, below-range, below-all, below-suc, before, count-before}
use Rattle.duty.proofs.Counting.{window_end}
use Rattle.duty.proofs.SpanFacts.{covers-true, covers-from, no_negative}
use Rattle.limits.specs.Rules.{IsOver}
use Rattle.limits.specs.Laws.Windows.{held, reaches, end_is_over, edge_is_over, some_is_over}

-- a window may be cut back to one that ends just past a member, but not to less than `least`
pub trimmed :
    (set : ℕ → Bool) (least k : ℕ) →
    (end : ℕ) × (least ≤ end) × (end ≤ least + k) × (below set end ≡ below set (least + k)) ×
    ((end ≡ least) ⊎ (set (end - 1) ≡ true))
trimmed set least zero = let e : least + 0 ≡ least = omega arith in
    (least, omega arith, omega arith, ap (below set) (sym e), inl refl)
trimmed set least (suc k) =
    elim (cases_Bool (set (least + k))) [
      | inl is ↦ (let e : suc (least + k) - 1 ≡ least + k = omega arith in
          let f : least + suc k ≡ suc (least + k) = omega arith in
          (suc (least + k), omega arith, omega arith, ap (below set) (sym f), inr (rw e is)))
      | inr is ↦ (let r = trimmed set least k in
          let f : least + suc k ≡ suc (least + k) = omega arith in
          let same : below set (suc (least + k)) ≡ below set (least + k) =
          rw (below-suc, is) (omega arith) in
          (r.0, r.1, omega arith, r.3 ∙ sym same ∙ ap (below set) (sym f), r.4))
    ]

-- From a member of the set on, a window may slide on to where the members end, or for k minutes.
slid :
    (set : ℕ → Bool) (at k : ℕ) → set (at - 1) ≡ true →
    (n : ℕ) × (n ≤ k) × ((i : ℕ) → at ≤ i → i < at + n → set i ≡ true) ×
    ((n ≡ k) ⊎ ((set (at + n) ≡ false) × (set (at + n - 1) ≡ true)))
slid set at zero last = (0, omega arith, λ i l h. absurd (omega arith), inl refl)
slid set at (suc k) last =
    elim (cases_Bool (set at)) [
      | inl is ↦ (let one : (at + 1) - 1 ≡ at = omega arith in
          let r = slid set (at + 1) k (rw one is) in
          let e : at + (r.0 + 1) ≡ at + 1 + r.0 = omega arith in
          let all : (i : ℕ) → at ≤ i → i < at + (r.0 + 1) → set i ≡ true =
          λ i l h. elim (cases_eq i at) [
            | inl same ↦ rw same is
            | inr other ↦ r.2 i (omega arith) (omega arith)
          ] in (
            r.0 + 1,
            omega arith,
            all,
            elim r.3 [ inl done ↦ inl (omega arith) | inr done ↦ inr (rw e done) ],
          ))
      | inr is ↦ (let e : at + 0 ≡ at = omega arith in
          (0, omega arith, λ i l h. absurd (omega arith), inr (rw e (is, last))))
    ]

-- the set of the natural minutes that some spans hold
abbrev pub members : List Span → ℕ → Bool
members spans n = minutes_of spans (pos n)

-- what a window holds, by the counts up to its two ends
pub held-before : (spans : List Span) (end width : ℕ) →
    held spans end width ≡ before (members spans) end width
held-before spans end width = count-before (minutes_of spans) (no_negative spans) end width

-- a window that holds too much passes the test
pub over-test : (spans : List Span) (most end width : ℕ) → most < before (members spans) end width →
    nat_lt most (held spans end width) ≡ true
over-test spans most end width more = rw held-before (lt-ltb _ _ more)

-- a window that passes the test holds too much
pub test-over : (spans : List Span) (most end width : ℕ) →
    nat_lt most (held spans end width) ≡ true →
    most < before (members spans) end width
test-over spans most end width is =
    let e = held-before spans end width in
    let l = ltb-true _ _ is in
    omega arith

-- A span that reaches a window has a minute, begins before the window's end, and ends after the
-- window's begin.
pub reaches-true : (end width : ℕ) (new : Span) → reaches end width new ≡ true →
    (new.from < new.to) ×
    (new.from < end) × (end < new.to + width)
reaches-true end width new is =
    let a = and_parts _ _ is in
    let b = and_parts _ _ a.1 in
    (ltb-true _ _ a.0, ltb-true _ _ b.0, ltb-true _ _ b.1)

-- A span that has a minute, begins before a window's end, and ends after the window's begin reaches
-- that window.
pub reaches-from : (end width : ℕ) (new : Span) → new.from < new.to → new.from < end →
    end < new.to + width →
    reaches end width new ≡ true
reaches-from end width new a b c =
    and_from _ _ (lt-ltb _ _ a) (and_from _ _ (lt-ltb _ _ b) (lt-ltb _ _ c))

-- Where the members of spans end, a span ends.
span_end : (spans : List Span) (n : ℕ) → members spans n ≡ true → members spans (n + 1) ≡ false →
    (P : Span → Bool) →
    ((s : Span) → s.to ≡ n + 1 → P s ≡ true) → list_any P spans ≡ true
span_end [] n is ends P h = absurd (false≢true is)
span_end (s ∷ spans) n is ends P h =
    elim (or_cases _ _ is) [
      | inl here ↦ (let a = covers-true n s here in
          let last : s.to ≤ n + 1 = elim (cases_lt (n + 1) s.to) [
            | inl more ↦ absurd (false≢true
                (sym (or_parts _ _ ends).0 ∙ covers-from (n + 1) s (omega arith) more))
            | inr at_end ↦ at_end
          ] in
          or_left _ _ (h s (omega arith)))
      | inr later ↦ or_right _ _ (span_end spans n later (or_parts _ _ ends).1 P h)
    ]

-- the tests find a window that ends just past a member, holds too much and reaches a new span
found_at :
    (all new : List Span) (width most at : ℕ) (span : Span) →
    span.from < span.to → ((P : Span → Bool) → P span ≡ true → list_any P new ≡ true) →
    span.from < at → at ≤ span.to - 1 + width → members all (at - 1) ≡ true →
    most < before (members all) at width →
    some_is_over all new width most ≡ true
found_at all new width most at span some among after within last more =
    let set = members all in
    let limit : ℕ = span.to - 1 + width in
    let q = slid set at (limit - at) last in
    let end : ℕ = at + q.0 in
    let grown : below set end ≡ below set at + q.0 = below-all set at q.0 q.2 in
    let shift : (end - width) - (at - width) ≤ q.0 = omega arith in
    let front : below set (end - width) ≤ below set (at - width) + q.0 =
    (let e : at - width + ((end - width) - (at - width)) ≡ end - width = omega arith in
    let f = rw e at (below-range set (at - width) ((end - width) - (at - width))).1 in
    omega arith) in
    let more_end : most < before set end width = omega arith in
    elim q.3 [
      | inl edge ↦ (let e : end ≡ limit = omega arith in
          let P : ℕ → Type 0 = λ n. most < before set n width in
          let more_edge : most < before set limit width = subst P e more_end in
          or_right _ _ (among (edge_is_over all width most)
          (and_from _ _ (lt-ltb _ _ some)
          (or_right _ _ (over-test all most limit width more_edge)))))
      | inr ends ↦ (let e : end - 1 + 1 ≡ end = omega arith in
          let ended : members all (end - 1 + 1) ≡ false = rw e ends.0 in
          or_left _ _ (span_end all (end - 1) ends.1 ended (end_is_over all new width most) (λ s to.
          (let t : s.to ≡ end = to ∙ e in
          rw t (and_from _ _ (among (reaches end width)
          (reaches-from end width span some (omega arith) (omega arith)))
          (over-test all most end width more_end))))))
    ]

-- the tests find a window that holds too much and reaches a new span
found :
    (all new : List Span) (width most end minute : ℕ) (span : Span) →
    covers (pos minute) span ≡ true → ((P : Span → Bool) → P span ≡ true → list_any P new ≡ true) →
    minute < end → end ≤ minute + width → most < before (members all) end width →
    some_is_over all new width most ≡ true
found all new width most end minute span covered among from to more =
    let set = members all in
    let c = covers-true minute span covered in
    let r = trimmed set (span.from + 1) (end - (span.from + 1)) in
    let whole : span.from + 1 + (end - (span.from + 1)) ≡ end = omega arith in
    let at = r.0 in
    let same : below set at ≡ below set end = r.3 ∙ ap (below set) whole in
    let front : below set (at - width) ≤ below set (end - width) =
    (let e : at - width + ((end - width) - (at - width)) ≡ end - width = omega arith in
    rw e at (below-range set (at - width) ((end - width) - (at - width))).0) in
    let more_at : most < before set at width = omega arith in
    elim r.4 [
      | inl least ↦ (let P : ℕ → Type 0 = λ n. most < before set n width in
          or_right _ _ (among (edge_is_over all width most)
          (and_from _ _ (lt-ltb _ _ (omega arith))
          (or_left _ _ (over-test all most (span.from + 1) width (subst P least more_at))))))
      | inr last ↦ found_at all new width most at span (omega arith) among (omega arith)
          (omega arith) last more_at
    ]

-- A window that holds too much and reaches a new minute breaks the sum rule.
broken_at :
    (all new : List Span) (width most end minute : ℕ) → members new minute ≡ true → minute < end →
    end ≤ minute + width →
    most < before (members all) end width → IsOver width most (minutes_of all) (minutes_of new)
broken_at all new width most end minute member from to more = record {
  start = pos end -ℤ pos width;
  meets = record {
    minute = pos minute;
    from_start = omega (arith, ints);
    before_end = omega (arith, ints);
    member =
        member;
  };
  more = rw (count-before (minutes_of all) (no_negative all) end width) more;
}

-- A window that ends at this minute, reaches a new span and holds too much breaks the sum rule.
pub sound_end : (all new : List Span) (width most end : ℕ) → 0 < width →
    list_any (reaches end width) new ≡ true →
    most < before (members all) end width → IsOver width most (minutes_of all) (minutes_of new)
sound_end all new width most end some reached more =
    let r = some_span (reaches end width) new reached in
    let s = r.0 in
    let t = reaches-true end width s r.1 in
    elim (cases_lt (s.from + width) end) [
      | inl short ↦ (let m : ℕ = end - width in
          broken_at all new width most end m
          (r.2 (covers (pos m)) (covers-from m s (omega arith) (omega arith)))
          (omega arith) (omega arith) more)
      | inr long ↦ broken_at all new width most end s.from
          (r.2 (covers (pos s.from)) (covers-from s.from s (omega arith) (omega arith)))
          (omega arith)
          (omega arith) more
    ]

-- What the test of an edge finds: a span with a minute, and one of the span's two windows holds too
-- much.
edge-parts :
    (all : List Span) (width most : ℕ) (s : Span) → edge_is_over all width most s ≡ true →
    (s.from < s.to) × ((most < before (members all) (s.from + 1) width) ⊎
    (most < before (members all) (s.to - 1 + width) width))
edge-parts all width most s is =
    let t = and_parts _ _ is in (
      ltb-true _ _ t.0,
      elim (or_cases _ _ t.1) [
        | inl first ↦
            inl (test-over all most (s.from + 1) width first)
        | inr last ↦
            inr (test-over all most (s.to - 1 + width) width last)
      ],
    )

-- A window that the test finds at an edge of a new span breaks the sum rule.
pub sound_edge : (all new : List Span) (width most : ℕ) → 0 < width →
    list_any (edge_is_over all width most) new ≡ true →
    IsOver width most (minutes_of all) (minutes_of new)
sound_edge all new width most some is =
    let r = some_span (edge_is_over all width most) new is in
    let s = r.0 in
    let t = edge-parts all width most s r.1 in
    let lt : s.from < s.to = t.0 in
    elim t.1 [
      | inl first ↦ broken_at all new width most (s.from + 1) s.from
          (r.2 (covers (pos s.from)) (covers-from s.from s (omega arith) (omega arith)))
          (omega arith)
          (omega arith) first
      | inr last ↦ (let m : ℕ = s.to - 1 in
          broken_at all new width most (s.to - 1 + width) m
          (r.2 (covers (pos m)) (covers-from m s (omega arith) (omega arith))) (omega arith)
          (omega arith) last)
    ]

-- If the tests find a window, the sum rule is broken.
sound : (all new : List Span) (width most : ℕ) → 0 < width →
    some_is_over all new width most ≡ true →
    IsOver width most (minutes_of all) (minutes_of new)
sound all new width most some is =
    elim (or_cases _ _ is) [
      | inl at_end ↦ (let r = some_span (end_is_over all new width most) all at_end in
          let t = and_parts _ _ r.1 in
          sound_end all new width most r.0.to some t.0 (test-over all most r.0.to width t.1))
      | inr at_edge ↦ sound_edge all new width most some at_edge
    ]

-- If a window that meets a new minute holds too much, the tests find a window.
complete_at :
    (all new : List Span) (width most : ℕ) (start minute : ℤ) → start ≤ℤ minute →
    minute <ℤ (start +ℤ pos width) →
    minutes_of new minute ≡ true → most < count (minutes_of all) start width →
    some_is_over all new width most ≡ true
complete_at all new width most start (negsuc n) from to member more =
    absurd (false≢true (sym (no_negative new n) ∙ member))
complete_at all new width most start (pos n) from to member more =
    let r = some_span (covers (pos n)) new member in
    let w = window_end start width n from to in
    let e : count (minutes_of all) start width ≡ before (members all) w.0 width =
    ap (λ t. count (minutes_of all) t width) w.1 ∙
    count-before (minutes_of all) (no_negative all) w.0 width in
    found all new width most w.0 n r.0 r.1 r.2 w.2 w.3 (omega arith)

-- A sum rule is broken if and only if the tests find a window.
pub sum_rule : (all new : List Span) (width most : ℕ) → 0 < width →
    IsTrue (some_is_over all new width most) ↔
    IsOver width most (minutes_of all) (minutes_of new)
sum_rule all new width most some = (
  sound all new width most some,
  λ over. complete_at all new width most over.start over.meets.minute
      over.meets.from_start over.meets.before_end over.meets.member over.more,
)

-- Some span reaches a window if and only if the window meets the spans' minutes.
pub reach_decides : (spans : List Span) (end width : ℕ) → 0 < width →
    (list_any (reaches end width) spans ≡ true) ↔
    Meets (minutes_of spans) (pos end -ℤ pos width) width
reach_decides spans end width some = (
  reach_meets spans end width some,
  λ m. meets_reach spans end width m.minute m.from_start m.before_end m.member,
)
  where
    reach_meets : (spans : List Span) (end width : ℕ) → 0 < width →
        list_any (reaches end width) spans ≡ true →
        Meets (minutes_of spans) (pos end -ℤ pos width) width
    reach_meets spans end width some reached =
        let r = some_span (reaches end width) spans reached in
        let s = r.0 in
        let t = reaches-true end width s r.1 in
        elim (cases_lt (s.from + width) end) [
          | inl short ↦ (let m : ℕ = end - width in
              record {
                minute = pos m;
                from_start = omega (arith, ints);
                before_end = omega (arith, ints);
                member =
                    r.2 (covers (pos m)) (covers-from m s (omega arith) (omega arith));
              })
          | inr long ↦ record {
            minute = pos s.from;
            from_start = omega (arith, ints);
            before_end =
                omega (arith, ints);
            member = r.2 (covers (pos s.from))
                (covers-from s.from s (omega arith) (omega arith));
          }
        ]

    meets_reach : (spans : List Span) (end width : ℕ) (minute : ℤ) →
        (pos end -ℤ pos width) ≤ℤ minute →
        minute <ℤ (pos end -ℤ pos width +ℤ pos width) → minutes_of spans minute ≡ true →
        list_any (reaches end width) spans ≡ true
    meets_reach spans end width (negsuc n) from to member =
        absurd (false≢true (sym (no_negative spans n) ∙ member))
    meets_reach spans end width (pos n) from to member =
        let r = some_span (covers (pos n)) spans member in
        let c = covers-true n r.0 r.1 in
        let before : n < end = omega (arith, ints) in
        let after : end ≤ n + width = omega (arith, ints) in
        r.2 (reaches end width)
        (reaches-from end width r.0 (omega arith) (omega arith) (omega arith))
