-- How a window may be moved: back to where a run of members begins, or on to where one ends or another begins.
use Rattle.std.proofs.Common.{◌≡◌, ℕ, zero, suc, ◌+◌, ◌-◌, ◌<◌, ◌≤◌, Bool, true, false, List, [], ◌∷◌, refl, sym, ◌∙◌, arith, inl, inr, ◌⊎◌}
use Rattle.std.specs.List.{list_any}
use Rattle.std.proofs.lemmas.Bool.{false≢true, cases_Bool, cases_lt, cases_eq, or_parts, or_left, or_right, or_cases}
use Rattle.duty.specs.declared.span.Span.{Span}
use Rattle.duty.proofs.Counting.{below, below-range, before}
use Rattle.duty.proofs.SpanFacts.{covers-true, covers-from}
use Rattle.limits.specs.Laws.SumRule.{members, held-before}
use Rattle.nearness.specs.declared.windows.Window.{Window}
use Rattle.nearness.specs.Searches.{IsAsGood}

-- up to a later minute a set has no fewer members, and at most one more for each minute
pub below-le : (set : ℕ → Bool) (m n : ℕ) → m ≤ n → (below set m ≤ below set n) × (below set n ≤ below set m + (n - m))
below-le set m n l = let e : m + (n - m) ≡ n = omega arith in rw e at (below-range set m (n - m))

-- the first of the members in a row that end with n
pub begun : (set : ℕ → Bool) (n : ℕ) → set n ≡ true → (f : ℕ) × (f ≤ n) × ((i : ℕ) → f ≤ i → i < n → set i ≡ true) ×
    (set f ≡ true) × ((f ≡ 0) ⊎ (set (f - 1) ≡ false))
begun set zero is = (0, omega arith, λ i l h. absurd (omega arith), is, inl refl)
begun set (suc n) is =
    elim (cases_Bool (set n)) [
      | inl more ↦ (let r = begun set n more in
          (r.0, omega arith, λ i l h. elim (cases_eq i n) [ inl e ↦ rw e more | inr other ↦ r.2 i l (omega arith) ], r.3, r.4))
      | inr done ↦ (let e : suc n - 1 ≡ n = omega arith in
          (suc n, omega arith, λ i l h. absurd (omega arith), is, inr (rw e done)))
    ]

-- where members begin, a span begins
pub span_begin : (spans : List Span) (n : ℕ) → members spans n ≡ true → (n ≡ 0) ⊎ (members spans (n - 1) ≡ false) →
    (P : Span → Bool) → ((s : Span) → s.from ≡ n → P s ≡ true) → list_any P spans ≡ true
span_begin [] n is first P h = absurd (false≢true is)
span_begin (s ∷ spans) n is first P h =
    elim (or_cases _ _ is) [
      | inl here ↦ (let a = covers-true n s here in
          let from : n ≤ s.from = elim first [
            | inl none ↦ omega arith
            | inr free ↦ elim (cases_lt s.from n) [
              | inl less ↦ absurd (false≢true (sym (or_parts _ _ free).0 ∙ covers-from (n - 1) s (omega arith) (omega arith)))
              | inr at_begin ↦ at_begin
            ]
          ] in
          or_left _ _ (h s (omega arith)))
      | inr later ↦ or_right _ _ (span_begin spans n later (elim first [
        | inl none ↦ inl none
        | inr free ↦ inr (or_parts _ _ free).1
      ]) P h)
    ]

-- where members end, a span ends
pub span_end : (spans : List Span) (n : ℕ) → members spans n ≡ true → members spans (n + 1) ≡ false → (P : Span → Bool) →
    ((s : Span) → s.to ≡ n + 1 → P s ≡ true) → list_any P spans ≡ true
span_end [] n is ends P h = absurd (false≢true is)
span_end (s ∷ spans) n is ends P h =
    elim (or_cases _ _ is) [
      | inl here ↦ (let a = covers-true n s here in
          let last : s.to ≤ n + 1 = elim (cases_lt (n + 1) s.to) [
            | inl more ↦ absurd (false≢true (sym (or_parts _ _ ends).0 ∙ covers-from (n + 1) s (omega arith) more))
            | inr at_end ↦ at_end
          ] in
          or_left _ _ (h s (omega arith)))
      | inr later ↦ or_right _ _ (span_end spans n later (or_parts _ _ ends).1 P h)
    ]

-- a window slides on for `k` minutes, or to where the next minute is no member, or its first one is
pub slid : (set : ℕ → Bool) (width e k : ℕ) → (n : ℕ) × (n ≤ k) × ((i : ℕ) → e ≤ i → i < e + n → set i ≡ true) ×
    ((i : ℕ) → e ≤ i + width → i + width < e + n → set i ≡ false) ×
    ((n ≡ k) ⊎ ((set (e + n) ≡ false) ⊎ ((width ≤ e + n) × (set (e + n - width) ≡ true))))
slid set width e zero = (0, omega arith, λ i l h. absurd (omega arith), λ i l h. absurd (omega arith), inl refl)
slid set width e (suc k) =
    let r = slid set width e k in
    elim r.4 [
      | inl whole ↦ elim (cases_Bool (set (e + r.0))) [
        | inr stop ↦ (r.0, omega arith, r.2, r.3, inr (inl stop))
        | inl on ↦ elim (cases_lt (e + r.0) width) [
          | inl early ↦ (
            r.0 + 1,
            omega arith,
            λ i l h. elim (cases_eq i (e + r.0)) [ inl same ↦ rw same on | inr other ↦ r.2 i l (omega arith) ],
            λ i l h. absurd (omega arith),
            inl (omega arith),
          )
          | inr late ↦ elim (cases_Bool (set (e + r.0 - width))) [
            | inl begins ↦ (r.0, omega arith, r.2, r.3, inr (inr (late, begins)))
            | inr free ↦ (
              r.0 + 1,
              omega arith,
              λ i l h. elim (cases_eq i (e + r.0)) [ inl same ↦ rw same on | inr other ↦ r.2 i l (omega arith) ],
              λ i l h. elim (cases_eq i (e + r.0 - width)) [ inl same ↦ rw same free | inr other ↦ r.3 i l (omega arith) ],
              inl (omega arith),
            )
          ]
        ]
      ]
      | inr stop ↦ (r.0, omega arith, r.2, r.3, inr stop)
    ]

-- what an earlier window holds at least, and what a later one holds more than, the best window is as good as
pub earlier : (all : List Span) (width : ℕ) (best : Window) (y e : ℕ) → IsAsGood all width best y → y ≤ e →
    before (members all) e width ≤ before (members all) y width → IsAsGood all width best e
earlier all width best y e good l more =
    let a = held-before all e width in
    let b = held-before all y width in
    let most = good.most in
    record {
      most = omega arith;
      first = λ h. (let first = good.first (omega arith) in omega arith);
    }

pub later : (all : List Span) (width : ℕ) (best : Window) (y e : ℕ) → IsAsGood all width best y →
    before (members all) e width < before (members all) y width → IsAsGood all width best e
later all width best y e good more =
    let a = held-before all e width in
    let b = held-before all y width in
    let most = good.most in
    record {
      most = omega arith;
      first = λ h. omega arith;
    }
