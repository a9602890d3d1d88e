-- Of the whole numbers that have a property, and that lie in some range, there is a first one of those that have the most of something.
use Rattle.std.proofs.Common.{◌≡◌, ℕ, zero, suc, ◌<◌, ◌≤◌, ap, subst, arith, inl, inr, ◌⊎◌}
use Rattle.std.specs.Prelude.{ℤ, pos, ◌-ℤ◌, ◌<ℤ◌}
use Rattle.std.proofs.lemmas.Int.{ints}
use Rattle.std.proofs.lemmas.Bool.{cases_lt, cases_eq}

-- the number has the property, no other that has it has more, and each before it that has it has less
pub record IsFirstMost (P : ℤ → Type 0) (f : ℤ → ℕ) (x : ℤ) : Type 0 where
  pub is : P x
  pub most : (y : ℤ) → P y → f y ≤ f x
  pub first : (y : ℤ) → y <ℤ x → P y → f y < f x

-- the same of the natural numbers below n
record IsFirstBelow (P : ℕ → Type 0) (f : ℕ → ℕ) (n k : ℕ) : Type 0 where
  pub is : P k
  pub most : (j : ℕ) → j < n → P j → f j ≤ f k
  pub first : (j : ℕ) → j < k → P j → f j < f k

-- the best one stays where the next number has no more
kept : (P : ℕ → Type 0) (f : ℕ → ℕ) (n k : ℕ) → IsFirstBelow P f n k → (P n → f n ≤ f k) → IsFirstBelow P f (suc n) k
kept P f n k best next = record {
  is = best.is;
  most = λ j l p. elim (cases_eq j n) [
    | inl same ↦ (let e = ap f same in let h = next (subst P same p) in omega arith)
    | inr other ↦ best.most j (omega arith) p
  ];
  first = best.first;
}

-- the next number is the best one where all before it have less
taken : (P : ℕ → Type 0) (f : ℕ → ℕ) (n : ℕ) → P n → ((j : ℕ) → j < n → P j → f j < f n) → IsFirstBelow P f (suc n) n
taken P f n is less = record {
  is = is;
  most = λ j l p. elim (cases_eq j n) [
    | inl same ↦ (let e = ap f same in omega arith)
    | inr other ↦ (let h = less j (omega arith) p in omega arith)
  ];
  first = less;
}

most_below : (P : ℕ → Type 0) (f : ℕ → ℕ) → ((k : ℕ) → P k ⊎ (P k → ⊥)) → (n : ℕ) →
    ((k : ℕ) × IsFirstBelow P f n k) ⊎ ((k : ℕ) → k < n → P k → ⊥)
most_below P f decide zero = inr (λ k l p. absurd (omega arith))
most_below P f decide (suc n) = elim (most_below P f decide n) [
  | inl best ↦ elim (decide n) [
    | inl is ↦ elim (cases_lt (f best.0) (f n)) [
      | inl more ↦ inl (n, taken P f n is (λ j l p. let h = best.1.most j l p in omega arith))
      | inr less ↦ inl (best.0, kept P f n best.0 best.1 (λ p. less))
    ]
    | inr not ↦ inl (best.0, kept P f n best.0 best.1 (λ p. absurd (not p)))
  ]
  | inr none ↦ elim (decide n) [
    | inl is ↦ inl (n, taken P f n is (λ j l p. absurd (none j l p)))
    | inr not ↦ inr (λ k l p. elim (cases_eq k n) [
      | inl same ↦ not (subst P same p)
      | inr other ↦ none k (omega arith) p
    ])
  ]
]

-- the property holds in a range alone: of none, or of a first one that has the most
pub first_most : (P : ℤ → Type 0) (f : ℤ → ℕ) (low n : ℕ) → ((x : ℤ) → P x ⊎ (P x → ⊥)) →
    ((x : ℤ) → P x → (k : ℕ) × (k < n) × (x ≡ pos k -ℤ pos low)) →
    ((x : ℤ) × IsFirstMost P f x) ⊎ ((x : ℤ) → P x → ⊥)
first_most P f low n decide place =
    let at : ℕ → ℤ = λ k. pos k -ℤ pos low in
    elim (most_below (λ k. P (at k)) (λ k. f (at k)) (λ k. decide (at k)) n) [
      | inl best ↦ inl (
        at best.0,
        record {
          is = best.1.is;
          most = λ y p. (let w = place y p in
              let e : f y ≡ f (at w.0) = ap f w.2 in
              let h = best.1.most w.0 w.1 (subst P w.2 p) in omega arith);
          first = λ y l p. (let w = place y p in
              let e : f y ≡ f (at w.0) = ap f w.2 in
              let s = w.2 in
              let before : w.0 < best.0 = omega (arith, ints) in
              let h = best.1.first w.0 before (subst P w.2 p) in omega arith);
        },
      )
      | inr none ↦ inr (λ x p. let w = place x p in none w.0 w.1 (subst P w.2 p))
    ]
