-- Equal names of periods or segments are of equal keys.
use Rattle.std.proofs.Common.{◌≡◌, refl, ap₂, arith, ℕ, ◌+◌, List, [], ◌∷◌}
use Rattle.values.specs.Name.{text_then}
use Rattle.entries.specs.PlanRows.{period_name, segment_name}

texts_same : (x y r t : List ℕ) → text_then x r ≡ text_then y t → (x ≡ y) × (r ≡ t)
texts_same [] [] r t e = (refl, cc)
texts_same [] (b ∷ y) r t e = absurd (let n : 0 ≡ b + 1 = cc in omega (arith, n))
texts_same (a ∷ x) [] r t e = absurd (let n : a + 1 ≡ 0 = cc in omega (arith, n))
texts_same (a ∷ x) (b ∷ y) r t e =
    let first : a + 1 ≡ b + 1 = cc in
    let same : a ≡ b = omega (arith, first) in
    let rest = texts_same x y r t cc in
    (ap₂ (λ n l. n ∷ l) same rest.0, rest.1)

pub period_names_same : (a b : List ℕ) (m n : ℕ) → period_name a m ≡ period_name b n → (a ≡ b) × (m ≡ n)
period_names_same a b m n e = let it = texts_same a b (m ∷ []) (n ∷ []) e in (it.0, (let l = it.1 in cc))

pub segment_names_same : (a b : List ℕ) (p q m n : ℕ) → segment_name a p m ≡ segment_name b q n → (a ≡ b) × (p ≡ q) × (m ≡ n)
segment_names_same a b p q m n e = let it = texts_same a b (p ∷ m ∷ []) (q ∷ n ∷ []) e in (it.0, (let l = it.1 in cc), (let l = it.1 in cc))
