-- Two sorted lists of the same elements are one, where elements of the same rank are one.
use Rattle.std.proofs.Common.{◌≡◌, ◌∙◌, inl, inr, refl, sym, ap, ap₂, ℕ, zero, suc, ◌+◌, ◌<◌, ◌≤◌, Bool, true, false, cond, List, [], ◌∷◌, length, get_or, Contains, arith, true≢false}
use Rattle.std.specs.Cmp.{IsStrictWeakOrder}
use Rattle.std.specs.List.{sum_by}
use Rattle.std.specs.List.Sorted.{IsPermutation, IsSortedBy}
use Rattle.std.proofs.lemmas.Bool.{cases_Bool}
use Rattle.std.proofs.lemmas.List.Elements.{Contains-get_or}
use Rattle.std.proofs.lemmas.List.Sorted.{Contains-permutation, IsPermutation-sym, IsPermutation-trans, length_permutation, sorted_far, sum_by-IsPermutation}
use Rattle.std.proofs.lemmas.List.Sums.{sum_by-cons}

same_at : {X : Type 0} (xs ys : List X) → length xs ≡ length ys
    → ((i : ℕ) (d : X) → i < length xs → get_or xs i d ≡ get_or ys i d) → xs ≡ ys
same_at [] [] l each = refl
same_at [] (y ∷ ys) l each = absurd (omega (arith, l))
same_at (x ∷ xs) [] l each = absurd (omega (arith, l))
same_at (x ∷ xs) (y ∷ ys) l each =
    ap₂ (λ z zs. z ∷ zs) (each 0 x (omega arith)) (same_at xs ys (omega (arith, l)) (λ i d less. each (suc i) d (omega arith)))

module _ {X : Type 0} (lt : X → X → Bool) (o : IsStrictWeakOrder lt) where
  abbrev one_if : X → X → ℕ
  one_if x y = cond (lt y x) 1 0

  -- how many are before x
  abbrev before : X → List X → ℕ
  before x ys = sum_by (one_if x) ys

  at_most_one : (b : Bool) → cond b 1 0 ≤ 1
  at_most_one true = omega arith
  at_most_one false = omega arith

  some_before : (x : X) (ys : List X) (i : ℕ) (d : X) → i < length ys
      → ((j : ℕ) → j ≤ i → lt (get_or ys j d) x ≡ true) → i < before x ys
  some_before x [] i d l all = absurd (omega arith)
  some_before x (y ∷ ys) zero d l all =
      let first : one_if x y ≡ 1 = ap (λ b. cond b 1 0) (all 0 (omega arith)) in
      let sum : before x (y ∷ ys) ≡ one_if x y + before x ys = sum_by-cons (one_if x) y ys in
      omega (arith, first, sum)
  some_before x (y ∷ ys) (suc i) d l all =
      let first : one_if x y ≡ 1 = ap (λ b. cond b 1 0) (all 0 (omega arith)) in
      let sum : before x (y ∷ ys) ≡ one_if x y + before x ys = sum_by-cons (one_if x) y ys in
      let rest : i < before x ys = some_before x ys i d (omega arith) (λ j within. all (suc j) (omega arith)) in
      omega (arith, first, sum, rest)

  few_before : (x : X) (ys : List X) (i : ℕ) (d : X)
      → ((j : ℕ) → i ≤ j → j < length ys → lt (get_or ys j d) x ≡ false) → before x ys ≤ i
  few_before x [] i d none = omega arith
  few_before x (y ∷ ys) zero d none =
      let first : one_if x y ≡ 0 = ap (λ b. cond b 1 0) (none 0 (omega arith) (omega arith)) in
      let sum : before x (y ∷ ys) ≡ one_if x y + before x ys = sum_by-cons (one_if x) y ys in
      let rest : before x ys ≤ 0 = few_before x ys 0 d (λ j from l. none (suc j) (omega arith) (omega arith)) in
      omega (arith, first, sum, rest)
  few_before x (y ∷ ys) (suc i) d none =
      let first : one_if x y ≤ 1 = at_most_one (lt y x) in
      let sum : before x (y ∷ ys) ≡ one_if x y + before x ys = sum_by-cons (one_if x) y ys in
      let rest : before x ys ≤ i = few_before x ys i d (λ j from l. none (suc j) (omega arith) (omega arith)) in
      omega (arith, first, sum, rest)

  -- what isn't after one that is before x is before x too
  still_before : (a b x : X) → lt b a ≡ false → lt b x ≡ true → lt a x ≡ true
  still_before a b x after first = elim (cases_Bool (lt a x)) [
    | inl is ↦ is
    | inr not ↦ absurd (true≢false (sym first ∙ o.chain b a x after not))
  ]

  not_before : (xs ys : List X) → IsPermutation xs ys → IsSortedBy lt xs → IsSortedBy lt ys
      → (i : ℕ) (d : X) → i < length xs → i < length ys → lt (get_or ys i d) (get_or xs i d) ≡ false
  not_before xs ys same up_x up_y i d in_x in_y = elim (cases_Bool (lt (get_or ys i d) (get_or xs i d))) [
    | inr not ↦ not
    | inl is ↦ absurd (
        let x = get_or xs i d in
        let some : i < before x ys = some_before x ys i d in_y (λ j within. still_before (get_or ys j d) (get_or ys i d) x (sorted_far lt o ys up_y j i d within in_y) is) in
        let few : before x xs ≤ i = few_before x xs i d (λ j from l. sorted_far lt o xs up_x i j d from l) in
        let count : before x ys ≡ before x xs = sum_by-IsPermutation (one_if x) xs ys same in
        omega (arith, some, few, count))
  ]

  pub one_order : (all xs ys : List X)
      → ((a b : X) → Contains all a → Contains all b → lt a b ≡ false → lt b a ≡ false → a ≡ b)
      → IsPermutation all xs → IsPermutation all ys → IsSortedBy lt xs → IsSortedBy lt ys → xs ≡ ys
  one_order all xs ys one of_x of_y up_x up_y =
      let x_y = IsPermutation-trans xs all ys (IsPermutation-sym all xs of_x) of_y in
      let y_x = IsPermutation-sym xs ys x_y in
      let long : length ys ≡ length xs = length_permutation xs ys x_y in
      same_at xs ys (sym long) (λ i d l.
      let in_y : i < length ys = omega (arith, long) in
      one (get_or xs i d) (get_or ys i d)
      (Contains-permutation xs all (get_or xs i d) (IsPermutation-sym all xs of_x) (Contains-get_or xs i d l))
      (Contains-permutation ys all (get_or ys i d) (IsPermutation-sym all ys of_y) (Contains-get_or ys i d in_y))
      (not_before ys xs y_x up_y up_x i d in_y l)
      (not_before xs ys x_y up_x up_y i d l in_y))
