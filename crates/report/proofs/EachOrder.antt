-- Each list has an order: it can be put in order, by inserting its elements one by one.
use Rattle.std.proofs.Common.{◌≡◌, ◌+◌, inl, inr, sym, subst, zero, suc, Bool, false, List, [], ◌∷◌, get_or, arith}
use Rattle.std.specs.Prelude.{⊤}
use Rattle.std.specs.Cmp.{IsStrictWeakOrder}
use Rattle.std.specs.List.Sorted.{IsPermutation, IsSortedBy}
use Rattle.std.proofs.lemmas.Bool.{cases_Bool}
use Rattle.std.proofs.lemmas.List.Sorted.{IsPermutation-cons, IsPermutation-middle, IsPermutation-refl, IsPermutation-trans}

module _ {X : Type 0} (lt : X → X → Bool) (order : IsStrictWeakOrder lt) where
  -- the first of these, if there is one, isn't before x
  abbrev pub NotBefore : X → List X → Type 0
  NotBefore x [] = ⊤
  NotBefore x (y ∷ ys) = lt y x ≡ false

  -- none of these is before the one that it follows
  abbrev pub Rises : List X → Type 0
  Rises [] = ⊤
  Rises (x ∷ xs) = NotBefore x xs × Rises xs

  -- these and x, in order; what they don't begin before, and x isn't before, isn't after the first of them
  record Placed (x : X) (xs : List X) : Type 0 where
    all : List X
    same : IsPermutation (x ∷ xs) all
    rises : Rises all
    behind : (y : X) → lt x y ≡ false → NotBefore y xs → NotBefore y all

  placed : (x : X) (xs : List X) → Rises xs → Placed x xs
  placed x [] rises = record { all = x ∷ []; same = IsPermutation-refl (x ∷ []); rises = (tt, tt); behind = λ y after _. after }
  placed x (y ∷ ys) rises = elim (cases_Bool (lt y x)) [
    | inr after ↦ record { all = x ∷ y ∷ ys; same = IsPermutation-refl (x ∷ y ∷ ys); rises = (after, rises); behind = λ z behind _. behind }
    | inl before ↦
        let later = placed x ys rises.1 in
        record {
          all = y ∷ later.all;
          same = IsPermutation-trans (x ∷ y ∷ ys) (y ∷ x ∷ ys) (y ∷ later.all) (IsPermutation-middle (x ∷ []) y ys) (IsPermutation-cons y (x ∷ ys) later.all later.same);
          rises = (later.behind y (order.one_way y x before) rises.0, later.rises);
          behind = λ z _ behind. behind;
        }
  ]

  pub in_order : (xs : List X) → (all : List X) × IsPermutation xs all × Rises all
  in_order [] = ([], IsPermutation-refl [], tt)
  in_order (x ∷ xs) =
      let rest = in_order xs in
      let all = placed x rest.0 rest.2 in
      (all.all, IsPermutation-trans (x ∷ xs) (x ∷ rest.0) all.all (IsPermutation-cons x xs rest.0 rest.1) all.same, all.rises)

  pub sorted : (xs : List X) → Rises xs → IsSortedBy lt xs
  sorted [] rises k d from next = absurd (omega (arith, next))
  sorted (x ∷ []) rises k d from next = absurd (omega (arith, next))
  sorted (x ∷ y ∷ ys) rises zero d from next = rises.0
  sorted (x ∷ y ∷ ys) rises (suc k) d from next =
      let one_more : suc k + 1 ≡ suc (k + 1) = omega arith in
      subst (λ n. lt (get_or (x ∷ y ∷ ys) n d) (get_or (y ∷ ys) k d) ≡ false) (sym one_more) (sorted (y ∷ ys) rises.1 k d (omega arith) (omega (arith, next)))
