-- What a list contains.
use Rattle.std.proofs.Common.{◌≡◌, zero, suc, List, [], ◌∷◌, ◌⊎◌, inl, inr, refl, arith}
use Rattle.std.specs.List.{Contains}

module _ {X : Type 0} where
  pub first_of_all : (x : X) (xs : List X) → Contains (x ∷ xs) x
  first_of_all x xs = (0, omega arith, refl)

  pub later : (x : X) (xs : List X) (y : X) → Contains xs y → Contains (x ∷ xs) y
  later x xs y c = let l = c.1 in (suc c.0, omega arith, c.2)

  pub first_or_later : (x : X) (xs : List X) (y : X) → Contains (x ∷ xs) y → (x ≡ y) ⊎ Contains xs y
  first_or_later x xs y (zero, l, e) = inl e
  first_or_later x xs y (suc k, l, e) = inr (k, omega arith, e)

  pub no_member : (xs : List X) (x : X) → xs ≡ [] → Contains xs x → ⊥
  no_member [] x e c = let l = c.1 in omega arith
  no_member (y ∷ ys) x e c = cc

  pub has_none : (xs : List X) → ((x : X) → Contains xs x → ⊥) → xs ≡ []
  has_none [] e = refl
  has_none (x ∷ xs) e = absurd (e x (first_of_all x xs))
