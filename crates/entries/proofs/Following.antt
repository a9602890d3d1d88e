-- Whether something stands under the number before one.
use Rattle.std.proofs.Common.{◌≡◌, inl, inr, refl, sym, ap, ◌∙◌, arith, ℕ, ◌+◌, true, Option, Some, None}
use Rattle.std.specs.Prelude.{is_some}
use Rattle.entries.specs.Keyed.{Follows}

pub has_value : {V : Type 0} (o : Option V) → is_some o ≡ true → (v : V) × (o ≡ Some v)
has_value None e = absurd (cc)
has_value (Some v) e = (v, refl)

module _ {V : Type 0} (get : ℕ → Option V) (number before : ℕ) (next : before + 1 ≡ number) where
  pub before_there : is_some (get before) ≡ true → Follows get number
  before_there known = let it = has_value (get before) known in inr (before, it.0, next, it.1)

  pub before_is_there : (number ≡ 1 → ⊥) → Follows get number → is_some (get before) ≡ true
  before_is_there later (inl one) = absurd (later one)
  before_is_there later (inr p) =
      let n = p.2 in
      let same : p.0 ≡ before = omega (arith, n, next) in
      ap (λ k. is_some (get k)) (sym same) ∙ ap is_some p.3
