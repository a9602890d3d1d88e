-- Names, and what a map under names has under each.
use Rattle.std.proofs.Common.{◌≡◌, ℕ, ◌+◌, ◌<◌, List, [], ◌∷◌, refl, ap, subst, ◌∙◌, cond, true, false, Some, None, arith}
use Rattle.std.specs.declared.cmp.Ordering.{Ordering}
use Rattle.std.specs.declared.cmp.Ordering.TheVariants.{Less, Equal, Greater}
use Rattle.std.specs.Ordering.{is_eq, eq_by_cmp, nat_cmp, ordering_then, MatchOrdering}
use Rattle.std.specs.Option.{option_map, unwrap_or}
use Rattle.std.specs.Cmp.{eq_by_cmp_equiv, nat_cmp_is, ranked}
use Rattle.std.specs.Cmp.Lexicographic.{nat_list_cmp_total}
use Rattle.std.specs.FinMap.{FinMap, IsAntisymmetric, get, insert, get-insert, slice_cmp-IsAntisymmetric, nat_cmp-IsAntisymmetric}
use Rattle.values.specs.Name.{name_cmp, text_then, changed_at}

pub exact_names : IsAntisymmetric name_cmp
exact_names = slice_cmp-IsAntisymmetric nat_cmp-IsAntisymmetric

of_true : (r : Ordering) → is_eq r ≡ true → r ≡ Equal
of_true Less e = cc
of_true Equal e = refl
of_true Greater e = cc

-- names that tie are one
pub alike : (q k : List ℕ) → eq_by_cmp name_cmp q k ≡ true → q ≡ k
alike q k e = exact_names q k (of_true (name_cmp q k) e)

-- and a name ties with itself
pub itself : (q k : List ℕ) → q ≡ k → eq_by_cmp name_cmp q k ≡ true
itself q k e = subst (λ x. eq_by_cmp name_cmp q x ≡ true) e ((eq_by_cmp_equiv nat_list_cmp_total).refl q)

-- what the order of a key with several fields comes to
then_equal : (r : Ordering) → r ≡ ordering_then r Equal
then_equal Less = refl
then_equal Equal = refl
then_equal Greater = refl

pub then_assoc : (r s t : Ordering) → ordering_then (ordering_then r s) t ≡ ordering_then r (ordering_then s t)
then_assoc Less s t = refl
then_assoc Equal s t = refl
then_assoc Greater s t = refl

-- a number
pub number_order : (a b : ℕ) → nat_cmp a b ≡ name_cmp (a ∷ []) (b ∷ [])
number_order a b = then_equal (nat_cmp a b)

-- a text with a name after it
one_more : (a b : ℕ) → nat_cmp a b ≡ nat_cmp (a + 1) (b + 1)
one_more a b = nat_cmp_is (a + 1) (b + 1) (nat_cmp a b)
    (elim (nat_cmp a b) as (λ r. MatchOrdering r (a < b) (a ≡ b) (b < a) → MatchOrdering r (a + 1 < b + 1) (a + 1 ≡ b + 1) (b + 1 < a + 1)) [
      | Less ↦ λ h. omega arith
      | Equal ↦ λ h. ap (λ n. n + 1) h
      | Greater ↦ λ h. omega arith
    ] (ranked a b _ refl))

pub text_order : (x y r s : List ℕ) → ordering_then (name_cmp x y) (name_cmp r s) ≡ name_cmp (text_then x r) (text_then y s)
text_order [] [] r s = refl
text_order [] (b ∷ y) r s = ap (λ o. ordering_then o (name_cmp r (text_then y s))) (nat_cmp_is 0 (b + 1) Less (omega arith))
text_order (a ∷ x) [] r s = ap (λ o. ordering_then o (name_cmp (text_then x r) s)) (nat_cmp_is (a + 1) 0 Greater (omega arith))
text_order (a ∷ x) (b ∷ y) r s =
    then_assoc (nat_cmp a b) (name_cmp x y) (name_cmp r s)
    ∙ ap (ordering_then (nat_cmp a b)) (text_order x y r s)
    ∙ ap (λ o. ordering_then o (name_cmp (text_then x r) (text_then y s))) (one_more a b)

module _ {V : Type 0} (m : FinMap name_cmp V) (k : List ℕ) (change : V → V) where
  -- a change of a value that is there is an insertion
  pub changed_some : (v : V) → get m k ≡ Some v → changed_at m k change ≡ insert m k (change v)
  changed_some v there = ap (λ o. unwrap_or (option_map (λ value. insert m k (change value)) o) m) there

  -- and one of a value that isn't there does nothing
  pub changed_none : get m k ≡ None → changed_at m k change ≡ m
  changed_none absent = ap (λ o. unwrap_or (option_map (λ value. insert m k (change value)) o) m) absent

  -- the change is of this one value
  pub get-changed_at : (q : List ℕ) → get (changed_at m k change) q ≡ cond (eq_by_cmp name_cmp q k) (option_map change (get m k)) (get m q)
  get-changed_at q =
      elim (get m k) as (λ o. get m k ≡ o → get (changed_at m k change) q ≡ cond (eq_by_cmp name_cmp q k) (option_map change o) (get m q)) [
        | None ↦ λ absent. ap (λ n. get n q) (changed_none absent)
            ∙ elim (eq_by_cmp name_cmp q k) as (λ t. eq_by_cmp name_cmp q k ≡ t → get m q ≡ cond t None (get m q)) [
              | true ↦ λ tied. ap (get m) (alike q k tied) ∙ absent
              | false ↦ λ _. refl
            ] refl
        | Some v ↦ λ there. ap (λ n. get n q) (changed_some v there) ∙ get-insert nat_list_cmp_total m k (change v) q
      ] refl
