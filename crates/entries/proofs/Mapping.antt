-- A map that is read from rows, one row after the other.
use Rattle.std.proofs.Common.{◌≡◌, ◌⊎◌, inl, inr, refl, sym, ap, subst, ◌∙◌, ℕ, zero, suc, ◌+◌, List, [], ◌∷◌, ◌++◌, take, length, map, Some, slice_get, cond, arith}
use Rattle.std.specs.FinMap as fin
use Rattle.std.specs.Ordering.{eq_by_cmp}
use Rattle.std.specs.Cmp.Lexicographic.{nat_list_cmp_total}
use Rattle.std.proofs.lemmas.Bool.{cases_Bool}
use Rattle.std.proofs.lemmas.Option.{slice_get-map}
use Rattle.std.specs.Option.{option_map}
use Rattle.values.specs.Name.{name_cmp}
use Rattle.values.proofs.Names.{alike, itself}
use Rattle.sqlite_value.specs.Order.{Row}
use Rattle.sqlite_rules.specs.Lists.{Has}
use Rattle.entries.specs.Mapping.{Mapped, AreOnce}
use Rattle.state_rows.proofs.Lists.{some_same}

pub of_appended : (xs ys : List Row) (x : Row) → Has (xs ++ ys) x → Has xs x ⊎ Has ys x
of_appended [] ys x h = inr h
of_appended (y ∷ xs) ys x (inl e) = inl (inl e)
of_appended (y ∷ xs) ys x (inr h) = elim (of_appended xs ys x h) [ inl a ↦ inl (inr a) | inr b ↦ inr b ]

pub in_appended : (xs ys : List Row) (x : Row) → Has xs x ⊎ Has ys x → Has (xs ++ ys) x
in_appended [] ys x (inl none) = absurd none
in_appended [] ys x (inr h) = h
in_appended (y ∷ xs) ys x (inl (inl e)) = inl e
in_appended (y ∷ xs) ys x (inl (inr h)) = inr (in_appended xs ys x (inl h))
in_appended (y ∷ xs) ys x (inr h) = inr (in_appended xs ys x (inr h))

pub has_at : (xs : List Row) (at : ℕ) (x : Row) → slice_get xs at ≡ Some x → Has xs x
has_at [] at x e = absurd (cc)
has_at (y ∷ xs) zero x e = inl (sym (some_same e))
has_at (y ∷ xs) (suc at) x e = inr (has_at xs at x e)

pub of_taken : (xs : List Row) (at : ℕ) (x : Row) → Has (take at xs) x → Has xs x
of_taken [] zero x h = absurd h
of_taken [] (suc at) x h = absurd h
of_taken (y ∷ xs) zero x h = absurd h
of_taken (y ∷ xs) (suc at) x (inl e) = inl e
of_taken (y ∷ xs) (suc at) x (inr h) = inr (of_taken xs at x h)

pub take_next : (xs : List Row) (at : ℕ) (x : Row) → slice_get xs at ≡ Some x → take (at + 1) xs ≡ take at xs ++ x ∷ []
take_next [] at x e = absurd (cc)
take_next (y ∷ xs) zero x e = ap (λ z. z ∷ []) (some_same e)
take_next (y ∷ xs) (suc at) x e = ap (λ n. take n (y ∷ xs)) (let n : suc at + 1 ≡ suc (at + 1) = omega arith in n) ∙ ap (λ l. y ∷ l) (take_next xs at x e)

-- records in turn, as rows
pub mapped_place : {R : Type 0} (row : R → Row) (records : List R) (at : ℕ) (it : R) → slice_get records at ≡ Some it → slice_get (map row records) at ≡ Some (row it)
mapped_place row records at it there = slice_get-map row records at ∙ ap (option_map row) there

pub mapped_at : {R : Type 0} (row : R → Row) (records : List R) (at : ℕ) (it : R) → slice_get records at ≡ Some it → Has (map row records) (row it)
mapped_at row records at it there = has_at (map row records) at (row it) (mapped_place row records at it there)

-- all of them
pub all_taken : {R : Type 0} (row : R → Row) (records : List R) → take (length records) (map row records) ≡ map row records
all_taken row [] = refl
all_taken row (r ∷ rs) = ap (λ l. row r ∷ l) (all_taken row rs)

module _ {I V : Type 0} (name : I → List ℕ) (same : (i j : I) → name i ≡ name j → i ≡ j) (row_of : I → V → Row) (Is : I → V → Type 0) where
  pub nothing_mapped : Mapped name row_of Is [] fin.empty
  nothing_mapped = record {
    has = λ row h. absurd h;
    all = λ at. absurd (let e = sym (fin.get-empty name_cmp (name at.index)) ∙ at.there in cc);
    known = λ key v e. absurd (let f = sym (fin.get-empty name_cmp key) ∙ e in cc);
  }

  -- what a map has after one more row: the new value under its name, and else what it had
  module _ (m : fin.FinMap name_cmp V) (i : I) (v : V) where
    pub get_grown : (q : List ℕ) → fin.get (fin.insert m (name i) v) q ≡ cond (eq_by_cmp name_cmp q (name i)) (Some v) (fin.get m q)
    get_grown q = fin.get-insert nat_list_cmp_total m (name i) v q

    pub one_more : (rows : List Row) → Mapped name row_of Is rows m → Is i v →
        ((w : V) → Has rows (row_of i w) → row_of i w ≡ row_of i v) → Mapped name row_of Is (rows ++ row_of i v ∷ []) (fin.insert m (name i) v)
    one_more rows mapped is once = record {
      has = λ row h. elim (of_appended rows (row_of i v ∷ []) row h) [
        | inl was ↦
            let at = mapped.has row was in
            elim (cases_Bool (eq_by_cmp name_cmp (name at.0.index) (name i))) [
              | inl tied ↦
                  let here : at.0.index ≡ i = same _ _ (alike _ _ tied) in
                  let told : row ≡ row_of i at.0.value = at.1 ∙ ap (λ j. row_of j at.0.value) here in
                  let known : Has rows (row_of i at.0.value) = subst (Has rows) told was in
                  (record { index = i; value = v; there = get_grown (name i) ∙ ap (λ t. cond t (Some v) (fin.get m (name i))) (itself (name i) (name i) refl) }, told ∙ once at.0.value known)
              | inr apart ↦ (record { index = at.0.index; value = at.0.value; there = get_grown (name at.0.index) ∙ ap (λ t. cond t (Some v) (fin.get m (name at.0.index))) apart ∙ at.0.there }, at.1)
            ]
        | inr now ↦ elim now [
          | inl is_new ↦ (record { index = i; value = v; there = get_grown (name i) ∙ ap (λ t. cond t (Some v) (fin.get m (name i))) (itself (name i) (name i) refl) }, is_new)
          | inr none ↦ absurd none
        ]
      ];
      all = λ at. elim (cases_Bool (eq_by_cmp name_cmp (name at.index) (name i))) [
        | inl tied ↦
            let here : at.index ≡ i = same _ _ (alike _ _ tied) in
            let value : v ≡ at.value = some_same (ap (λ t. cond t (Some v) (fin.get m (name at.index))) (sym tied) ∙ sym (get_grown (name at.index)) ∙ at.there) in
            in_appended rows (row_of i v ∷ []) _ (inr (inl (λ k. row_of (here k) (sym value k))))
        | inr apart ↦
            let there : fin.get m (name at.index) ≡ Some at.value = ap (λ t. cond t (Some v) (fin.get m (name at.index))) (sym apart) ∙ sym (get_grown (name at.index)) ∙ at.there in
            in_appended rows (row_of i v ∷ []) _ (inl (mapped.all (record { index = at.index; value = at.value; there = there })))
      ];
      known = λ key w e. elim (cases_Bool (eq_by_cmp name_cmp key (name i))) [
        | inl tied ↦
            let value : v ≡ w = some_same (ap (λ t. cond t (Some v) (fin.get m key)) (sym tied) ∙ sym (get_grown key) ∙ e) in
            (i, alike _ _ tied, subst (Is i) value is)
        | inr apart ↦ mapped.known key w (ap (λ t. cond t (Some v) (fin.get m key)) (sym apart) ∙ sym (get_grown key) ∙ e)
      ];
    }

    -- the next of some rows
    pub next_mapped : (rows : List Row) (at : ℕ) → slice_get rows at ≡ Some (row_of i v) → Mapped name row_of Is (take at rows) m → Is i v → AreOnce row_of rows →
        Mapped name row_of Is (take (at + 1) rows) (fin.insert m (name i) v)
    next_mapped rows at there mapped is once =
        subst (λ l. Mapped name row_of Is l (fin.insert m (name i) v)) (sym (take_next rows at (row_of i v) there))
        (one_more (take at rows) mapped is (λ w h. once i w v (of_taken rows at (row_of i w) h) (has_at rows at (row_of i v) there)))
