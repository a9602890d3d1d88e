-- The members of lists that are made of others.
use Rattle.std.proofs.Common.{◌≡◌, ℕ, zero, suc, ◌+◌, ◌<◌, Bool, true, false, ◌&&◌, cond, T, List, [], ◌∷◌, map, length, get_or, filter, flat_map, Contains, Some, None, slice_get, ◌⊎◌, inl, inr, refl, sym, ap, subst, ◌∙◌, arith}
use Rattle.std.specs.List.{enumerate_from}
use Rattle.std.specs.declared.cmp.Ordering.TheVariants.{Less, Equal, Greater}
use Rattle.std.specs.Ordering.{eq_by_cmp, is_eq, is_lt}
use Rattle.std.specs.FinMap as fin
use Rattle.std.specs.FinMap.Entries.{find, below_all, is_sorted}
use Rattle.std.proofs.lemmas.List.Elements.{Contains-append_left, Contains-append_right, Contains-append_cases}
use Rattle.std.proofs.lemmas.Option.{same_Some}
use Rattle.values.specs.Name.{name_cmp}
use Rattle.values.proofs.Names.{alike, itself}

module _ {X : Type 0} where
  pub none_in : (x : X) → Contains [] x → ⊥
  none_in x c = let l = c.1 in omega arith

  pub is_first : (y : X) (ys : List X) (x : X) → y ≡ x → Contains (y ∷ ys) x
  is_first y ys x e = (0, omega arith, e)

  pub is_later : (y : X) (ys : List X) (x : X) → Contains ys x → Contains (y ∷ ys) x
  is_later y ys x c = let l = c.1 in (suc c.0, omega arith, c.2)

  at_place : (y : X) (ys : List X) (x : X) (k : ℕ) → k < length (y ∷ ys) → get_or (y ∷ ys) k x ≡ x →
      (y ≡ x) ⊎ Contains ys x
  at_place y ys x zero l e = inl e
  at_place y ys x (suc k) l e = inr (k, omega arith, e)

  pub first_or_later : (y : X) (ys : List X) (x : X) → Contains (y ∷ ys) x → (y ≡ x) ⊎ Contains ys x
  first_or_later y ys x c = at_place y ys x c.0 c.1 c.2

  -- what a filter keeps
  pub from_filter : (p : X → Bool) (xs : List X) (x : X) → Contains (filter p xs) x → Contains xs x × (p x ≡ true)
  from_filter p [] x c = absurd (none_in x c)
  from_filter p (y ∷ ys) x c =
      elim (p y) as (λ b.
      p y ≡ b → Contains (cond b (y ∷ filter p ys) (filter p ys)) x → Contains (y ∷ ys) x × (p x ≡ true)) [
        | true ↦ λ pass c. elim (first_or_later y (filter p ys) x c) [
          | inl e ↦ (is_first y ys x e, ap p (sym e) ∙ pass)
          | inr c ↦ let r = from_filter p ys x c in (is_later y ys x r.0, r.1)
        ]
        | false ↦ λ _ c. let r = from_filter p ys x c in (is_later y ys x r.0, r.1)
      ] refl c

  pub in_filter : (p : X → Bool) (xs : List X) (x : X) → Contains xs x → p x ≡ true → Contains (filter p xs) x
  in_filter p [] x c pass = absurd (none_in x c)
  in_filter p (y ∷ ys) x c pass =
      elim (p y) as (λ b. p y ≡ b → Contains (cond b (y ∷ filter p ys) (filter p ys)) x) [
        | true ↦ λ _. elim (first_or_later y ys x c) [
          | inl e ↦ is_first y (filter p ys) x e
          | inr c ↦ is_later y (filter p ys) x (in_filter p ys x c pass)
        ]
        | false ↦ λ fail. elim (first_or_later y ys x c) [
          | inl e ↦ absurd (let no : true ≡ false = sym pass ∙ ap p (sym e) ∙ fail in cc)
          | inr c ↦ in_filter p ys x c pass
        ]
      ] refl

module _ {X Y : Type 0} where
  pub in_map : (f : X → Y) (xs : List X) (x : X) → Contains xs x → Contains (map f xs) (f x)
  in_map f [] x c = absurd (none_in x c)
  in_map f (y ∷ ys) x c = elim (first_or_later y ys x c) [
    | inl e ↦ is_first (f y) (map f ys) (f x) (ap f e)
    | inr c ↦ is_later (f y) (map f ys) (f x) (in_map f ys x c)
  ]

  pub from_map : (f : X → Y) (xs : List X) (y : Y) → Contains (map f xs) y → (x : X) × Contains xs x × (f x ≡ y)
  from_map f [] y c = absurd (none_in y c)
  from_map f (x ∷ xs) y c = elim (first_or_later (f x) (map f xs) y c) [
    | inl e ↦ (x, is_first x xs x refl, e)
    | inr c ↦ let r = from_map f xs y c in (r.0, is_later x xs r.0 r.1, r.2)
  ]

  pub in_flat_map : (f : X → List Y) (xs : List X) (x : X) (y : Y) → Contains xs x → Contains (f x) y →
      Contains (flat_map f xs) y
  in_flat_map f [] x y c one = absurd (none_in x c)
  in_flat_map f (z ∷ zs) x y c one = elim (first_or_later z zs x c) [
    | inl e ↦ Contains-append_left (f z) (flat_map f zs) y (subst (λ u. Contains (f u) y) (sym e) one)
    | inr c ↦ Contains-append_right (f z) (flat_map f zs) y (in_flat_map f zs x y c one)
  ]

  pub from_flat_map : (f : X → List Y) (xs : List X) (y : Y) → Contains (flat_map f xs) y →
      (x : X) × Contains xs x × Contains (f x) y
  from_flat_map f [] y c = absurd (none_in y c)
  from_flat_map f (x ∷ xs) y c = elim (Contains-append_cases (f x) (flat_map f xs) y c) [
    | inl c ↦ (x, is_first x xs x refl, c)
    | inr c ↦ let r = from_flat_map f xs y c in (r.0, is_later x xs r.0 r.1, r.2)
  ]

module _ {X : Type 0} where
  -- each with its number
  pub in_numbers : (n : ℕ) (xs : List X) (k : ℕ) (x : X) → slice_get xs k ≡ Some x →
      Contains (enumerate_from n xs) (n + k, x)
  in_numbers n [] k x e = absurd (let no : None ≡ Some x = e in cc)
  in_numbers n (y ∷ ys) zero x e =
      let number : n ≡ n + 0 = omega arith in
      let same = same_Some y x e in
      is_first (n, y) (enumerate_from (n + 1) ys) (n + 0, x) (λ i. (number i, same i))
  in_numbers n (y ∷ ys) (suc k) x e =
      let number : (n + 1) + k ≡ n + suc k = omega arith in
      is_later (n, y) (enumerate_from (n + 1) ys) (n + suc k, x)
      (subst (λ m. Contains (enumerate_from (n + 1) ys) (m, x)) number (in_numbers (n + 1) ys k x e))

  pub from_numbers : (n : ℕ) (xs : List X) (p : ℕ × X) → Contains (enumerate_from n xs) p →
      (k : ℕ) × (n + k ≡ p.0) × (slice_get xs k ≡ Some p.1)
  from_numbers n [] p c = absurd (none_in p c)
  from_numbers n (y ∷ ys) p c = elim (first_or_later (n, y) (enumerate_from (n + 1) ys) p c) [
    | inl e ↦ let number : n ≡ p.0 = ap (λ (q : ℕ × X). q.0) e in
        (0, omega arith, ap (λ (q : ℕ × X). Some q.1) e)
    | inr c ↦ let r = from_numbers (n + 1) ys p c in let number = r.1 in (suc r.0, omega arith, r.2)
  ]

-- ---- The rows of a map
both_pass : (a b : Bool) → T (a && b) → T a × T b
both_pass true b h = (tt, h)
both_pass false b h = absurd h

not_below : (k : List ℕ) → T (is_lt (name_cmp k k)) → ⊥
not_below k less =
    elim (name_cmp k k) as (λ r. T (is_lt r) → is_eq r ≡ true → ⊥) [
      | Less ↦ λ _ e. let no : false ≡ true = e in cc
      | Equal ↦ λ h _. h
      | Greater ↦ λ h _. h
    ] less (itself k k refl)

module _ {X : Type 0} where
  below_row : (k : List ℕ) (es : List (List ℕ × X)) (row : List ℕ × X) → T (below_all name_cmp k es) → Contains es row →
      T (is_lt (name_cmp k row.0))
  below_row k [] row below c = absurd (none_in row c)
  below_row k (e ∷ es) row below c =
      let b = both_pass (is_lt (name_cmp k e.0)) (below_all name_cmp k es) below in
      elim (first_or_later e es row c) [
        | inl is ↦ subst (λ (r : List ℕ × X). T (is_lt (name_cmp k r.0))) is b.0
        | inr c ↦ below_row k es row b.1 c
      ]

  found_in : (es : List (List ℕ × X)) (row : List ℕ × X) → T (is_sorted name_cmp es) → Contains es row →
      find name_cmp row.0 es ≡ Some row.1
  found_in [] row sorted c = absurd (none_in row c)
  found_in (e ∷ es) row sorted c =
      let b = both_pass (below_all name_cmp e.0 es) (is_sorted name_cmp es) sorted in
      elim (first_or_later e es row c) [
        | inl is ↦
            let first = itself row.0 e.0 (ap (λ (r : List ℕ × X). r.0) (sym is)) in
            ap (λ t. cond t (Some e.1) (find name_cmp row.0 es)) first ∙ ap (λ (r : List ℕ × X). Some r.1) is
        | inr c ↦
            elim (eq_by_cmp name_cmp row.0 e.0) as (λ t.
            eq_by_cmp name_cmp row.0 e.0 ≡ t → cond t (Some e.1) (find name_cmp row.0 es) ≡ Some row.1) [
              | true ↦ λ tied.
                  let same = alike row.0 e.0 tied in
                  let less = subst (λ k. T (is_lt (name_cmp e.0 k))) same (below_row e.0 es row b.0 c) in
                  absurd (not_below e.0 less)
              | false ↦ λ _. found_in es row b.1 c
            ] refl
      ]

  -- what a map has under a key is a row of it, and the other way round
  pub from_rows : (m : fin.FinMap name_cmp X) (k : List ℕ) (v : X) → Contains (fin.entries m) (k, v) →
      fin.get m k ≡ Some v
  from_rows m k v c = fin.get-entries m k ∙ found_in (fin.entries m) (k, v) (fin.entries_sorted m) c

  row_of : (k : List ℕ) (v : X) (es : List (List ℕ × X)) → find name_cmp k es ≡ Some v → Contains es (k, v)
  row_of k v [] e = absurd (let no : None ≡ Some v = e in cc)
  row_of k v (row ∷ es) e =
      elim (eq_by_cmp name_cmp k row.0) as (λ t. eq_by_cmp name_cmp k row.0 ≡ t →
      cond t (Some row.1) (find name_cmp k es) ≡ Some v → Contains (row ∷ es) (k, v)) [
        | true ↦ λ tied e.
            let key = alike k row.0 tied in
            let value = same_Some row.1 v e in
            is_first row es (k, v) (λ i. (sym key i, value i))
        | false ↦ λ _ e. is_later row es (k, v) (row_of k v es e)
      ] refl e

  pub in_rows : (m : fin.FinMap name_cmp X) (k : List ℕ) (v : X) → fin.get m k ≡ Some v →
      Contains (fin.entries m) (k, v)
  in_rows m k v e = row_of k v (fin.entries m) (sym (fin.get-entries m k) ∙ e)
