-- Going over the entries of a table, one after the other.
use Rattle.std.proofs.Common.{◌≡◌, ◌↔◌, inl, inr, refl, sym, ap, subst, ◌∙◌, ℕ, Bool, true, ◌&&◌, List, [], ◌∷◌, ◌++◌, append_assoc, Contains, Some}
use Rattle.std.specs.FinMap as fin
use Rattle.std.specs.List.{AllByRecursion, list_all}
use Rattle.std.specs.Ordering.{eq_by_cmp}
use Rattle.std.proofs.lemmas.Bool.{and_from, and_parts, cases_Bool}
use Rattle.values.specs.Name.{name_cmp, named_rows}
use Rattle.values.proofs.Names.{alike, itself}
use Rattle.roster.proofs.Members.{first_or_later, from_rows, in_rows, is_first, is_later, none_in}

all_more : {A : Type 0} (P : A → Type 0) (xs : List A) (x : A) → AllByRecursion P xs → P x → AllByRecursion P (xs ++ x ∷ [])
all_more P [] x all p = (p, tt)
all_more P (y ∷ xs) x all p = (all.0, all_more P xs x all.1 p)

all_appended : {A : Type 0} (P : A → Type 0) (xs : List A) → AllByRecursion P xs → AllByRecursion P (xs ++ [])
all_appended P [] all = tt
all_appended P (x ∷ xs) all = (all.0, all_appended P xs all.1)

all_still : {A : Type 0} (P Q : A → Type 0) → ((a : A) → P a → Q a) → (xs : List A) → AllByRecursion P xs → AllByRecursion Q xs
all_still P Q f [] all = tt
all_still P Q f (x ∷ xs) all = (f x all.0, all_still P Q f xs all.1)

module _ {K V : Type 0} (name : K → List ℕ) where
  -- what stands in a list is found under its name
  found_itself : (before items : List (K × V)) (x : K × V) → (v : V) × (fin.find name_cmp (name x.0) (named_rows name (before ++ x ∷ items)) ≡ Some v)
  found_itself [] items x = (x.1, rw (itself (name x.0) (name x.0) refl) refl)
  found_itself (y ∷ before) items x = elim (cases_Bool (eq_by_cmp name_cmp (name x.0) (name y.0))) [
    | inl tied ↦ (y.1, rw tied refl)
    | inr apart ↦ let later = found_itself before items x in (later.0, rw apart later.1)
  ]

  module _ (P : K → Type 0) where
    -- and of what is found under a name, a fact of each holds
    found_passes : (items : List (K × V)) (q : List ℕ) (v : V) → fin.find name_cmp q (named_rows name items) ≡ Some v → AllByRecursion (λ e. P e.0) items →
        (k : K) × (name k ≡ q) × P k
    found_passes [] q v e all = absurd (cc)
    found_passes (x ∷ xs) q v e all = elim (cases_Bool (eq_by_cmp name_cmp q (name x.0))) [
      | inl tied ↦ (x.0, sym (alike q (name x.0) tied), all.0)
      | inr apart ↦ found_passes xs q v (rw apart at e) all.1
    ]

    -- a fact holds of the keys before these entries, which are the last of the map
    pub record Passed (m : fin.FinMap name_cmp V) (left : List (K × V)) : Type 0 where
      pub done : List (K × V)
      pub whole : named_rows name (done ++ left) ≡ fin.entries m
      pub each : AllByRecursion (λ e. P e.0) done

    module _ (m : fin.FinMap name_cmp V) where
      pub none_passed : (items : List (K × V)) → named_rows name items ≡ fin.entries m → Passed m items
      none_passed items whole = record { done = []; whole = whole; each = tt }

      module _ (x : K × V) (left : List (K × V)) (passed : Passed m (x ∷ left)) where
        pub next_passed : P x.0 → Passed m left
        next_passed p = record {
          done = passed.done ++ x ∷ [];
          whole = ap (named_rows name) (append_assoc passed.done (x ∷ []) left) ∙ passed.whole;
          each = all_more (λ e. P e.0) passed.done x passed.each p;
        }

        pub is_there : (v : V) × (fin.get m (name x.0) ≡ Some v)
        is_there =
            let found = found_itself passed.done left x in
            (found.0, fin.get-entries m (name x.0) ∙ ap (fin.find name_cmp (name x.0)) (sym passed.whole) ∙ found.1)

      pub all_passed : ((i j : K) → name i ≡ name j → i ≡ j) → (left : List (K × V)) → left ≡ [] → Passed m left → (k : K) (v : V) → fin.get m (name k) ≡ Some v → P k
      all_passed same [] none passed k v there =
          let found : fin.find name_cmp (name k) (named_rows name (passed.done ++ [])) ≡ Some v =
          ap (fin.find name_cmp (name k)) passed.whole ∙ sym (fin.get-entries m (name k)) ∙ there in
          let it = found_passes (passed.done ++ []) (name k) v found (all_appended (λ e. P e.0) passed.done passed.each) in
          subst P (same it.0 k it.1) it.2
      all_passed same (x ∷ left) none passed k v there = absurd (cc)

  -- what holds of the keys so far may be said otherwise
  pub passed_more : (P Q : K → Type 0) (m : fin.FinMap name_cmp V) (left : List (K × V)) → ((k : K) → P k → Q k) → Passed P m left → Passed Q m left
  passed_more P Q m left f passed = record {
    done = passed.done;
    whole = passed.whole;
    each = all_still (λ e. P e.0) (λ e. Q e.0) (λ e p. f e.0 p) passed.done passed.each;
  }

-- ---- A test of the values

module _ {K V : Type 0} (name : K → List ℕ) (test : V → Bool) where
  all_in : (items : List (List ℕ × V)) → list_all (λ e. test e.1) items ≡ true → (row : List ℕ × V) → Contains items row → test row.1 ≡ true
  all_in [] all row c = absurd (none_in row c)
  all_in (x ∷ xs) all row c =
      let parts = and_parts (test x.1) (list_all (λ e. test e.1) xs) all in
      elim (first_or_later x xs row c) [
        | inl is ↦ ap (λ (e : List ℕ × V). test e.1) (sym is) ∙ parts.0
        | inr later ↦ all_in xs parts.1 row later
      ]

  in_all : (items : List (List ℕ × V)) → ((row : List ℕ × V) → Contains items row → test row.1 ≡ true) → list_all (λ e. test e.1) items ≡ true
  in_all [] each = refl
  in_all (x ∷ xs) each = and_from _ _ (each x (is_first x xs x refl)) (in_all xs (λ row c. each row (is_later x xs row c)))

  by_names : (items : List (K × V)) → list_all (λ e. test e.1) (named_rows name items) ≡ list_all (λ e. test e.1) items
  by_names [] = refl
  by_names (x ∷ xs) = ap (λ b. test x.1 && b) (by_names xs)

  -- all values that are listed pass a test just where all that the map has do
  pub values_pass : (items : List (K × V)) (m : fin.FinMap name_cmp V) → named_rows name items ≡ fin.entries m →
      (list_all (λ e. test e.1) items ≡ true) ↔ ((q : List ℕ) (v : V) → fin.get m q ≡ Some v → test v ≡ true)
  values_pass items m listed =
      let same : list_all (λ e. test e.1) (fin.entries m) ≡ list_all (λ e. test e.1) items = ap (list_all (λ (e : List ℕ × V). test e.1)) (sym listed) ∙ by_names items in (
        λ all q v there. all_in (fin.entries m) (same ∙ all) (q, v) (in_rows m q v there),
        λ each. sym same ∙ in_all (fin.entries m) (λ row c. each row.0 row.1 (from_rows m row.0 row.1 c)),
      )

-- ---- The value that a key stands with

in_appended : {X : Type 0} (before items : List X) (x : X) → Contains (before ++ x ∷ items) x
in_appended [] items x = is_first x items x refl
in_appended (y ∷ before) items x = is_later y (before ++ x ∷ items) x (in_appended before items x)

named_in : {K V : Type 0} (name : K → List ℕ) (items : List (K × V)) (x : K × V) → Contains items x → Contains (named_rows name items) (name x.0, x.1)
named_in name [] x c = absurd (none_in x c)
named_in name (y ∷ ys) x c = elim (first_or_later y ys x c) [
  | inl is ↦ is_first (name y.0, y.1) (named_rows name ys) (name x.0, x.1) (ap (λ e. (name e.0, e.1)) is)
  | inr later ↦ is_later (name y.0, y.1) (named_rows name ys) (name x.0, x.1) (named_in name ys x later)
]

module _ {K V : Type 0} (name : K → List ℕ) (P : K → Type 0) (m : fin.FinMap name_cmp V) (x : K × V) (left : List (K × V)) where
  -- the next of the entries stands in the map
  pub stands : Passed name P m (x ∷ left) → fin.get m (name x.0) ≡ Some x.1
  stands passed =
      from_rows m (name x.0) x.1 (subst (λ l. Contains l (name x.0, x.1)) passed.whole (named_in name (passed.done ++ x ∷ left) x (in_appended passed.done left x)))
