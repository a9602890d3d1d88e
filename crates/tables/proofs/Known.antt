-- What is known of a schema that has a table of the book.
use Rattle.std.proofs.Common.{IsTrue, IsSome, is_some, Option, ◌↔◌, ◌≡◌, ◌≢◌, ◌^◌, ◌==◌, ◌<◌, ℕ, Bool, List, [], ◌∷◌, true, false, inl, inr, find, slice_get, nat_lt, nat_le, length, Some, ◌+◌, ◌++◌, append_assoc, length-append, refl, sym, ap, subst, ◌∙◌, eqb-true, eq-eqb, arith}
use Rattle.std.proofs.lemmas.Bool.{cases_Bool}
use Rattle.std.proofs.lemmas.Bool.Decides.{nat_tests}
use Rattle.std.specs.List.{AllByRecursion, position_from}
use Rattle.sqlite_trees.specs.Tree.{Trees}
use Rattle.sqlite_schema.specs.declared.schema.Table.{Table}
use Rattle.sqlite_schema.specs.declared.schema.Schema.{Schema}
use Rattle.sqlite_schema.specs.Names.{table_named, same_name}
use Rattle.sqlite_rules.specs.Lists.{Has}
use Rattle.sqlite_rules.proofs.ListLemmas.{all_has, all_from, has_got}
use Rattle.sqlite_catalog.proofs.StepLemmas.{same_itself}
use Rattle.sqlite.specs.Effect.{Database}
use Rattle.tables.specs.Schema.{BookTable, IsTable, table_found, table_of}
use Rattle.tables.specs.Rows.{stored, kept_in}

-- the table stands at this place, and its rows in this tree
pub record Known (it : BookTable) (schema : Schema) (at tree : ℕ) : Type 0 where
  pub named : table_named schema it.name ≡ Some at
  pub is : slice_get schema.tables at ≡ Some (table_of it tree)
  pub low : nat_lt tree (2 ^ 31) ≡ true
  pub high : nat_le (2 ^ 31) tree ≡ false
  pub by_tree : find (λ t. t.tree == tree) schema.tables ≡ Some (table_of it tree)

pub some_same : {X : Type 0} {a b : X} → ◌≡◌ {A = Option X} (Some a) (Some b) → a ≡ b
some_same e = cc

-- the first that passes a test, by its place
module _ {X : Type 0} (p : X → Bool) where
  got_at : (ys : List X) (x : X) (xs : List X) → slice_get (ys ++ x ∷ xs) (length ys) ≡ Some x
  got_at [] x xs = refl
  got_at (y ∷ ys) x xs = got_at ys x xs

  found_from : (ys xs : List X) (x : X) → find p xs ≡ Some x → (at : ℕ) × (position_from p (length ys) xs ≡ Some at) × (slice_get (ys ++ xs) at ≡ Some x)
  found_from ys [] x h = absurd (cc)
  found_from ys (z ∷ xs) x h = elim (cases_Bool (p z)) [
    | inl passes ↦
        let same : Some z ≡ Some x = rw passes at h in
        (length ys, rw passes, got_at ys z xs ∙ same)
    | inr fails ↦
        let more = found_from (ys ++ z ∷ []) xs x (rw fails at h) in
        let long : length (ys ++ z ∷ []) ≡ length ys + 1 = omega (arith, length-append ys (z ∷ [])) in
        (more.0, rw fails (subst (λ n. position_from p n xs ≡ Some more.0) long more.1), subst (λ l. slice_get l more.0 ≡ Some x) (append_assoc ys (z ∷ []) xs) more.2)
  ]

  pub found_at : (xs : List X) (x : X) → find p xs ≡ Some x → (at : ℕ) × (position_from p 0 xs ≡ Some at) × (slice_get xs at ≡ Some x)
  found_at = found_from []

module _ (it : BookTable) (tree : ℕ) where
  found_by_tree : (tables : List Table) → find (λ t. same_name t.name it.name) tables ≡ Some (table_of it tree) → AllByRecursion (λ t. t.tree ≡ tree → t.name ≡ it.name) tables
      → find (λ t. t.tree == tree) tables ≡ Some (table_of it tree)
  found_by_tree [] h alone = absurd (cc)
  found_by_tree (u ∷ us) h alone = elim (cases_Bool (same_name u.name it.name)) [
    | inl named ↦
        let same : Some u ≡ Some (table_of it tree) = rw named at h in
        let is : u.tree ≡ tree = ap (λ (t : Table). t.tree) (some_same same) in
        rw (eq-eqb u.tree tree is) same
    | inr other ↦ elim (cases_Bool (u.tree == tree)) [
      | inl here ↦ absurd (let name = alone.0 (eqb-true _ _ here) in let e = ap (λ n. same_name n it.name) name in let own = same_itself it.name in cc)
      | inr past ↦ rw past (found_by_tree us (rw other at h) alone.1)
    ]
  ]

is_low : (tree : ℕ) → tree < 2 ^ 31 → (nat_lt tree (2 ^ 31) ≡ true) × (nat_le (2 ^ 31) tree ≡ false)
is_low tree low = (grind (arith, nat_tests), grind (arith, nat_tests))

module _ (it : BookTable) (schema : Schema) (there : IsTable it schema) where
  pub place : (at : ℕ) × (table_named schema it.name ≡ Some at) × (slice_get schema.tables at ≡ Some (table_of it there.tree))
  place = found_at (λ (t : Table). same_name t.name it.name) schema.tables (table_of it there.tree) there.found

  pub listed : Has schema.tables (table_of it there.tree)
  listed = has_got schema.tables place.0 (table_of it there.tree) place.2

  pub known : Known it schema place.0 there.tree
  known = record {
    named = place.1;
    is = place.2;
    low = (is_low there.tree there.low).0;
    high = (is_low there.tree there.low).1;
    by_tree = found_by_tree it there.tree schema.tables there.found there.alone;
  }

  -- a table with another name is kept in another tree
  apart : (t : Table) → Has schema.tables t → t.name ≢ it.name → t.tree ≢ there.tree
  apart t h other same = other (all_has _ schema.tables t there.alone h same)

  pub others_apart : (new old : Trees) → AllByRecursion (λ t. t.tree ≢ there.tree → new t.tree ≡ old t.tree) schema.tables
      → AllByRecursion (λ t. t.name ≢ it.name → new t.tree ≡ old t.tree) schema.tables
  others_apart new old all = all_from _ schema.tables (λ t h other. all_has _ schema.tables t all h (apart t h other))

  pub stored_is : (db : Database) → db.schema ≡ schema → stored it db ≡ db.trees there.tree
  stored_is db same = ap (λ s. kept_in db.trees (table_found s it.name)) same ∙ ap (kept_in db.trees) there.found

-- a table of the book keeps its rows where each table with another name does
pub rows_kept : (it : BookTable) (old new : Database) → new.schema ≡ old.schema → AllByRecursion (λ t. t.name ≢ it.name → new.trees t.tree ≡ old.trees t.tree) old.schema.tables
    → (other : BookTable) → IsTable other old.schema → other.name ≢ it.name → stored other new ≡ stored other old
rows_kept it old new same others other there differs =
    stored_is other old.schema there new same ∙ all_has _ old.schema.tables (table_of other there.tree) others (listed other old.schema there) differs ∙ sym (stored_is other old.schema there old refl)

-- ---- whether a name finds a table

module _ {X : Type 0} (p : X → Bool) where
  found_or_not : (n : ℕ) (xs : List X) → is_some (position_from p n xs) ≡ is_some (find p xs)
  found_or_not n [] = refl
  found_or_not n (x ∷ xs) = elim (cases_Bool (p x)) [ inl passes ↦ rw passes | inr fails ↦ rw fails (found_or_not (n + 1) xs) ]

pub names_one : (schema : Schema) (name : List ℕ) (there : Bool) (o : Option ℕ) → o ≡ table_named schema name → there ≡ is_some o → IsTrue there ↔ IsSome (table_found schema name)
names_one schema name there o named is =
    let same : there ≡ is_some (table_found schema name) = is ∙ ap is_some named ∙ found_or_not (λ (t : Table). same_name t.name name) 0 schema.tables in
    (λ h. rw same at h, λ h. rw same h)
