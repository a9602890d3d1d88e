-- The answer of a query on one table.
use Rattle.std.proofs.Common.{◌≡◌, inl, inr, ℕ, suc, pos, negsuc, List, [], ◌∷◌, map, filter, flat_map, Bool, true, false, unwrap_or, ◌&&◌, cond, Some, None, IsPermutation, IsSorted, refl, sym, ap, ap₂, subst, ◌∙◌}
use Rattle.std.specs.Ordering.{is_eq}
use Rattle.std.specs.List.{list_all}
use Rattle.std.proofs.lemmas.Bool.{cases_Bool}
use Rattle.std.proofs.lemmas.List.Sorted.{IsPermutation-sym, IsPermutation-map, Contains-permutation}
use Rattle.sqlite_value.specs.declared.keys.Collation.TheVariants.{Binary}
use Rattle.sqlite_value.specs.declared.keys.Key.{Key}
use Rattle.sqlite_value.specs.declared.value.Value.{Value}
use Rattle.sqlite_value.specs.declared.value.Value.TheVariants.{Null, Int, Real, Text, Blob}
use Rattle.sqlite_value.specs.Order.{Row, column, value_cmp}
use Rattle.sqlite_value.proofs.OrderLemmas.{value_cmp-Null}
use Rattle.sqlite_exec.proofs.PartitionLemmas.{IsSorted-from_map}
use Rattle.sqlite_trees.specs.Tree.{Trees}
use Rattle.sqlite_trees.proofs.ListLemmas.{map-map, pull_back}
use Rattle.sqlite_sql.specs.declared.ops.BinaryOp.TheVariants.{Compare}
use Rattle.sqlite_sql.specs.declared.ops.CompareOp.TheVariants.{Eq}
use Rattle.sqlite_sql.specs.Ops.{binary, is_null, is_true, from_truth}
use Rattle.sqlite_sql.specs.Term.{Term, lit, col, op2, holds, eval_all}
use Rattle.sqlite_sql.specs.Query.{Query, Output, output, output_cmp, matches, inner, end, IsAnswer}
use Rattle.sqlite_sql.specs.Program.{overlay}
use Rattle.sqlite_rules.specs.Lists.{Has}
use Rattle.sqlite_rules.proofs.ListLemmas.{has_right, has_either, has_contained, contains_had}
use Rattle.sqlite_rules.proofs.ProbeLemmas.{has_mapped, mapped_has}
use Rattle.tables.specs.Rows.{begins_with, cells_from}

abbrev pub is_param : ℕ → ℕ → Term
is_param c p = op2 (Compare Eq Binary) (col 1 c) (col 0 p)

abbrev pub plain_query : ℕ → List Term → List Term → List (Term × Key) → Query
plain_query tree filter project order = record { from = inner tree end; filter = filter; group = None; project = project; distinct = false; collations = []; order = order; limit = lit (Int (negsuc 0)); offset = lit (Int (pos 0)) }

pub has_permuted : {X : Type 0} (xs ys : List X) (x : X) → IsPermutation xs ys → Has xs x → Has ys x
has_permuted xs ys x same h = has_contained ys x (Contains-permutation xs ys x same (contains_had xs x h))

has_matched : {X Y : Type 0} (p : X → Bool) (f : X → Y) (xs : List X) (y : Y) → Has (flat_map (λ z. cond (p z) (f z ∷ []) []) xs) y → (x : X) × Has xs x × (p x ≡ true) × (y ≡ f x)
has_matched p f [] y h = absurd h
has_matched p f (z ∷ xs) y h = elim (has_either (cond (p z) (f z ∷ []) []) (flat_map (λ w. cond (p w) (f w ∷ []) []) xs) y h) [
  | inl here ↦ elim (cases_Bool (p z)) [
    | inl passes ↦ elim (rw passes at here) [ inl same ↦ (z, inl refl, passes, same) | inr none ↦ absurd none ]
    | inr fails ↦ absurd (rw fails at here)
  ]
  | inr later ↦ let r = has_matched p f xs y later in (r.0, inr r.1, r.2, r.3)
]

matched_has : {X Y : Type 0} (p : X → Bool) (f : X → Y) (xs : List X) (x : X) → Has xs x → p x ≡ true → Has (flat_map (λ z. cond (p z) (f z ∷ []) []) xs) (f x)
matched_has p f [] x h passes = absurd h
matched_has p f (z ∷ xs) x (inl same) passes = rw (← same, passes) (inl refl)
matched_has p f (z ∷ xs) x (inr later) passes = has_right (cond (p z) (f z ∷ []) []) (flat_map (λ w. cond (p w) (f w ∷ []) []) xs) (f x) (matched_has p f xs x later passes)

module _ (tree : ℕ) (filter project : List Term) (order : List (Term × Key)) (db : Trees) (params : Row) (rows : List Row) (answer : IsAnswer (plain_query tree filter project order) db params rows) where
  abbrev q : Query
  q = plain_query tree filter project order

  abbrev test : Row → Bool
  test r = list_all (holds (params ∷ r ∷ [])) filter

  abbrev env : Row → List Row
  env r = params ∷ r ∷ []

  abbrev all : List (List Row)
  all = matches db filter (inner tree end) (params ∷ [])

  kept : answer.kept ≡ map (output q) all
  kept = answer.distinct ∙ ap (map (output q)) answer.grouped

  pub answer_has : (x : Row) → Has rows x → (r : Row) × Has (db tree) r × (test r ≡ true) × (x ≡ eval_all project (env r))
  answer_has x h =
      let o = has_mapped (λ (k : Output). k.1) answer.ordered x (subst (λ l. Has l x) answer.shown h) in
      let e = has_mapped (output q) all o.0 (subst (λ l. Has l o.0) kept (has_permuted answer.ordered answer.kept o.0 (IsPermutation-sym _ _ answer.same) o.1)) in
      let r = has_matched test env (db tree) e.0 e.1 in
      (r.0, r.1, r.2, o.2 ∙ ap (λ (k : Output). k.1) (e.2 ∙ ap (output q) r.3))

  pub answer_all : (r : Row) → Has (db tree) r → test r ≡ true → Has rows (eval_all project (env r))
  answer_all r h passes =
      let o = output q (env r) in
      let there = subst (λ l. Has l o) (sym kept) (mapped_has (output q) all (env r) (matched_has test env (db tree) r h passes)) in
      subst (λ l. Has l (eval_all project (env r))) (sym answer.shown) (mapped_has (λ (k : Output). k.1) answer.ordered o (has_permuted answer.kept answer.ordered o answer.same there))

and_nothing : (b : Bool) → (b && true) ≡ b
and_nothing true = refl
and_nothing false = refl

flat_mapped : {X Y : Type 0} (p : X → Bool) (f : X → Y) (xs : List X) → flat_map (λ z. cond (p z) (f z ∷ []) []) xs ≡ map f (filter p xs)
flat_mapped p f [] = refl
flat_mapped p f (z ∷ xs) = elim (cases_Bool (p z)) [ inl passes ↦ rw passes (ap (λ l. f z ∷ l) (flat_mapped p f xs)) | inr fails ↦ rw fails (flat_mapped p f xs) ]

-- ---- the rows in the order of ORDER BY

abbrev pub output_of : Query → Row → Row → Output
output_of q params r = output q (params ∷ r ∷ [])

pub answer_ordered : (tree : ℕ) (filters project : List Term) (order : List (Term × Key)) (db : Trees) (params : Row) (rows : List Row) (answer : IsAnswer (plain_query tree filters project order) db params rows)
    → (found : List Row) × (rows ≡ map (λ r. eval_all project (params ∷ r ∷ [])) found) × IsSorted (λ a b. output_cmp (plain_query tree filters project order) (output_of (plain_query tree filters project order) params a) (output_of (plain_query tree filters project order) params b)) found
answer_ordered tree filters project order db params rows answer =
    let q = plain_query tree filters project order in
    let passing = filter (λ r. list_all (holds (params ∷ r ∷ [])) filters) (db tree) in
    let outputs : answer.kept ≡ map (output_of q params) passing =
    answer.distinct ∙ ap (map (output q)) (answer.grouped ∙ flat_mapped (λ r. list_all (holds (params ∷ r ∷ [])) filters) (λ r. params ∷ r ∷ []) (db tree)) ∙ map-map (output q) (λ r. params ∷ r ∷ []) passing in
    let back = pull_back (output_of q params) answer.kept answer.ordered answer.same passing outputs in (
      back.0,
      answer.shown ∙ ap (map (λ (o : Output). o.1)) back.2 ∙ map-map (λ (o : Output). o.1) (output_of q params) back.0,
      IsSorted-from_map (output_cmp q) (output_of q params) back.0 (subst (IsSorted (output_cmp q)) back.2 answer.sorted),
    )

-- ---- just the rows that pass, each as often as the table has it

module _ (tree : ℕ) (filters project : List Term) (order : List (Term × Key)) (db : Trees) (params : Row) (rows : List Row) (answer : IsAnswer (plain_query tree filters project order) db params rows) where
  abbrev query : Query
  query = plain_query tree filters project order

  abbrev passes : Row → Bool
  passes r = list_all (holds (params ∷ r ∷ [])) filters

  abbrev at_row : Row → List Row
  at_row r = params ∷ r ∷ []

  pub answer_permutes : IsPermutation (map (λ r. eval_all project (params ∷ r ∷ [])) (filter passes (db tree))) rows
  answer_permutes =
      let outputs : answer.kept ≡ map (output query) (map at_row (filter passes (db tree))) =
      answer.distinct ∙ ap (map (output query)) (answer.grouped ∙ flat_mapped passes at_row (db tree)) in
      let shows : map (λ (o : Output). o.1) answer.kept ≡ map (λ r. eval_all project (params ∷ r ∷ [])) (filter passes (db tree)) =
      ap (map (λ (o : Output). o.1)) outputs ∙ map-map (λ (o : Output). o.1) (output query) (map at_row (filter passes (db tree))) ∙ map-map (λ env. eval_all project env) at_row (filter passes (db tree)) in
      let both = IsPermutation-map (λ (o : Output). o.1) answer.kept answer.ordered answer.same in
      subst (IsPermutation (map (λ r. eval_all project (params ∷ r ∷ [])) (filter passes (db tree)))) (sym answer.shown)
      (subst (λ l. IsPermutation l (map (λ (o : Output). o.1) answer.ordered)) shows both)

none_or : {X : Type 0} (b : Bool) (x : X) → unwrap_or (cond b None None) x ≡ x
none_or true x = refl
none_or false x = refl

pub overlay_is : (db : Trees) (t : ℕ) → overlay db [] t ≡ db t
overlay_is db t = none_or _ (db t)

-- ---- a key

pub from_true : (b : Bool) → is_true (from_truth (Some b)) ≡ b
from_true true = refl
from_true false = refl

pub unlike_null : (v : Value) → is_null v ≡ false → is_eq (value_cmp Null v) ≡ false
unlike_null Null h = absurd (cc)
unlike_null (Int n) h = rw (value_cmp-Null (Int n))
unlike_null (Real n) h = rw (value_cmp-Null (Real n))
unlike_null (Text n) h = rw (value_cmp-Null (Text n))
unlike_null (Blob n) h = rw (value_cmp-Null (Blob n))

pub compared : (a v : Value) → is_null v ≡ false → is_true (binary (Compare Eq Binary) a v) ≡ is_eq (value_cmp a v)
unfolding binary
compared Null v h = sym (unlike_null v h)
compared (Int n) v h = rw h (from_true _)
compared (Real n) v h = rw h (from_true _)
compared (Text n) v h = rw h (from_true _)
compared (Blob n) v h = rw h (from_true _)

pub one_key : (v : Value) (more r : Row) → is_null v ≡ false → (count : ℕ) → list_all (holds ((v ∷ more) ∷ r ∷ [])) (is_param 1 0 ∷ []) ≡ begins_with (v ∷ []) (cells_from (suc count) 1 r)
one_key v more r h count = ap (λ b. b && true) (compared (column r 1) v h)

pub two_keys : (v w : Value) (more r : Row) → is_null v ≡ false → is_null w ≡ false → (count : ℕ)
    → list_all (holds ((v ∷ w ∷ more) ∷ r ∷ [])) (is_param 1 0 ∷ is_param 2 1 ∷ []) ≡ begins_with (v ∷ w ∷ []) (cells_from (suc (suc count)) 1 r)
two_keys v w more r h k count = ap₂ (λ a b. a && (b && true)) (compared (column r 1) v h) (compared (column r 2) w k)

-- one column, wherever it stands
pub one_column : (v : Value) (more r : Row) → is_null v ≡ false → (at : ℕ) → list_all (holds ((v ∷ more) ∷ r ∷ [])) (is_param at 0 ∷ []) ≡ is_eq (value_cmp (column r at) v)
one_column v more r h at = and_nothing _ ∙ compared (column r at) v h

pub three_keys : (u v w : Value) (more r : Row) → is_null u ≡ false → is_null v ≡ false → is_null w ≡ false → (count : ℕ)
    → list_all (holds ((u ∷ v ∷ w ∷ more) ∷ r ∷ [])) (is_param 1 0 ∷ is_param 2 1 ∷ is_param 3 2 ∷ []) ≡ begins_with (u ∷ v ∷ w ∷ []) (cells_from (suc (suc (suc count))) 1 r)
three_keys u v w more r h k l count =
    ap₂ (λ a b. a && b) (compared (column r 1) u h) (ap₂ (λ a b. a && (b && true)) (compared (column r 2) v k) (compared (column r 3) w l))
