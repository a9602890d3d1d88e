-- SELECT of how many rows a table has, and of the greatest value of its first column.
use Rattle.std.proofs.Common.{◌≡◌, ◌⊎◌, inl, inr, ℕ, ℤ, pos, negsuc, min, ◌<◌, Bool, true, false, true≢false, List, [], ◌∷◌, ◌++◌, map, filter, flat_map, length, Option, Some, None, IsSome, Ok, Err, Result, IfOk, IfErr, OnOk, IsTrue, IsPermutation, Any, slice_get, slice_index_or, refl, sym, ap, ap₂, subst, subst₂, ◌∙◌, arith}
use Rattle.std.specs.List.{AllZip}
use Rattle.std.proofs.lemmas.Bool.Decides.{nat_tests}
use Rattle.std.proofs.lemmas.List.Sorted.{IsPermutation-map, IsPermutation-sym, length_permutation}
use Rattle.sqlite_value.specs.declared.keys.Collation.TheVariants.{Binary}
use Rattle.sqlite_value.specs.declared.value.Value.{Value}
use Rattle.sqlite_value.specs.declared.value.Value.TheVariants.{Null, Int, Real, Text, Blob}
use Rattle.sqlite_value.specs.Order.{Row, column}
use Rattle.sqlite_trees.specs.Tree.{Trees}
use Rattle.sqlite_trees.proofs.ListLemmas.{map-map}
use Rattle.sqlite_schema.specs.declared.command.Command.TheVariants.{Select}
use Rattle.sqlite_schema.specs.declared.schema.Schema.{Schema}
use Rattle.sqlite_sql.specs.declared.aggregate.AggregateOp.TheVariants.{CountRows, Max}
use Rattle.sqlite_sql.specs.Term.{Env, lit, col, eval, eval_all, holds}
use Rattle.sqlite_sql.specs.Group.{Aggregate, Grouping, IsSummary, value_over}
use Rattle.sqlite_sql.specs.Query.{Query, Output, output, matches, inner, end, IsAnswer}
use Rattle.sqlite_sql.specs.Program.{overlay}
use Rattle.sqlite_sql.specs.Ops.{is_null}
use Rattle.sqlite_sql.specs.Aggregate.{count}
use Rattle.sqlite_typing.specs.Types.{accepts_program}
use Rattle.sqlite_tied.specs.Compute.{everything}
use Rattle.sqlite_rules.specs.Lists.{Has}
use Rattle.sqlite_rules.proofs.ListLemmas.{any_has, has_left, has_right}
use Rattle.sqlite_rules.proofs.ProbeLemmas.{has_mapped, mapped_has}
use Rattle.sqlite.specs.Values.{or_null}
use Rattle.sqlite.specs.Effect.{Database, RefusesQuery}
use Rattle.sqlite.specs.Listing.{understood}
use Rattle.sqlite.specs.declared.error.Error.{Error}
use Rattle.sqlite.specs.State.{State, HasCleanDisk, IsUnchanged, Shown, FailsToQuery, Survives}
use Rattle.sqlite.proofs.Callers.{IsPlain, one_permutation, reads_as, begins_as}
use Rattle.tables.specs.Schema.{BookTable, IsTable, request_table}
use Rattle.tables.specs.Rows.{cells, rows_of, begins_with, HasNoRecord}
use Rattle.tables.specs.Records.{IsRequestRow}
use Rattle.tables.specs.Tally.{IsHighestAt, IsTally, IsTallyRow, tally_row}
use Rattle.tables.specs.Calls.{Failed, Stops, HasStepLimit, GivesNoRows, ReadAs}
use Rattle.tables.specs.Texts.{HasInvalid, IsBare, FailsToRead}
use Rattle.tables.specs.Faults.{table_fault_of}
use Rattle.tables.specs.declared.request.RequestTally.{RequestTally}
use Rattle.tables.specs.declared.table_fault.TableFault.{TableFault}
use Rattle.tables.specs.declared.table_fault.TableFault.TheVariants.{Store, Memory, NotARecord}
use Rattle.tables.proofs.Answering.{has_permuted, overlay_is}
use Rattle.tables.proofs.Compiling.{IsRead}
use Rattle.tables.proofs.Greatest.{greatest, greatest_has, none_greatest, highest}
use Rattle.tables.proofs.Known.{Known, known, place, stored_is}
use Rattle.tables.proofs.Selecting.{unanswered, unread_as, opened_or_failed}

abbrev rows_counted : Aggregate
rows_counted = record { op = CountRows; distinct = false; collation = Binary; argument = lit Null }

abbrev greatest_taken : Aggregate
greatest_taken = record { op = Max; distinct = false; collation = Binary; argument = col 1 1 }

abbrev pub tallied : Grouping
tallied = record { keys = []; collations = []; aggregates = rows_counted ∷ greatest_taken ∷ []; having = [] }

abbrev pub tally_query : ℕ → Query
tally_query tree = record {
  from = inner tree end;
  filter = [];
  group = Some tallied;
  project = col 1 0 ∷ col 1 1 ∷ [];
  distinct = false;
  collations = [];
  order = [];
  limit = lit (Int (negsuc 0));
  offset = lit (Int (pos 0));
}

-- ---- the one row of the answer

one_zip : {A B : Type 0} (R : A → B → Type 0) (a : A) (ys : List B) → AllZip R (a ∷ []) ys → (y : B) × (ys ≡ y ∷ []) × R a y
one_zip R a [] h = absurd h
one_zip R a (y ∷ []) h = (y, refl, h.0)
one_zip R a (y ∷ z ∷ ys) h = absurd h.1

two_zip : {A B : Type 0} (R : A → B → Type 0) (a b : A) (ys : List B) → AllZip R (a ∷ b ∷ []) ys → (y : B) × (z : B) × (ys ≡ y ∷ z ∷ []) × R a y × R b z
two_zip R a b [] h = absurd h
two_zip R a b (y ∷ ys) h = let rest = one_zip R b ys h.1 in (y, rest.0, ap (λ l. y ∷ l) rest.1, h.0, rest.2)

length_mapped : {X Y : Type 0} (f : X → Y) (xs : List X) → length (map f xs) ≡ length xs
length_mapped f [] = refl
length_mapped f (x ∷ xs) = omega (arith, length_mapped f xs)

singles : {X Y : Type 0} (f : X → Y) (xs : List X) → flat_map (λ x. f x ∷ []) xs ≡ map f xs
singles f [] = refl
singles f (x ∷ xs) = ap (λ l. f x ∷ l) (singles f xs)

some_value : {X : Type 0} {a b : X} → ◌≡◌ {A = Option X} (Some a) (Some b) → a ≡ b
some_value e = cc

abbrev first_of : Row → Value
first_of r = column r 1

-- the row has the count of some rows, and the greatest of their values, which are those of the first column in some order
pub record Tallied (stored : List Row) (rows : List Row) : Type 0 where
  pub values : List Value
  pub same : IsPermutation (map first_of stored) values
  pub are : rows ≡ (count (length stored) ∷ greatest values ∷ []) ∷ []

module _ (tree : ℕ) (db : Trees) (params : Row) (rows : List Row) (answer : IsAnswer (tally_query tree) db params rows) where
  abbrev at_row : Row → Env
  at_row r = params ∷ r ∷ []

  abbrev all : List Env
  all = matches db [] (inner tree end) (params ∷ [])

  all_are : all ≡ map at_row (db tree)
  all_are = singles at_row (db tree)

  summary : (order : List Env) × IsPermutation all order × (answer.grouped.groups ≡ order ∷ [])
  summary = answer.grouped.grouping

  abbrev order : List Env
  order = summary.0

  one_row : (row : Row) × (answer.grouped.rows ≡ row ∷ []) × IsSummary tallied order row
  one_row = one_zip (IsSummary tallied) order answer.grouped.rows (subst (λ groups. AllZip (IsSummary tallied) groups answer.grouped.rows) summary.2 answer.grouped.summaries)

  abbrev row : Row
  row = one_row.0

  two_values : (count_value : Value) × (top : Value) × (one_row.2.0 ≡ count_value ∷ top ∷ []) × (Some (count (length (map (eval (lit Null)) order))) ≡ Some count_value) × (Some (greatest (map (eval (col 1 1)) order)) ≡ Some top)
  two_values = two_zip (λ (a : Aggregate) (v : Value). value_over order a ≡ Some v) rows_counted greatest_taken one_row.2.0 one_row.2.1

  row_is : row ≡ count (length (map (eval (lit Null)) order)) ∷ greatest (map (eval (col 1 1)) order) ∷ []
  row_is = one_row.2.2 ∙ two_values.2 ∙ ap₂ (λ a b. a ∷ b ∷ []) (sym (some_value two_values.3)) (sym (some_value two_values.4))

  staged_is : answer.staged ≡ (params ∷ row ∷ []) ∷ []
  staged_is = answer.grouped.having ∙ ap (λ rs. filter (λ env. true) (map at_row rs)) one_row.1

  abbrev q : Query
  q = tally_query tree

  ordered_is : answer.ordered ≡ output q (params ∷ row ∷ []) ∷ []
  ordered_is = one_permutation _ answer.ordered (subst (λ l. IsPermutation l answer.ordered) (answer.distinct ∙ ap (map (output q)) staged_is) answer.same)

  rows_are : rows ≡ (column row 0 ∷ column row 1 ∷ []) ∷ []
  rows_are = answer.shown ∙ ap (λ l. map (λ (o : Output). o.1) l) ordered_is

  long : length (map (eval (lit Null)) order) ≡ length (db tree)
  long = length_mapped (eval (lit Null)) order ∙ length_permutation all order summary.1 ∙ ap length all_are ∙ length_mapped at_row (db tree)

  pub answer_tallies : Tallied (db tree) rows
  answer_tallies = record {
    values = map (eval (col 1 1)) order;
    same =
        subst (λ l. IsPermutation l (map (eval (col 1 1)) order)) (ap (map (eval (col 1 1))) all_are ∙ map-map (eval (col 1 1)) at_row (db tree))
        (IsPermutation-map (eval (col 1 1)) all order summary.1);
    are = rows_are ∙ ap (λ r. (column r 0 ∷ column r 1 ∷ []) ∷ []) row_is ∙ ap (λ n. (count n ∷ greatest (map (eval (col 1 1)) order) ∷ []) ∷ []) long;
  }

-- ---- what the row says of the rows of the table

same_count : {a b : ℕ} → Int (pos a) ≡ Int (pos b) → a ≡ b
same_count e = cc

below_bound : (kept n : ℕ) → kept ≡ min n 9223372036854775807 → kept < 9223372036854775807 → kept ≡ n
below_bound kept n is low = grind (arith, nat_tests, is, low)

module _ (stored : List Row) (values : List Value) (same : IsPermutation (map first_of stored) values) where
  abbrev rows : List Row
  rows = map (cells request_table) stored

  -- a value of the first column is there among the values
  value_there : (x : Row) → Has rows x → Has values (column x 0)
  value_there x h =
      let r = has_mapped (cells request_table) stored x h in
      subst (λ y. Has values (column y 0)) (sym r.2) (has_permuted (map first_of stored) values (first_of r.0) same (mapped_has first_of stored r.0 r.1))

  -- and a value is that of a row
  row_there : (v : Value) → Has values v → (x : Row) × Has rows x × (column x 0 ≡ v)
  row_there v h =
      let r = has_mapped first_of stored v (has_permuted values (map first_of stored) v (IsPermutation-sym _ _ same) h) in
      (cells request_table r.0, mapped_has (cells request_table) stored r.0 r.1, sym r.2)

  highest_is : (o : Option ℤ) → greatest values ≡ or_null Int o → IsHighestAt 0 rows o
  highest_is None is = λ x n h first. none_greatest values is n (subst (Has values) first (value_there x h))
  highest_is (Some n) is = (
    row_there (Int n) (subst (Has values) is (greatest_has values (ap is_null is))),
    λ x m h first. highest values n m is (subst (Has values) first (value_there x h)),
  )

  abbrev NoRequest : Type 0
  NoRequest = (x : Row) × Has rows x × ¬ IsRequestRow x

  strange : (v : Value) → greatest values ≡ v → is_null v ≡ false → ((n : ℤ) → v ≡ Int n → ⊥) → NoRequest
  strange v is some none =
      let x = row_there v (subst (Has values) is (greatest_has values (ap is_null is ∙ some))) in
      (x.0, x.1, λ it. none it.0.number (sym x.2 ∙ ap (λ (y : Row). column y 0) it.4))

  no_tally : (IsTallyRow (count (length stored) ∷ greatest values ∷ []) → ⊥) → NoRequest
  no_tally none = elim (greatest values) as (λ v. greatest values ≡ v → (IsTallyRow (count (length stored) ∷ v ∷ []) → ⊥) → NoRequest) [
    | Null ↦ λ _ no. absurd (no (record { kept = min (length stored) 9223372036854775807; highest = None }, refl))
    | Int n ↦ λ _ no. absurd (no (record { kept = min (length stored) 9223372036854775807; highest = Some n }, refl))
    | Real x ↦ λ is _. strange (Real x) is refl (λ n e. cc)
    | Text t ↦ λ is _. strange (Text t) is refl (λ n e. cc)
    | Blob b ↦ λ is _. strange (Blob b) is refl (λ n e. cc)
  ] refl none

-- ---- the text

pub record TallyReader (text : List ℕ) (old : State) : Type 1 where
  pub plain : IsPlain (understood old.now.schema text)
  pub found : (new : State) (it : RequestTally) (rest : List Row) → Shown text [] old new (tally_row it ∷ rest) → it.kept < 9223372036854775807 → IsTally old.now it
  pub stops : (new : State) (e : Error) → FailsToQuery text [] old new e → Stops ⊥ (HasStepLimit old) old new (table_fault_of e)
  pub invalid : HasInvalid IsTallyRow text [] old → HasNoRecord request_table (begins_with []) IsRequestRow old.now

accepted : (schema : Schema) (at tree : ℕ) → Known request_table schema at tree → accepts_program schema [] (tally_query tree) [] ≡ true
unfolding everything
accepted schema at tree facts = simp (facts.high, facts.by_tree) refl

never_over : (group : List Env) → Any (λ (a : Aggregate). value_over group a ≡ None) tallied.aggregates → ⊥
never_over group some =
    let a = any_has (λ (a : Aggregate). value_over group a ≡ None) tallied.aggregates some in
    elim a.1 [
      | inl first ↦ let no = subst (λ (b : Aggregate). value_over group b ≡ None) first a.2 in cc
      | inr later ↦ elim later [
        | inl second ↦ let no = subst (λ (b : Aggregate). value_over group b ≡ None) second a.2 in cc
        | inr none ↦ none
      ]
    ]

bounded : (limit : Option ℕ) (db : Database) (at tree : ℕ) → Known request_table db.schema at tree → (e : Error) → RefusesQuery limit db (record { lets = []; body = tally_query tree }) [] e → IsSome limit × (table_fault_of e ≡ Store)
bounded limit db at tree facts e (inl h) = absurd (true≢false (sym (accepted db.schema at tree facts) ∙ h.1))
bounded limit db at tree facts e (inr (inl h)) = elim h.1 [ inl over ↦ let group = any_has _ _ over.2 in absurd (never_over group.0 group.2) | inr some ↦ absurd (any_has _ _ some).2 ]
bounded limit db at tree facts e (inr (inr h)) = (h.1, ap table_fault_of h.0)

module _ (text : List ℕ) (names : List (List ℕ)) {given : ℕ} (read : IsRead request_table text given (λ _ tree. Select (record { lets = []; body = tally_query tree }) names)) (whole : given ≡ 0)
    (old : State) (there : IsTable request_table old.now.schema) where
  abbrev stored : List Row
  stored = old.now.trees there.tree

  facts : Known request_table old.now.schema (place request_table old.now.schema there).0 there.tree
  facts = known request_table old.now.schema there

  over_stored : (rows : List Row) → IsAnswer (tally_query there.tree) (overlay old.now.trees []) [] rows → Tallied stored rows
  over_stored rows answer = subst (λ l. Tallied l rows) (overlay_is old.now.trees there.tree) (answer_tallies there.tree (overlay old.now.trees []) [] rows answer)

  rows_stored : rows_of request_table old.now ≡ map (cells request_table) stored
  rows_stored = ap (map (cells request_table)) (stored_is request_table old.now.schema there old.now refl)

  found : (new : State) (it : RequestTally) (rest : List Row) → Shown text [] old new (tally_row it ∷ rest) → it.kept < 9223372036854775807 → IsTally old.now it
  found new it rest h low =
      let answers = reads_as text [] old new old.now.schema refl _ (read.is _ _ _ facts) (read.plain _ _ _ facts) (read.unlisted _ _ _ facts) (tally_row it ∷ rest) h in
      let tally = over_stored (tally_row it ∷ rest) (answers.answer Null) in
      let first : tally_row it ≡ count (length stored) ∷ greatest tally.values ∷ [] = ap (λ (l : List Row). slice_index_or l 0 []) tally.are in
      record {
        kept =
            below_bound it.kept (length stored) (same_count (ap (λ (r : Row). column r 0) first)) low
            ∙ sym (length_mapped (cells request_table) stored) ∙ sym (ap length rows_stored);
        highest = subst (λ rows. IsHighestAt 0 rows it.highest) (sym rows_stored) (highest_is stored tally.values tally.same it.highest (sym (ap (λ (r : Row). column r 1) first)));
      }

  invalid : HasInvalid IsTallyRow text [] old → HasNoRecord request_table (begins_with []) IsRequestRow old.now
  invalid h =
      let given_rows = h.0 ++ h.1 ∷ [] in
      let first = begins_as text [] old old old.now.schema refl _ (read.is _ _ _ facts) (read.plain _ _ _ facts) (read.unlisted _ _ _ facts) given_rows h.2 in
      let start = first.1 in
      let all = given_rows ++ start.0 in
      let tally = over_stored all (start.1 Null) in
      let here : Has all h.1 = has_left given_rows start.0 h.1 (has_right h.0 (h.1 ∷ []) h.1 (inl refl)) in
      let only : h.1 ≡ count (length stored) ∷ greatest tally.values ∷ [] = elim (subst (λ l. Has l h.1) tally.are here) [ inl same ↦ same | inr none ↦ absurd none ] in
      let x = no_tally stored tally.values tally.same (λ is. h.3 (subst IsTallyRow (sym only) is)) in
      (x.0, subst (λ l. Has l x.0) (sym rows_stored) x.1, refl, x.2)

  pub tally_reader : TallyReader text old
  tally_reader = record {
    plain = read.plain _ _ _ facts;
    found = found;
    stops = unanswered request_table tally_query text names read [] whole old there (bounded old.step_limit old.now _ there.tree facts);
    invalid = invalid;
  }

-- ---- from the clauses of `read_all` to those of the function

abbrev pub Reads : State → State → Result RequestTally TableFault → Type 0
Reads old new = ReadAs IsTally (HasNoRecord request_table (begins_with []) IsRequestRow) (HasStepLimit old) old new

module _ {text : List ℕ} {B : Type 0} (old new : State) (bare : IsBare (understood old.now.schema text)) (owed : HasCleanDisk old → IsTrue old.is_open → B) (reader : B → TallyReader text old)
    {X : Trees → Type 0} (survives : Survives old new X) where
  while_open : (fault : TableFault) → HasCleanDisk new → IsTrue old.is_open → FailsToRead (λ _. ⊥) text [] old new fault → (fault ≡ NotARecord → HasInvalid IsTallyRow text [] old)
      → Failed ⊥ old new fault ⊎ (IsUnchanged old new × GivesNoRows (HasStepLimit old) (HasNoRecord request_table (begins_with []) IsRequestRow old.now) fault)
  while_open fault clean opened err damaged =
      let reads = reader (owed (omega (arith, survives.clean)) opened) in
      unread_as text [] old new (HasStepLimit old) _ (λ _. ⊥) fault (reads.stops new) (λ h. h) (λ none. absurd none.3) err (λ e. reads.invalid (damaged e))

  pub not_tallied : (fault : TableFault) → (HasCleanDisk new → FailsToRead (λ _. ⊥) text [] old new fault) → (HasCleanDisk new → fault ≡ NotARecord → HasInvalid IsTallyRow text [] old) → Reads old new (Err fault)
  not_tallied fault err damaged clean = elim (err clean) [
    | inl query ↦ elim (opened_or_failed text [] old new query.0 bare query.2) [
      | inl opened ↦ while_open fault clean opened (inl query) (damaged clean)
      | inr fails ↦ inl (query.0, fails, query.1)
    ]
    | inr own ↦ while_open fault clean own.0.0.was_open (inr own) (damaged clean)
  ]

  shows_first : (all : List RequestTally) (it : RequestTally) → slice_get all 0 ≡ Some it → (rest : List Row) × (map tally_row all ≡ tally_row it ∷ rest)
  shows_first [] it h = absurd (cc)
  shows_first (x ∷ xs) it h = (map tally_row xs, ap (λ (y : RequestTally). tally_row y ∷ map tally_row xs) (some_value h))

  pub tallied_by : (all : List RequestTally) (result : Result RequestTally TableFault) → (HasCleanDisk new → Shown text [] old new (map tally_row all)) → (HasCleanDisk new → IsUnchanged old new)
      → IfOk result (λ it. (slice_get all 0 ≡ Some it) × (it.kept < 9223372036854775807)) → IfErr result (λ e. e ≡ Memory) → Reads old new result
  tallied_by all (Ok it) shown same first memory clean =
      let kept = same clean in
      let one = shows_first all it first.0 in
      ((reader (owed (omega (arith, survives.clean)) kept.0.was_open)).found new it one.0 (subst (Shown text [] old new) one.1 (shown clean)) first.1, kept)
  tallied_by all (Err e) shown same first memory clean = inr (same clean, subst (GivesNoRows (HasStepLimit old) (HasNoRecord request_table (begins_with []) IsRequestRow old.now)) (sym memory) tt)
