-- SELECT of a whole table with the numbers of its rows, which rise and so are apart.
use Rattle.std.proofs.Common.{◌≡◌, ◌⊎◌, ◌+◌, inl, inr, ℕ, suc, ℤ, List, [], ◌∷◌, map, filter, drop, length, slice_index_or, Bool, true, false, Ok, Err, Result, refl, sym, ap, subst, ◌∙◌, IsPermutation, IsSorted, IsTrue, IfOk, OnOk, IfErr, Ordering, Less, Equal, Greater, arith}
use Rattle.std.specs.Ordering.{is_eq, is_lt, int_cmp, ordering_then}
use Rattle.std.specs.List.{AllByRecursion, IsDistinct}
use Rattle.std.proofs.lemmas.Bool.{and_parts, and_from, cases_Bool}
use Rattle.std.proofs.lemmas.Map.Keys.{IsDistinct-IsPermutation}
use Rattle.std.proofs.lemmas.List.Sorted.{IsPermutation-sym, IsPermutation-map}
use Rattle.std.proofs.lemmas.Cmp.{tied_back}
use Rattle.std.proofs.lemmas.Int.{ints}
use Rattle.std.proofs.lemmas.Bool.Decides.{nat_tests}
use Rattle.sqlite_value.specs.declared.keys.Key.{Key}
use Rattle.sqlite_value.specs.declared.keys.Collation.TheVariants.{Binary}
use Rattle.sqlite_value.specs.declared.value.Value.{Value}
use Rattle.sqlite_value.specs.declared.value.Value.TheVariants.{Null, Int, Real, Text, Blob}
use Rattle.sqlite_value.specs.Keys.{ascending}
use Rattle.sqlite_value.specs.Order.{Row, column, value_cmp}
use Rattle.sqlite_value.proofs.OrderLemmas.{value_cmp_total, value_cmp-Int}
use Rattle.sqlite_trees.specs.Tree.{Trees, rowid, IsAscending}
use Rattle.sqlite_trees.specs.View.{is_int, IsShaped}
use Rattle.sqlite_trees.specs.declared.store.Shape.TheVariants as shape
use Rattle.sqlite.specs.Values.{IsInt}
use Rattle.sqlite_exec.proofs.RowsLemmas.{IsSorted-map}
use Rattle.sqlite_sql.specs.Program.{overlay}
use Rattle.sqlite_trees.proofs.ListLemmas.{map-map}
use Rattle.sqlite_schema.specs.declared.command.Command.TheVariants.{Select}
use Rattle.sqlite_sql.specs.Term.{Term, col, eval_all}
use Rattle.sqlite_rules.specs.Lists.{Has}
use Rattle.sqlite_rules.proofs.ListLemmas.{all_has, all_from}
use Rattle.sqlite_rules.proofs.ProbeLemmas.{has_mapped, mapped_has}
use Rattle.sqlite.proofs.Callers.{IsPlain, reads_as}
use Rattle.sqlite.specs.Listing.{understood}
use Rattle.sqlite.specs.declared.error.Error.{Error}
use Rattle.sqlite.specs.State.{State, HasCleanDisk, Survives, IsUnchanged, Shown, FailsToQuery}
use Rattle.tables.specs.Schema.{BookTable, IsTable}
use Rattle.tables.proofs.Known.{known, stored_is}
use Rattle.tables.proofs.Compiling.{IsRead}
use Rattle.tables.specs.Rows.{cells, columns_cmp, rows_of, begins_with, Finds, HasNoRecord, AreNumbered, IsStored}
use Rattle.tables.specs.Calls.{Stops, HasStepLimit, Loaded, IsInOrder, GivesNoRows}
use Rattle.tables.specs.Faults.{table_fault_of}
use Rattle.tables.specs.Texts.{HasInvalid, HasShown, IsUnnumbered, ShowsNumbered, ShowsUnordered, Unloaded, rises, rises_from}
use Rattle.tables.specs.declared.table_fault.TableFault.{TableFault}
use Rattle.tables.specs.declared.table_fault.TableFault.TheVariants.{NotARecord}
use Rattle.tables.proofs.Answering.{plain_query, answer_ordered, has_permuted}
use Rattle.tables.proofs.Apart.{distinct_places}
use Rattle.tables.proofs.Deleting.{equal_is}
use Rattle.tables.proofs.Refusing.{suits}
use Rattle.tables.proofs.Selecting.{projected, shown_cells, answered, shows_invalid, unread, unread_as, map_same}

-- ---- numbers that rise differ

abbrev same_first : Row → Row → Bool
same_first x y = is_eq (value_cmp (column x 0) (column y 0))

abbrev pub one_number : ℤ → Row
one_number n = Int n ∷ []

less_unlike : (o : Ordering) → is_lt o ≡ true → is_eq o ≡ false
less_unlike Less h = refl
less_unlike Equal h = absurd (cc)
less_unlike Greater h = absurd (cc)

unlike : (a b : ℤ) → is_lt (int_cmp a b) ≡ true → same_first (one_number a) (one_number b) ≡ false
unlike a b h = ap is_eq (value_cmp-Int a b) ∙ less_unlike _ h

less_less : (a b c : ℤ) → is_lt (int_cmp a b) ≡ true → is_lt (int_cmp b c) ≡ true → is_lt (int_cmp a c) ≡ true
less_less a b c h k = grind (arith, ints, nat_tests)

rises_above : (last low : ℤ) (ns : List ℤ) → is_lt (int_cmp low last) ≡ true → rises_from last ns ≡ true → AllByRecursion (λ y. same_first (one_number low) y ≡ false) (map one_number ns)
rises_above last low [] h rise = tt
rises_above last low (m ∷ ns) h rise =
    let parts = and_parts (is_lt (int_cmp last m)) (rises_from m ns) rise in
    let more = less_less low last m h parts.0 in
    (unlike low m more, rises_above m low ns more parts.1)

rising_differ : (ns : List ℤ) → rises ns ≡ true → IsDistinct same_first (map one_number ns)
unfolding IsDistinct
rising_differ [] h = tt
rising_differ (n ∷ []) h = (tt, tt)
rising_differ (n ∷ m ∷ ns) h =
    let parts = and_parts (is_lt (int_cmp n m)) (rises_from m ns) h in
    ((unlike n m parts.0, rises_above m n ns parts.0 parts.1), rising_differ (m ∷ ns) parts.1)

same_flips : (x y : Row) → same_first x y ≡ same_first y x
same_flips x y = elim (cases_Bool (same_first x y)) [
  | inl one ↦ one ∙ sym (ap is_eq (tied_back value_cmp_total (column x 0) (column y 0) (equal_is _ one)))
  | inr differ ↦ elim (cases_Bool (same_first y x)) [
    | inl one ↦ absurd (let e = ap is_eq (tied_back value_cmp_total (column y 0) (column x 0) (equal_is _ one)) in cc)
    | inr also ↦ differ ∙ sym also
  ]
]

-- the rows of a table whose numbers are shown in rising order
module _ (rows : List Row) (ns : List ℤ) (shown : IsPermutation (map (λ (r : Row). rowid r ∷ []) rows) (map one_number ns)) (rise : rises ns ≡ true) where
  abbrev number_of : Row → Row
  number_of r = rowid r ∷ []

  differ : IsDistinct same_first (map number_of rows)
  differ = IsDistinct-IsPermutation same_first same_flips (map one_number ns) (map number_of rows) (IsPermutation-sym _ _ shown) (rising_differ ns rise)

  pub rising_stored : AreNumbered rows
  rising_stored = record {
    numbered = λ r k.
        let there = has_permuted (map (λ (r : Row). rowid r ∷ []) rows) (map one_number ns) (rowid r ∷ []) shown (mapped_has (λ (r : Row). rowid r ∷ []) rows r k) in
        let n = has_mapped one_number ns (rowid r ∷ []) there in
        let is : rowid r ≡ Int n.0 = ap rowid n.2 in rw is;
    apart = distinct_places same_first number_of (λ a b tie. ap is_eq tie) rows differ;
  }

-- ---- numbers in order that differ rise

then_equal : (o : Ordering) → ordering_then o Equal ≡ o
then_equal Less = refl
then_equal Equal = refl
then_equal Greater = refl

not_below : (a b : ℤ) → is_lt (int_cmp b a) ≡ false → is_eq (int_cmp a b) ≡ false → is_lt (int_cmp a b) ≡ true
not_below a b low differ = grind (arith, ints, nat_tests)

abbrev pub numbered_row : ℤ × Row → Row
numbered_row it = Int it.0 ∷ it.1

abbrev by_first : Row → Row → Ordering
by_first = columns_cmp 1 0

rises_on : (it : ℤ × Row) (all : List (ℤ × Row)) → IsSorted by_first (numbered_row it ∷ map numbered_row all) → IsDistinct same_first (one_number it.0 ∷ map one_number (map (λ it. it.0) all))
    → rises_from it.0 (map (λ it. it.0) all) ≡ true
unfolding IsDistinct
rises_on it [] sorted differ = refl
rises_on it (other ∷ all) sorted differ =
    let compared : is_lt (by_first (numbered_row other) (numbered_row it)) ≡ false = sorted 0 (numbered_row it) (omega arith) (omega arith) in
    let low : is_lt (int_cmp other.0 it.0) ≡ false = ap is_lt (sym (then_equal (value_cmp (Int other.0) (Int it.0)) ∙ value_cmp-Int other.0 it.0)) ∙ compared in
    let apart : is_eq (int_cmp it.0 other.0) ≡ false = ap is_eq (sym (value_cmp-Int it.0 other.0)) ∙ differ.0.0 in
    and_from _ _ (not_below it.0 other.0 low apart) (rises_on other all (λ k d at within.
    let next : suc k + 1 ≡ suc (k + 1) = omega arith in
    let rows = numbered_row other ∷ map numbered_row all in
    subst (λ n. is_lt (by_first (slice_index_or (numbered_row it ∷ rows) n d) (slice_index_or rows k d)) ≡ false) next (sorted (suc k) d (omega arith) (omega (arith, within)))) differ.1)

sorted_rises : (all : List (ℤ × Row)) → IsSorted by_first (map numbered_row all) → IsDistinct same_first (map one_number (map (λ it. it.0) all)) → rises (map (λ it. it.0) all) ≡ true
sorted_rises [] sorted differ = refl
sorted_rises (it ∷ all) sorted differ = rises_on it all sorted differ

ascending_differ : (rows : List Row) → IsAscending (λ a b. value_cmp (rowid a) (rowid b) ≡ Less) rows → IsDistinct same_first (map (λ (r : Row). rowid r ∷ []) rows)
unfolding IsDistinct
ascending_differ [] up = tt
ascending_differ (r ∷ rows) up = (
  all_from _ (map (λ (x : Row). rowid x ∷ []) rows) (λ y h.
      let it = has_mapped (λ (x : Row). rowid x ∷ []) rows y h in
      let below : value_cmp (rowid r) (rowid it.0) ≡ Less = all_has _ rows it.0 up.0 it.1 in
      ap (λ (x : Row). is_eq (value_cmp (rowid r) (column x 0))) it.2 ∙ ap is_eq below),
  ascending_differ rows up.1,
)

int_is : (v : Value) → IsTrue (is_int v) → IsInt v
int_is Null h = absurd (cc)
int_is (Int n) h = (n, refl)
int_is (Real x) h = absurd (cc)
int_is (Text t) h = absurd (cc)
int_is (Blob b) h = absurd (cc)

-- ---- the whole table

abbrev pub by_number : List (Term × Key)
by_number = (col 1 0, ascending Binary) ∷ []

pub record Loader (text : List ℕ) (kept : BookTable) (old : State) : Type 1 where
  pub plain : IsPlain (understood old.now.schema text)
  pub loaded : (new : State) (rows : List Row) → ShowsNumbered text old new rows → Finds kept (begins_with []) old.now rows × IsStored kept old.now
  pub stops : (new : State) (e : Error) → FailsToQuery text [] old new e → Stops ⊥ (HasStepLimit old) old new (table_fault_of e)
  pub invalid : (IsRecord : Row → Type 0) → HasInvalid (λ values. IsRecord (drop 1 values)) text [] old → HasNoRecord kept (begins_with []) IsRecord old.now
  pub unordered : (new : State) → ShowsUnordered text old new → ¬ IsInOrder kept old.now
  pub unnumbered : HasShown (λ values. ¬ IsInt (column values 0)) text [] old → ¬ IsInOrder kept old.now

all_pass : {X : Type 0} (xs : List X) → filter (λ x. true) xs ≡ xs
all_pass [] = refl
all_pass (x ∷ xs) = ap (λ l. x ∷ l) (all_pass xs)

module _ (kept : BookTable) (text : List ℕ) (names : List (List ℕ))
    {count : ℕ} (read : IsRead kept text count (λ _ tree. Select (record { lets = []; body = plain_query tree [] (projected (suc (length kept.columns)) 0) by_number }) names))
    (given : count ≡ 0) (fits : suits kept [] (projected (suc (length kept.columns)) 0) by_number [] ≡ true)
    (old : State) (there : IsTable kept old.now.schema) where
  abbrev stored : List Row
  stored = old.now.trees there.tree

  is_stored : Rattle.tables.specs.Rows.stored kept old.now ≡ stored
  is_stored = stored_is kept old.now.schema there old.now refl

  abbrev shown : Row → Row
  shown r = rowid r ∷ cells kept r

  shows : (r : Row) → eval_all (projected (suc (length kept.columns)) 0) ([] ∷ r ∷ []) ≡ shown r
  shows = shown_cells (suc (length kept.columns)) 0 []

  found : (new : State) (all : List (ℤ × Row)) → Shown text [] old new (map (λ it. Int it.0 ∷ it.1) all) → IsPermutation (map shown stored) (map (λ it. Int it.0 ∷ it.1) all)
  found new all h =
      subst (λ l. IsPermutation (map shown l) (map (λ it. Int it.0 ∷ it.1) all)) (all_pass stored)
      (answered kept [] (projected (suc (length kept.columns)) 0) by_number text names read [] (λ _. true) (λ _. refl) shown shows old there new _ h)

  numbers : (new : State) (all : List (ℤ × Row)) → Shown text [] old new (map (λ it. Int it.0 ∷ it.1) all) → IsPermutation (map (λ (r : Row). rowid r ∷ []) stored) (map one_number (map (λ (it : ℤ × Row). it.0) all))
  numbers new all h =
      let first = λ (x : Row). rowid x ∷ [] in
      subst (λ l. IsPermutation (map (λ (r : Row). rowid r ∷ []) stored) l) (map-map first (λ (it : ℤ × Row). Int it.0 ∷ it.1) all ∙ sym (map-map one_number (λ (it : ℤ × Row). it.0) all))
      (subst (λ l. IsPermutation l (map first (map (λ (it : ℤ × Row). Int it.0 ∷ it.1) all))) (map-map first shown stored) (IsPermutation-map first _ _ (found new all h)))

  -- the answer is in the order of the numbers
  sorted : (new : State) (all : List (ℤ × Row)) → Shown text [] old new (map (λ it. Int it.0 ∷ it.1) all) → IsSorted by_first (map (λ it. Int it.0 ∷ it.1) all)
  sorted new all h =
      let facts = known kept old.now.schema there in
      let rows = map (λ (it : ℤ × Row). Int it.0 ∷ it.1) all in
      let answers = reads_as text [] old new old.now.schema refl _ (read.is _ _ _ facts) (read.plain _ _ _ facts) (read.unlisted _ _ _ facts) rows h in
      let given = answer_ordered there.tree [] (projected (suc (length kept.columns)) 0) by_number (overlay old.now.trees []) [] rows (answers.answer Null) in
      let each = λ (r : Row). eval_all (projected (suc (length kept.columns)) 0) ([] ∷ r ∷ []) in
      subst (IsSorted by_first) (sym (given.1 ∙ map_same each shown shows given.0)) (IsSorted-map by_first shown given.0 given.2)

  in_order : (new : State) → ShowsUnordered text old new → ¬ IsInOrder kept old.now
  in_order new h order =
      let up = (subst (IsShaped shape.Table) is_stored order).0 in
      let differ = IsDistinct-IsPermutation same_first same_flips (map (λ (r : Row). rowid r ∷ []) stored) (map one_number (map (λ (it : ℤ × Row). it.0) h.0)) (numbers new h.0 h.1) (ascending_differ stored up) in
      let rise = sorted_rises h.0 (sorted new h.0 h.1) differ in
      absurd (let no = h.2 in cc)

  all_numbered : HasShown (λ values. ¬ IsInt (column values 0)) text [] old → ¬ IsInOrder kept old.now
  all_numbered h order =
      let r = shows_invalid kept [] (projected (suc (length kept.columns)) 0) by_number text names read [] (λ _. true) (λ _. refl) shown shows old there (λ values. IsInt (column values 0)) h in
      let ints = (subst (IsShaped shape.Table) is_stored order).1 in
      r.3 (int_is (rowid r.0) (all_has _ stored r.0 ints r.1))

  pub loader : Loader text kept old
  loader = record {
    plain = read.plain _ _ _ (known kept old.now.schema there);
    loaded = λ new rows h.
        let all = h.0 in
        let same = found new all h.1 in
        let records : IsPermutation (map (cells kept) stored) (map (λ it. it.1) all) =
        subst (λ l. IsPermutation (map (cells kept) stored) l) (map-map (drop 1) (λ (it : ℤ × Row). Int it.0 ∷ it.1) all)
        (subst (λ l. IsPermutation l (map (drop 1) (map (λ (it : ℤ × Row). Int it.0 ∷ it.1) all))) (map-map (drop 1) shown stored) (IsPermutation-map (drop 1) _ _ same)) in (
          subst (IsPermutation (filter (begins_with []) (rows_of kept old.now))) h.3
              (subst (λ l. IsPermutation l (map (λ it. it.1) all)) (ap (map (cells kept)) (sym is_stored) ∙ sym (all_pass (rows_of kept old.now))) records),
          subst AreNumbered (sym is_stored) (rising_stored stored _ (numbers new all h.1) h.2),
        );
    stops = unread kept [] (projected (suc (length kept.columns)) 0) by_number text names read [] (λ _. true) (λ _. refl) shown shows old there given fits;
    invalid = λ IsRecord h.
        let r = shows_invalid kept [] (projected (suc (length kept.columns)) 0) by_number text names read [] (λ _. true) (λ _. refl) shown shows old there (λ values. IsRecord (drop 1 values)) h in
        (cells kept r.0, subst (λ l. Has (map (cells kept) l) (cells kept r.0)) (sym is_stored) (mapped_has (cells kept) stored r.0 r.1), refl, r.3);
    unordered = in_order;
    unnumbered = all_numbered;
  }

-- ---- from the clauses of `load` to those of a function

module _ {text : List ℕ} {kept : BookTable} {B : Type 0} (old new : State) (owed : HasCleanDisk old → B) (reads : B → Loader text kept old) {X : Trees → Type 0} (survives : Survives old new X) where
  pub loaded_by : {A R : Type 0} (row : R → Row) (IsRecord : Row → Type 0) (items : A → List R) (result : Result A TableFault)
      → (HasCleanDisk new → IfOk result (λ all. ShowsNumbered text old new (map row (items all)))) → (HasCleanDisk new → OnOk result (IsUnchanged old new)) → (HasCleanDisk new → IfErr result (Unloaded (λ _. ⊥) text old new))
      → (HasCleanDisk new → result ≡ Err NotARecord → HasInvalid (λ values. IsRecord (drop 1 values)) text [] old) → Loaded kept IsRecord (λ all. map row (items all)) old new result
  loaded_by row IsRecord items (Ok all) found same err damaged clean = ((reads (owed (omega (arith, survives.clean)))).loaded new (map row (items all)) (found clean), same clean)
  loaded_by row IsRecord items (Err fault) found same err damaged clean =
      let loads = reads (owed (omega (arith, survives.clean))) in
      elim (err clean) [
        | inl failed ↦ unread_as text [] old new (HasStepLimit old ⊎ ¬ IsInOrder kept old.now) _ (IsUnnumbered (λ _. ⊥)) fault (loads.stops new) inl
            (λ h. inr (loads.unnumbered (h.0, h.1, h.2, elim h.3 [ inl other ↦ other | inr none ↦ absurd none ])))
            failed (λ e. loads.invalid IsRecord (damaged clean (ap Err e)))
        | inr own ↦ inr (own.0, subst (GivesNoRows (HasStepLimit old ⊎ ¬ IsInOrder kept old.now) _) (sym own.1) (inr (loads.unordered new own.2)))
      ]
