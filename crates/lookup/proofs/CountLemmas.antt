-- The requests that are counted are those of the state.
use Rattle.std.proofs.Common.{◌≡◌, inl, inr, refl, sym, ap, subst, ◌∙◌, arith, ℕ, ℤ, pos, ◌+◌, ◌<◌, ◌≤◌, ◌≤ℤ◌, Bool, true, false, true≢false, List, [], ◌∷◌, length, Option, Some, None, IsSome, IsTrue, cond, Result, Ok, Err, ◌&&◌, nat_le}
use Rattle.std.specs.Prelude.{is_some, if◌then◌else◌}
use Rattle.std.specs.FinMap as fin
use Rattle.std.specs.Ordering.{eq_by_cmp}
use Rattle.std.specs.Cmp.Lexicographic.{nat_list_cmp_total}
use Rattle.std.proofs.lemmas.Bool.{cases_Bool, and_parts, and_from, both_ways}
use Rattle.std.proofs.lemmas.Bool.Decides.{nat_tests}
use Rattle.std.proofs.lemmas.Int.{ints}
use Rattle.values.specs.Name.{name_cmp}
use Rattle.values.proofs.Names.{alike, itself}
use Rattle.sqlite_value.specs.Order.{Row, column}
use Rattle.sqlite_value.specs.declared.value.Value.TheVariants.{Int}
use Rattle.sqlite_trees.specs.Tree.{IsAscending}
use Rattle.sqlite_rules.specs.Lists.{Has}
use Rattle.sqlite_rules.proofs.ListLemmas.{all_has}
use Rattle.sqlite.specs.Effect.{Database}
use Rattle.sqlite.specs.State.{State, HasCleanDisk}
use Rattle.request.specs.Range.{is_in_range}
use Rattle.command.specs.Keys.{KeyParts, key_name}
use Rattle.roster.specs.Sound.{Sound}
use Rattle.roster.specs.State as roster
use Rattle.roster.specs.declared.state.LoggedCommand.{LoggedCommand}
use Rattle.tables.proofs.KeyLemmas.{AreOfTwoKeys, requests_apart}
use Rattle.tables.specs.Calls.{CrashLeavesNoMore, HasStepLimit, ReadAs}
use Rattle.tables.specs.Records.{IsRequestRow}
use Rattle.tables.specs.Rows.{HasNoRecord, begins_with, rows_of}
use Rattle.tables.specs.Schema.{request_table}
use Rattle.tables.specs.Tally.{IsHighestAt, IsTally}
use Rattle.tables.specs.declared.request.RequestTally.{RequestTally}
use Rattle.tables.specs.declared.table_fault.TableFault.{TableFault}
use Rattle.state_rows.specs.Faults.{store_fault_of}
use Rattle.state_rows.specs.Rows.{request, outside_segment, InRequest, RequestAt, row_of_request}
use Rattle.state_rows.specs.declared.fault.StoreFault.{StoreFault}
use Rattle.state_rows.proofs.EachTable.{is_there}
use Rattle.state_rows.proofs.Lists.{one_value, same_map}
use Rattle.state_rows.proofs.Tests.{passes}
use Rattle.state_rows.proofs.Values.{int_is, number_is}
use Rattle.state_rows.specs.Kept.{IsBookOf}
use Rattle.state_rows.specs.Outcomes.{IsOutside}
use Rattle.entries.specs.Right.{AreRight}
use Rattle.lookup.specs.Count.{IsAboveAll, IsNumberAfter, IsCount, IsCountOf, IsNextNumber, ReadsTally}
use Rattle.lookup.specs.declared.count.RequestCount.{RequestCount}
use Rattle.lookup.proofs.Causes.{read_cause}
use Rattle.lookup.proofs.RequestLemmas.{keys_same}
use Rattle.lookup.proofs.RightRows.{records_of, requests_right}
use Rattle.lookup.proofs.ReadLemmas.{stays}

-- ---- The call

module _ (old new : State) (left : CrashLeavesNoMore old new) (outside : IsOutside old) (same : HasCleanDisk old → IsTrue old.is_open → old.now ≡ old.committed) where
  abbrev IsDamaged : Database → Type 0
  IsDamaged = HasNoRecord request_table (begins_with []) IsRequestRow

  abbrev Counted : Result RequestTally TableFault → Type 0
  Counted = ReadAs IsTally IsDamaged (HasStepLimit old) old new

  pub was_counted : (it : RequestTally) → Counted (Ok it) → ReadsTally old new (Ok it)
  was_counted it read = record {
    stays = stays IsTally IsDamaged (HasStepLimit old) old new left outside same (Ok it) read;
    told = λ clean. ((read clean).1, (read clean).0);
    caused = tt;
  }

  pub not_counted : (fault : TableFault) (told : StoreFault) → Counted (Err fault) → told ≡ store_fault_of fault → ReadsTally old new (Err told)
  not_counted fault told read of_fault = record {
    stays = stays IsTally IsDamaged (HasStepLimit old) old new left outside same (Err fault) read;
    told = λ clean. tt;
    caused = λ clean is. read_cause IsTally IsDamaged old new fault (records_of request old.now (begins_with [])) read clean (sym of_fault ∙ is);
  }

-- ---- Tests of numbers

at_least : (m n : ℕ) → nat_le m n ≡ true → m ≤ n
at_least m n test = grind (arith, nat_tests)

as_test : (m n : ℕ) → m ≤ n → nat_le m n ≡ true
as_test m n low = grind (arith, nat_tests)

-- ---- How many

abbrev Requests : Type 0
Requests = fin.FinMap name_cmp LoggedCommand

-- the row of a key begins with the key
of_key : (key : KeyParts) (kept : LoggedCommand) → begins_with (Int (pos key.number) ∷ Int (pos key.part) ∷ []) (row_of_request key kept) ≡ true
of_key key kept = passes (Int (pos key.number) ∷ Int (pos key.part) ∷ []) (row_of_request key kept) (refl, (refl, tt))

key_of_row : (key other : KeyParts) (v w : LoggedCommand) → row_of_request key v ≡ row_of_request other w → key ≡ other
key_of_row key other v w is =
    let at_column = λ (k : ℕ). ap (λ (row : Row). column row k) is in
    let number : key.number ≡ other.number = number_is (at_column 0) in
    let part : key.part ≡ other.part = number_is (at_column 1) in
    λ i. record { number = number i; part = part i }

-- what some rows give, which are each of a key that is held
record Gathered (m : Requests) (rows : List Row) : Type 0 where
  pub all : Requests
  pub long : fin.len all ≡ length rows
  pub from : (q : List ℕ) (v : LoggedCommand) → fin.get all q ≡ Some v → (fin.get m q ≡ Some v) × (key : KeyParts) × (q ≡ key_name key) × Has rows (row_of_request key v)
  pub has : (at : RequestAt m) → Has rows (row_of_request at.key at.kept) → fin.get all (key_name at.key) ≡ Some at.kept

module _ (m : Requests) where
  no_rows : Gathered m []
  no_rows = record {
    all = fin.empty;
    long = fin.len-empty name_cmp LoggedCommand;
    from = λ q v e. absurd (let f = sym (fin.get-empty name_cmp q) ∙ e in cc);
    has = λ at h. absurd h;
  }

  module _ (x : Row) (rows : List Row) (at : RequestAt m) (is : x ≡ row_of_request at.key at.kept) (apart : (y : Row) → Has rows y → AreOfTwoKeys x y) (rest : Gathered m rows) where
    abbrev name : List ℕ
    name = key_name at.key

    grown : (q : List ℕ) → fin.get (fin.insert rest.all name at.kept) q ≡ cond (eq_by_cmp name_cmp q name) (Some at.kept) (fin.get rest.all q)
    grown q = fin.get-insert nat_list_cmp_total rest.all name at.kept q

    not_yet : (o : Option LoggedCommand) → fin.get rest.all name ≡ o → is_some o ≡ false
    not_yet None e = refl
    not_yet (Some v) e =
        let it = rest.from name v e in
        let key = it.1 in
        let other = keys_same at.key key it.2 in
        absurd (apart (row_of_request key v) it.3 (pos at.key.number) (pos at.key.part) (ap (begins_with (Int (pos at.key.number) ∷ Int (pos at.key.part) ∷ [])) is ∙ of_key at.key at.kept)
        (subst (λ (k : KeyParts). begins_with (Int (pos k.number) ∷ Int (pos k.part) ∷ []) (row_of_request key v) ≡ true) (sym other) (of_key key v)))

    one_more : Gathered m (x ∷ rows)
    one_more = record {
      all = fin.insert rest.all name at.kept;
      long =
          let free = not_yet (fin.get rest.all name) refl in
          let n = fin.len-insert nat_list_cmp_total rest.all name at.kept ∙ ap (λ b. cond b (fin.len rest.all) (fin.len rest.all + 1)) free in
          omega (arith, n, rest.long);
      from = λ q v e. elim (cases_Bool (eq_by_cmp name_cmp q name)) [
        | inl tied ↦
            let here : q ≡ name = alike q name tied in
            let value : Some at.kept ≡ Some v = ap (λ t. cond t (Some at.kept) (fin.get rest.all q)) (sym tied) ∙ sym (grown q) ∙ e in
            let same : at.kept ≡ v = one_value refl value in
            (ap (fin.get m) here ∙ at.there ∙ value, at.key, here, inl (sym (is ∙ ap (row_of_request at.key) same)))
        | inr other ↦
            let was = rest.from q v (ap (λ t. cond t (Some at.kept) (fin.get rest.all q)) (sym other) ∙ sym (grown q) ∙ e) in
            (was.0, was.1, was.2, inr was.3)
      ];
      has = λ other h. elim (cases_Bool (eq_by_cmp name_cmp (key_name other.key) name)) [
        | inl tied ↦
            let here : key_name other.key ≡ name = alike (key_name other.key) name tied in
            grown (key_name other.key) ∙ ap (λ t. cond t (Some at.kept) (fin.get rest.all (key_name other.key))) tied ∙ sym at.there ∙ ap (fin.get m) (sym here) ∙ other.there
        | inr differs ↦ elim h [
          | inl same ↦
              let one = key_of_row other.key at.key other.kept at.kept (same ∙ is) in
              absurd (true≢false (sym (itself (key_name other.key) name (ap key_name one)) ∙ differs))
          | inr later ↦ grown (key_name other.key) ∙ ap (λ t. cond t (Some at.kept) (fin.get rest.all (key_name other.key))) differs ∙ rest.has other later
        ]
      ];
    }

  gathered : (rows : List Row) → ((x : Row) → Has rows x → (at : RequestAt m) × (x ≡ row_of_request at.key at.kept)) → IsAscending AreOfTwoKeys rows → Gathered m rows
  gathered [] each up = no_rows
  gathered (x ∷ rows) each up =
      let first = each x (inl refl) in
      one_more x rows first.0 first.1 (λ y h. all_has (AreOfTwoKeys x) rows y up.0 h) (gathered rows (λ y h. each y (inr h)) up.1)

module _ (s : roster.State) (sound : Sound s) (db : Database) (is_book : IsBookOf s db) where
  abbrev rows : List Row
  rows = rows_of request_table db

  held : (x : Row) → Has rows x → InRequest s x
  held x h = (is_book.rows request x).0 h

  row_there : (at : RequestAt s.requests) → Has rows (row_of_request at.key at.kept)
  row_there at = (is_book.rows request (row_of_request at.key at.kept)).1 (at, refl)

  all : Gathered s.requests rows
  all = gathered s.requests rows held (requests_apart db is_book.database (is_there db.schema is_book.tables request) (is_book.stored request))

  all_are : all.all ≡ s.requests
  all_are = same_map all.all s.requests (λ q v e. (all.from q v e).0) (λ q v e.
      let x = sound.requests q v e in
      let at : RequestAt s.requests = record { key = x.key; kept = v; there = ap (fin.get s.requests) (sym x.known_by) ∙ e } in
      ap (fin.get all.all) x.known_by ∙ all.has at (row_there at))

  kept_are : length rows ≡ fin.len s.requests
  kept_are = sym all.long ∙ ap fin.len all_are

  -- ---- Which number is free

  -- a key that is held has its number in a row
  held_number : (key : KeyParts) (o : Option LoggedCommand) → fin.get s.requests (key_name key) ≡ o → IsSome o → (x : Row) × Has rows x × (column x 0 ≡ Int (pos key.number))
  held_number key None e some = absurd (cc)
  held_number key (Some v) e some = let at : RequestAt s.requests = record { key = key; kept = v; there = e } in (row_of_request key v, row_there at, refl)

  -- a number in a row is that of a key that is held
  number_held : (x : Row) (n : ℕ) → Has rows x → column x 0 ≡ Int (pos n) → (number : ℕ) → IsAboveAll s number → n < number
  number_held x n h first number above =
      let at = held x h in
      let same : n ≡ at.0.key.number = number_is (sym first ∙ ap (λ (row : Row). column row 0) at.1) in
      subst (λ k. k < number) (sym same) (above at.0.key (subst (λ o. IsSome o) (sym at.0.there) refl))

  none_above : (number : ℕ) → IsHighestAt 0 rows None → IsAboveAll s number
  none_above number none key some = let x = held_number key _ refl some in absurd (none x.0 (pos key.number) x.1 x.2)

  next_above : (last : ℕ) → IsHighestAt 0 rows (Some (pos last)) → IsAboveAll s (last + 1)
  next_above last highest key some =
      let x = held_number key _ refl some in
      let low : pos key.number ≤ℤ pos last = highest.1 x.0 (pos key.number) x.1 x.2 in
      omega (arith, ints, low)

  next_lowest : (last : ℕ) → IsHighestAt 0 rows (Some (pos last)) → (number : ℕ) → IsAboveAll s number → last + 1 ≤ number
  next_lowest last highest number above = let low = number_held highest.0.0 last highest.0.1 highest.0.2 number above in omega (arith, low)

  first_in : (n : ℕ) → is_in_range n ≡ true → 1 ≤ n
  first_in n range = at_least 1 n (and_parts (nat_le 1 n) (nat_le n 9_223_372_036_854_775_807) range).0

  still_in : (low n : ℕ) → 1 ≤ low → low ≤ n → is_in_range n ≡ true → is_in_range low ≡ true
  still_in low n above below range =
      let high = at_least n 9_223_372_036_854_775_807 (and_parts (nat_le 1 n) (nat_le n 9_223_372_036_854_775_807) range).1 in
      and_from (nat_le 1 low) (nat_le low 9_223_372_036_854_775_807) (as_test 1 low above) (as_test low 9_223_372_036_854_775_807 (omega (arith, below, high)))

  next_is : (o : Option ℤ) (next : Option ℕ) → IsHighestAt 0 rows o → IsNumberAfter o next → IsNextNumber s next
  next_is None next highest after = subst (IsNextNumber s) (sym after) (refl, none_above 1 highest, λ m range _. first_in m range)
  next_is (Some top) next highest (last, is, after) =
      let at_last = subst (λ n. IsHighestAt 0 rows (Some n)) is highest in
      elim (cases_Bool (is_in_range (last + 1))) [
        | inl range ↦ subst (IsNextNumber s) (sym (after ∙ ap (λ b. if b then Some (last + 1) else None) range)) (range, next_above last at_last, λ m _ above. next_lowest last at_last m above)
        | inr out ↦
            subst (IsNextNumber s) (sym (after ∙ ap (λ b. if b then Some (last + 1) else None) out))
            (λ n range above. both_ways _ out (still_in (last + 1) n (omega arith) (next_lowest last at_last n above) range))
      ]

  pub count_is : (it : RequestTally) → IsTally db it → (count : RequestCount) → IsCountOf it count → IsCount s count
  count_is it tally count made = record { kept = made.0 ∙ tally.kept ∙ kept_are; next = next_is it.highest count.next tally.highest made.1 }

-- ---- Where the tables are right there is a count

module _ (db : Database) (right : AreRight outside_segment db) where
  after_there : (o : Option ℤ) → IsHighestAt 0 (rows_of request_table db) o → (next : Option ℕ) × IsNumberAfter o next
  after_there None highest = (Some 1, refl)
  after_there (Some n) highest =
      let at = ((requests_right db right).1.1.1 highest.0.0).0 highest.0.1 in
      let number = at.0.key.number in
      let is : n ≡ pos number = int_is (sym highest.0.2 ∙ ap (λ (row : Row). column row 0) at.1) in
      ((if is_in_range (number + 1) then Some (number + 1) else None), (number, is, refl))

  pub count_there : (it : RequestTally) → IsTally db it → (count : RequestCount) × IsCountOf it count
  count_there it tally = let next = after_there it.highest tally.highest in (record { kept = it.kept; next = next.0 }, (refl, next.1))
