-- SELECT of the periods of a member's pairings.
use Rattle.std.proofs.Common.{◌≡◌, ◌⊎◌, ◌&&◌, ◌++◌, not, inl, inr, ℕ, Bool, true, false, true≢false, List, [], ◌∷◌, cond, map, filter, flat_map, length, codes, Option, Some, None, Ok, Err, Result, IsTrue, IsSome, IsPermutation, IfOk, IfErr, OnOk, refl, sym, ap, ap₂, subst, ◌∙◌, arith}
use Rattle.std.specs.List.{list_all}
use Rattle.std.proofs.lemmas.Bool.{cases_Bool}
use Rattle.std.proofs.lemmas.List.{map-append}
use Rattle.std.proofs.lemmas.List.Sorted.{IsPermutation-map, IsPermutation-sym}
use Rattle.sqlite_value.specs.declared.keys.Collation.TheVariants.{Binary}
use Rattle.sqlite_value.specs.declared.value.Value.{Value}
use Rattle.sqlite_value.specs.declared.value.Value.TheVariants.{Null, Int, Real, Text, Blob}
use Rattle.sqlite_value.specs.Order.{Row, column, value_cmp}
use Rattle.sqlite_trees.specs.Tree.{Trees}
use Rattle.sqlite_trees.proofs.ListLemmas.{map-map}
use Rattle.sqlite_ast.specs.declared.Statement.TheVariants as written
use Rattle.sqlite_schema.specs.declared.command.Command.TheVariants.{Select}
use Rattle.sqlite_schema.specs.declared.schema.Schema.{Schema}
use Rattle.sqlite_sql.specs.declared.ops.BinaryOp.TheVariants.{Compare}
use Rattle.sqlite_sql.specs.declared.ops.CompareOp.TheVariants.{Eq}
use Rattle.sqlite_sql.specs.Ops.{binary, is_null, is_true}
use Rattle.sqlite_sql.specs.Term.{Env, eval_all, holds}
use Rattle.sqlite_sql.specs.Query.{Output, output, matches, inner, end, IsAnswer}
use Rattle.sqlite_sql.specs.Program.{overlay}
use Rattle.sqlite_resolve.specs.Compile as compile
use Rattle.sqlite_typing.specs.Types.{accepts_program}
use Rattle.sqlite_tied.specs.Compute.{everything}
use Rattle.sqlite_rules.specs.Lists.{Has}
use Rattle.sqlite_rules.proofs.ListLemmas.{any_has, has_either, has_filtered, has_left, has_right}
use Rattle.sqlite.specs.Effect.{Database, RefusesQuery}
use Rattle.sqlite.specs.Listing.{understood, reads_listing}
use Rattle.sqlite.specs.State.{State, HasCleanDisk, IsUnchanged, Shown, FailsToQuery, Survives}
use Rattle.sqlite.specs.declared.error.Error.{Error}
use Rattle.sqlite.proofs.Callers.{IsPlain, begins_as, command_of, one_permutation, reads_as}
use Rattle.tables.specs.Schema.{IsTable, period_table, seat_table}
use Rattle.tables.specs.Rows.{cells, rows_of}
use Rattle.tables.specs.Held.{equals, is_of_seat, FindsHeld, HasNoHeldRecord}
use Rattle.tables.specs.Calls.{Failed, Stops, HasStepLimit, GivesNoRows, ReadAs}
use Rattle.tables.specs.Texts.{FailsToRead, HasInvalid, IsBare}
use Rattle.tables.specs.Faults.{table_fault_of}
use Rattle.tables.specs.declared.table_fault.TableFault.{TableFault}
use Rattle.tables.specs.declared.table_fault.TableFault.TheVariants.{Store, NotARecord}
use Rattle.tables.proofs.Answering.{compared, has_permuted, overlay_is}
use Rattle.tables.proofs.Compiling.{IsParsed, compiled_is, is_bare}
use Rattle.tables.proofs.HeldMeant.{held_filter, held_names, held_query, held_select, read_is}
use Rattle.tables.proofs.Known.{Known, known, place, stored_is}
use Rattle.tables.proofs.Selecting.{opened_or_failed, unanswered_by, unread_as}
use Rattle.tables.proofs.Stopping.{IsWhole}

-- ---- what an answer holds

equal_is : (a b : Value) → is_true (binary (Compare Eq Binary) a b) ≡ equals a b
unfolding binary
equal_is Null Null = refl
equal_is (Int n) Null = refl
equal_is (Real n) Null = refl
equal_is (Text n) Null = refl
equal_is (Blob n) Null = refl
equal_is a (Int n) = compared a (Int n) refl
equal_is a (Real n) = compared a (Real n) refl
equal_is a (Text n) = compared a (Text n) refl
equal_is a (Blob n) = compared a (Blob n) refl

and_nothing : (b : Bool) → (b && true) ≡ b
and_nothing true = refl
and_nothing false = refl

mapped_over : {X Y Z : Type 0} (f : X → Y) (g : Y → List Z) (xs : List X) → flat_map g (map f xs) ≡ flat_map (λ x. g (f x)) xs
mapped_over f g [] = refl
mapped_over f g (x ∷ xs) = ap (λ l. g (f x) ++ l) (mapped_over f g xs)

has_of_many : {X Y : Type 0} (f : X → List Y) (xs : List X) (y : Y) → Has (flat_map f xs) y → (x : X) × Has xs x × Has (f x) y
has_of_many f [] y h = absurd h
has_of_many f (x ∷ xs) y h = elim (has_either (f x) (flat_map f xs) y h) [
  | inl here ↦ (x, inl refl, here)
  | inr later ↦ let r = has_of_many f xs y later in (r.0, inr r.1, r.2)
]

abbrev given : List ℕ → Row
given crew = Text crew ∷ []

module _ (crew : List ℕ) where
  abbrev env : Row → Row → Env
  env seat period = given crew ∷ seat ∷ period ∷ []

  abbrev test : Row → Row → Bool
  test seat period = list_all (holds (env seat period)) held_filter

  tests : (seat period : Row) → test seat period ≡ is_of_seat crew (cells seat_table seat) (cells period_table period)
  tests seat period = ap₂ (λ a b. a && b) (equal_is (column period 1) (column seat 1)) (and_nothing _ ∙ equal_is (column seat 3) (Text crew))

  abbrev passing : Row → List Row → List Env
  passing seat = flat_map (λ period. cond (test seat period) (env seat period ∷ []) [])

  shows : (project : Env → Row) → ((seat period : Row) → project (env seat period) ≡ cells period_table period) → (seat : Row) (periods : List Row)
      → map project (passing seat periods) ≡ filter (is_of_seat crew (cells seat_table seat)) (map (cells period_table) periods)
  shows project same seat [] = refl
  shows project same seat (p ∷ ps) = elim (cases_Bool (test seat p)) [
    | inl passes ↦ let also = sym (tests seat p) ∙ passes in rw (passes, also) (ap₂ ◌∷◌ (same seat p) (shows project same seat ps))
    | inr fails ↦ let also = sym (tests seat p) ∙ fails in rw (fails, also) (shows project same seat ps)
  ]

  all_shown : (project : Env → Row) → ((seat period : Row) → project (env seat period) ≡ cells period_table period) → (periods seats : List Row)
      → map project (flat_map (λ seat. passing seat periods) seats) ≡ flat_map (λ seat. filter (is_of_seat crew (cells seat_table seat)) (map (cells period_table) periods)) seats
  all_shown project same periods [] = refl
  all_shown project same periods (s ∷ ss) = map-append project (passing s periods) _ ∙ ap₂ ◌++◌ (shows project same s periods) (all_shown project same periods ss)

  -- the periods of the seats that the member holds
  abbrev those : List Row → List Row → List Row
  those seats periods = flat_map (λ seat. filter (is_of_seat crew seat) (map (cells period_table) periods)) (map (cells seat_table) seats)

  module _ (seats periods : ℕ) (db : Trees) (rows : List Row) (answer : IsAnswer (held_query seats periods) db (given crew) rows) where
    abbrev project : Env → Row
    project = eval_all (held_query seats periods).project

    abbrev all : List Env
    all = matches db held_filter (inner seats (inner periods end)) (given crew ∷ [])

    kept : answer.kept ≡ map (output (held_query seats periods)) all
    kept = answer.distinct ∙ ap (map (output (held_query seats periods))) answer.grouped

    pub answer_held : IsPermutation (those (db seats) (db periods)) rows
    answer_held =
        let shown : map (λ (o : Output). o.1) answer.kept ≡ those (db seats) (db periods) =
        ap (map (λ (o : Output). o.1)) kept ∙ map-map (λ (o : Output). o.1) (output (held_query seats periods)) all
        ∙ all_shown project (λ s p. refl) (db periods) (db seats)
        ∙ sym (mapped_over (cells seat_table) (λ seat. filter (is_of_seat crew seat) (map (cells period_table) (db periods))) (db seats)) in
        subst (λ l. IsPermutation l rows) shown (subst (IsPermutation (map (λ (o : Output). o.1) answer.kept)) (sym answer.shown) (IsPermutation-map (λ (o : Output). o.1) answer.kept answer.ordered answer.same))

-- ---- the text

abbrev pub held_text : List ℕ
held_text = codes "SELECT period.pairing, number, report_at, release_at, act_report, act_release FROM seat JOIN period ON period.pairing = seat.pairing WHERE crew = ?1"

held_parsed : IsParsed held_text 1 (written.Select held_select)
unfolding everything
held_parsed = record { went = refl; is = refl; untimed = refl; ends = refl; given = refl }

pub held_bare : (schema : Schema) → IsBare (understood schema held_text)
unfolding compile.returning compile.timed
held_bare = is_bare held_text 1 (written.Select held_select) held_parsed (λ schema base. refl) (λ schema. refl)

-- what the text is read as, in a schema that has both tables
record IsHeldRead (schema : Schema) (seats periods : ℕ) : Type 0 where
  pub is : command_of (understood schema held_text) ≡ Select (record { lets = []; body = held_query seats periods }) held_names
  pub plain : IsPlain (understood schema held_text)
  pub unlisted : reads_listing schema held_text ≡ false
  pub whole : IsWhole held_text 1 (understood schema held_text)

held_read : (schema : Schema) (seat_at seats period_at periods : ℕ) → Known seat_table schema seat_at seats → Known period_table schema period_at periods → IsHeldRead schema seats periods
unfolding understood compile.command compile.returning compile.timed
held_read schema seat_at seats period_at periods seat period =
    let c = compiled_is schema held_text 1 (written.Select held_select) (Select (record { lets = []; body = held_query seats periods }) held_names) held_parsed
    (λ base. read_is schema seat_at seats period_at periods seat period) (λ base. refl) refl in
    record { is = rw c.1 c.2; plain = rw c.1 (c.3, c.4); unlisted = rw c.1 refl; whole = rw c.1 (c.5, c.6) }

accepted : (crew : List ℕ) (schema : Schema) (seat_at seats period_at periods : ℕ) → Known seat_table schema seat_at seats → Known period_table schema period_at periods
    → accepts_program schema [] (held_query seats periods) (given crew) ≡ true
unfolding everything
accepted crew schema seat_at seats period_at periods seat period = simp (seat.high, seat.by_tree, period.high, period.by_tree) refl

bounded : (crew : List ℕ) (limit : Option ℕ) (db : Database) (seat_at seats period_at periods : ℕ) → Known seat_table db.schema seat_at seats → Known period_table db.schema period_at periods
    → (e : Error) → RefusesQuery limit db (record { lets = []; body = held_query seats periods }) (given crew) e → IsSome limit × (table_fault_of e ≡ Store)
bounded crew limit db seat_at seats period_at periods seat period e (inl h) = absurd (true≢false (sym (accepted crew db.schema seat_at seats period_at periods seat period) ∙ h.1))
bounded crew limit db seat_at seats period_at periods seat period e (inr (inl h)) = elim h.1 [ inl none ↦ absurd none | inr some ↦ absurd (any_has _ _ (any_has _ _ some).2).2 ]
bounded crew limit db seat_at seats period_at periods seat period e (inr (inr h)) = (h.1, ap table_fault_of h.0)

-- what is known of the text, from a state on
pub record HeldReader (crew : List ℕ) (old : State) : Type 1 where
  pub plain : IsPlain (understood old.now.schema held_text)
  pub found : (new : State) (rows : List Row) → Shown held_text (given crew) old new rows → FindsHeld crew old.now rows
  pub stops : (new : State) (e : Error) → FailsToQuery held_text (given crew) old new e → Stops ⊥ (HasStepLimit old) old new (table_fault_of e)
  pub invalid : (IsRecord : Row → Type 0) → HasInvalid IsRecord held_text (given crew) old → HasNoHeldRecord crew IsRecord old.now

module _ (crew : List ℕ) (old : State) (seats : IsTable seat_table old.now.schema) (periods : IsTable period_table old.now.schema) where
  seat : Known seat_table old.now.schema (place seat_table old.now.schema seats).0 seats.tree
  seat = known seat_table old.now.schema seats

  period : Known period_table old.now.schema (place period_table old.now.schema periods).0 periods.tree
  period = known period_table old.now.schema periods

  reads : IsHeldRead old.now.schema seats.tree periods.tree
  reads = held_read old.now.schema _ seats.tree _ periods.tree seat period

  over_stored : (rows : List Row) → IsAnswer (held_query seats.tree periods.tree) (overlay old.now.trees []) (given crew) rows → FindsHeld crew old.now rows
  over_stored rows answer =
      let found = answer_held crew seats.tree periods.tree (overlay old.now.trees []) rows answer in
      let same : those crew (overlay old.now.trees [] seats.tree) (overlay old.now.trees [] periods.tree) ≡ flat_map (λ s. filter (is_of_seat crew s) (rows_of period_table old.now)) (rows_of seat_table old.now) =
      ap₂ (those crew) (overlay_is old.now.trees seats.tree ∙ sym (stored_is seat_table old.now.schema seats old.now refl)) (overlay_is old.now.trees periods.tree ∙ sym (stored_is period_table old.now.schema periods old.now refl)) in
      subst (λ l. IsPermutation l rows) same found

  invalid : (IsRecord : Row → Type 0) → HasInvalid IsRecord held_text (given crew) old → HasNoHeldRecord crew IsRecord old.now
  invalid IsRecord h =
      let begun = h.0 ++ h.1 ∷ [] in
      let first = begins_as held_text (given crew) old old old.now.schema refl _ reads.is reads.plain reads.unlisted begun h.2 in
      let start = first.1 in
      let all = begun ++ start.0 in
      let here : Has all h.1 = has_left begun start.0 h.1 (has_right h.0 (h.1 ∷ []) h.1 (inl refl)) in
      let there = has_permuted all _ h.1 (IsPermutation-sym _ _ (over_stored all (start.1 Null))) here in
      let one = has_of_many (λ s. filter (is_of_seat crew s) (rows_of period_table old.now)) (rows_of seat_table old.now) h.1 there in
      let x = has_filtered (is_of_seat crew one.0) (rows_of period_table old.now) h.1 one.2 in
      (one.0, h.1, one.1, x.0, x.1, h.3)

  pub held_reader : HeldReader crew old
  held_reader = record {
    plain = reads.plain;
    found = λ new rows h. let answers = reads_as held_text (given crew) old new old.now.schema refl _ reads.is reads.plain reads.unlisted rows h in over_stored rows (answers.answer Null);
    stops = unanswered_by (held_query seats.tree periods.tree) held_text held_names (given crew) refl old reads.is reads.plain reads.unlisted reads.whole (bounded crew old.step_limit old.now _ seats.tree _ periods.tree seat period);
    invalid = invalid;
  }

-- ---- from the clauses of `read_all` to those of the function

module _ (crew : List ℕ) {B : Type 0} (old new : State) (owed : HasCleanDisk old → IsTrue old.is_open → B) (reader : B → HeldReader crew old) {X : Trees → Type 0} (survives : Survives old new X) where
  while_open : (IsRecord : Row → Type 0) (fault : TableFault) → HasCleanDisk new → IsTrue old.is_open → FailsToRead (λ _. ⊥) held_text (given crew) old new fault
      → (fault ≡ NotARecord → HasInvalid IsRecord held_text (given crew) old) → Failed ⊥ old new fault ⊎ (IsUnchanged old new × GivesNoRows (HasStepLimit old) (HasNoHeldRecord crew IsRecord old.now) fault)
  while_open IsRecord fault clean opened err damaged =
      let reads = reader (owed (omega (arith, survives.clean)) opened) in
      unread_as held_text (given crew) old new (HasStepLimit old) _ (λ _. ⊥) fault (reads.stops new) (λ h. h) (λ none. absurd none.3) err (λ e. reads.invalid IsRecord (damaged e))

  read_as : {A : Type 0} (IsRecord : Row → Type 0) (rows : A → List Row) (result : Result A TableFault)
      → (HasCleanDisk new → IfOk result (λ all. Shown held_text (given crew) old new (rows all))) → (HasCleanDisk new → OnOk result (IsUnchanged old new))
      → (HasCleanDisk new → IfErr result (FailsToRead (λ _. ⊥) held_text (given crew) old new)) → (HasCleanDisk new → result ≡ Err NotARecord → HasInvalid IsRecord held_text (given crew) old)
      → ReadAs (λ db found. FindsHeld crew db (rows found)) (HasNoHeldRecord crew IsRecord) (HasStepLimit old) old new result
  read_as IsRecord rows (Ok all) shown same err damaged clean =
      let kept = same clean in
      ((reader (owed (omega (arith, survives.clean)) kept.0.was_open)).found new (rows all) (shown clean), kept)
  read_as IsRecord rows (Err fault) shown same err damaged clean =
      elim (err clean) [
        | inl query ↦ elim (opened_or_failed held_text (given crew) old new query.0 (held_bare old.now.schema) query.2) [
          | inl opened ↦ while_open IsRecord fault clean opened (inl query) (λ e. damaged clean (ap Err e))
          | inr fails ↦ inl (query.0, fails, query.1)
        ]
        | inr own ↦ while_open IsRecord fault clean own.0.0.was_open (inr own) (λ e. damaged clean (ap Err e))
      ]

  pub held_read_by : {params : Row} → params ≡ given crew → {A : Type 0} (IsRecord : Row → Type 0) (rows : A → List Row) (result : Result A TableFault)
      → (HasCleanDisk new → IfOk result (λ all. Shown held_text params old new (rows all))) → (HasCleanDisk new → OnOk result (IsUnchanged old new))
      → (HasCleanDisk new → IfErr result (FailsToRead (λ _. ⊥) held_text params old new)) → (HasCleanDisk new → result ≡ Err NotARecord → HasInvalid IsRecord held_text params old)
      → ReadAs (λ db found. FindsHeld crew db (rows found)) (HasNoHeldRecord crew IsRecord) (HasStepLimit old) old new result
  held_read_by is IsRecord rows result shown same err damaged =
      read_as IsRecord rows result (λ clean. subst (λ ps. IfOk result (λ all. Shown held_text ps old new (rows all))) is (shown clean)) same
      (λ clean. subst (λ ps. IfErr result (FailsToRead (λ _. ⊥) held_text ps old new)) is (err clean)) (λ clean e. subst (λ ps. HasInvalid IsRecord held_text ps old) is (damaged clean e))
