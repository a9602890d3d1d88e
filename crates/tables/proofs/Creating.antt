-- CREATE TABLE.
use Rattle.std.proofs.Common.{nat_le, ◌*◌, ◌≤◌, ◌≡◌, ◌⊎◌, zero, suc, codes, slice_get, option_and_then, ◌+◌, if◌then◌else◌, length, ◌^◌, ◌<◌, ◌==◌, ◌||◌, ◌&&◌, ℕ, Bool, List, [], ◌∷◌, ◌++◌, inl, inr, true, false, not, cond, find, slice_range, Option, None, Some, IfSome, append-nil, Ok, Err, Result, refl, sym, ap, subst, ◌∙◌, arith, is_some}
use Rattle.std.proofs.lemmas.Bool.Decides.{nat_tests}
use Rattle.std.proofs.lemmas.Bool.{cases_Bool, not-true, not-false}
use Rattle.std.specs.List.{AllByRecursion, list_any, position_from}
use Rattle.sqlite_trees.specs.Tree.{Trees}
use Rattle.sqlite_syntax.specs.declared.statement.Parsed.{Parsed}
use Rattle.sqlite_ast.specs.declared.Statement.{Statement}
use Rattle.sqlite_ast.specs.declared.Statement.TheVariants as written
use Rattle.sqlite_ast.specs.declared.CreateTable.{CreateTable as Definition}
use Rattle.sqlite_schema.specs.declared.schema.Table.{Table}
use Rattle.sqlite_schema.specs.declared.schema.Schema.{Schema}
use Rattle.sqlite_schema.specs.declared.command.Command.{Command}
use Rattle.sqlite_schema.specs.declared.command.Command.TheVariants.{CreateTable}
use Rattle.sqlite_schema.specs.Rules.{guards}
use Rattle.sqlite_schema.specs.Names.{same_name}
use Rattle.sqlite_rules.specs.Lists.{Has}
use Rattle.sqlite_rules.proofs.ListLemmas.{all_has, all_from, has_left, has_right, has_either}
use Rattle.sqlite_catalog.specs.Change.{automatics, created, next_tree, is_used, KeepsRows}
use Rattle.sqlite_catalog.specs.Listing.{IsTableRow}
use Rattle.sqlite_catalog.proofs.LayoutLemmas.{zipped_left}
use Rattle.sqlite_catalog.proofs.ListFacts.{none_placed}
use Rattle.sqlite_catalog.proofs.StepLemmas.{table_below, no_table, same_itself}
use Rattle.sqlite_resolve.specs.declared.error.CompileError.{CompileError}
use Rattle.sqlite_resolve.specs.declared.error.CompileError.TheVariants.{Unsupported}
use Rattle.sqlite_resolve.specs.declared.compiled.Compiled.{Compiled}
use Rattle.sqlite_resolve.specs.Lowering.{Checked, and_then}
use Rattle.sqlite_resolve.specs.Define as define
use Rattle.sqlite_resolve.specs.Compile as compile
use Rattle.sqlite_schema.specs.declared.command.Returning.{Returning}
use Rattle.sqlite_resolve.specs.Compile.{first, compiled, table_defined_by}
use Rattle.sqlite.specs.Effect.{Database, IsDatabase}
use Rattle.sqlite.specs.Does.{Tally, Does, lacks_sequence, sequence_text, MakesTable, MakesSequence}
use Rattle.sqlite.specs.Listing.{understood, reads_listing, listing_schema, if_select, is_select}
use Rattle.sqlite.specs.State.{State, Executes, ExecutesIn, IsNotRun, CommitsBy, text_of}
use Rattle.sqlite.proofs.Callers.{IsPlain, command_of, statement_of}
use Rattle.sqlite.proofs.StateLemmas.{survives_weaker}
use Rattle.tables.specs.Schema.{BookTable, IsTable, IsUnreferenced, IsOfKey, OnlyKeysGuard, table_found, table_of}
use Rattle.tables.specs.Rows.{Makes, stored}
use Rattle.tables.specs.Texts.{RunsStatement}
use Rattle.tables.proofs.Known.{listed, stored_is}
use Rattle.tables.proofs.Guarding.{stays_guarded, still_on, new_guarded}
use Rattle.tables.proofs.Compiling.{statement_in}
use Rattle.tables.proofs.Inserting.{plain_mode, went, same_value}
use Rattle.tables.proofs.Statements.{Writer, Stopper, writer, committed, failed}
use Rattle.tables.proofs.Stopping.{some_fault, failed_for, statement_told, stopped_in}
use Rattle.tables.proofs.Refusing.{err_same, makes_told}
use Rattle.tables.specs.Calls.{Stops}
use Rattle.tables.specs.Faults.{table_fault_of}
use Rattle.tables.specs.declared.table_fault.TableFault.TheVariants.{Store}
use Rattle.sqlite_catalog.specs.Calls.{IsLongTable, RefusesTable}
use Rattle.sqlite.specs.declared.error.Error.{Error}
use Rattle.tables.specs.Calls.{Ran}
use Rattle.tables.specs.declared.table_fault.TableFault.{TableFault}
use Rattle.sqlite_tied.specs.Compute.{everything}

-- ---- what the text is read as, whatever the schema

abbrev pub is_new_table : Statement → Bool
is_new_table (written.CreateTable def) = not def.if_missing
is_new_table _ = false

abbrev pub text_in : List ℕ → Checked Parsed → List ℕ
text_in sql (Ok p) = slice_range sql p.start p.end
text_in sql (Err e) = []

pub record IsMaker (kept : BookTable) (sql : List ℕ) : Type 0 where
  pub new : is_new_table (statement_in (first sql)) ≡ true
  pub whole : text_in sql (first sql) ≡ sql
  pub defines : table_defined_by sql ≡ Ok (table_of kept 0)
  pub short : nat_le (10 ^ 9) (2 * length kept.name + length sql + 200) ≡ false

of_both : {A B : Type 0} (r : Checked A) (f : A → Checked B) (b : B) → and_then r f ≡ Ok b → (a : A) × (r ≡ Ok a) × (f a ≡ Ok b)
of_both (Ok a) f b h = (a, refl, h)
of_both (Err e) f b h = absurd (cc)

of_else : {A : Type 0} (test : Bool) (e : CompileError) (r : Checked A) (a : A) → cond test (Err e) r ≡ Ok a → r ≡ Ok a
of_else true e r a h = absurd (cc)
of_else false e r a h = h

of_then : {A : Type 0} (test : Bool) (e : CompileError) (x a : A) → cond test (Ok x) (Err e) ≡ Ok a → a ≡ x
of_then true e x a h = cc
of_then false e x a h = absurd (cc)

creates_is : (if_missing : Bool) (name : List ℕ) (same other : Option ℕ) (is_new : Bool) → if_missing ≡ false → compile.creates if_missing name same other ≡ Ok is_new → is_new ≡ true
unfolding compile.creates
creates_is if_missing name same other is_new plain h =
    let later = of_else (is_some other) _ _ is_new (of_else (compile.is_reserved name) _ _ is_new h) in
    elim (cases_Bool (is_some same)) [
      | inl taken ↦ absurd (let e = rw (taken, plain) at later in cc)
      | inr free ↦ (let e = rw free at later in cc)
    ]

makes_table : (schema : Schema) (formats : List (List ℕ)) (def : Definition) (c : Command) → def.if_missing ≡ false → compile.create_table schema formats def ≡ Ok c → c ≡ CreateTable
unfolding compile.create_table
makes_table schema formats def c plain h =
    let on = of_else (compile.is_attached schema def.name) _ _ c h in
    let named = of_both _ _ c on in
    let is_new = creates_is def.if_missing def.name _ _ named.0 plain named.1 in
    let made = of_both (define.table formats def) (λ (t : Table). if length t.computed == length t.stamps.places && not def.resolves then Ok CreateTable else Err Unsupported) c (rw is_new at named.2) in
    of_then (length made.0.computed == length made.0.stamps.places && not def.resolves) Unsupported CreateTable c made.2

pub record IsMade (sql : List ℕ) (c : Compiled) : Type 0 where
  pub is : c.command ≡ CreateTable
  pub plain : (c.returning ≡ None) × (c.formats ≡ [])
  pub whole : text_of sql c ≡ sql

meant : (schema : Schema) (formats : List (List ℕ)) (base : ℕ) (s : Statement) (found : Command × Option Returning) → is_new_table s ≡ true → compile.command schema formats base s ≡ Ok found.0 → compile.returning schema base s ≡ Ok found.1
    → (found.0 ≡ CreateTable) × (found.1 ≡ None)
unfolding compile.command compile.returning
meant schema formats base (written.CreateTable def) found new is shown = (makes_table schema formats def found.0 (not-true _ new) is, (let e = shown in cc))
meant schema formats base _ found new is shown = absurd (cc)

untimed : (schema : Schema) (formats : List (List ℕ)) (s : Statement) → is_new_table s ≡ true → compile.timed schema formats s ≡ []
unfolding compile.timed
untimed schema formats (written.CreateTable def) new = refl
untimed schema formats _ new = absurd (cc)

module _ (sql : List ℕ) (schema : Schema) where
  made_by : (r : Checked Parsed) → is_new_table (statement_in r) ≡ true → text_in sql r ≡ sql → (c : Compiled) → and_then r (λ p. and_then (compile.planned schema p) (λ plan. Ok (compile.with_command p plan))) ≡ Ok c → IsMade sql c
  unfolding compile.planned compile.meaning
  made_by (Err e) new whole c h = absurd (cc)
  made_by (Ok p) new whole c h =
      let formats = compile.timed schema p.formats p.statement in
      let base = compile.small p.names + compile.small formats in
      let plan = of_both (compile.planned schema p) (λ plan. Ok (compile.with_command p plan)) c h in
      let found = of_both (compile.meaning schema p base) (λ (found : Command × Option Returning). Ok (formats, found)) plan.0 plan.1 in
      let shown = of_both (compile.returning schema base p.statement) (λ (shown : Option Returning). and_then (compile.command schema p.formats base p.statement) (λ c. Ok (c, shown))) found.0 found.1 in
      let command = of_both (compile.command schema p.formats base p.statement) (λ (c : Command). Ok (c, shown.0)) found.0 shown.2 in
      let both : (command.0, shown.0) ≡ found.0 = same_value command.2 in
      let it = meant schema p.formats base p.statement (command.0, shown.0) new command.1 shown.1 in
      let planned : (formats, found.0) ≡ plan.0 = same_value found.2 in
      let is : compile.with_command p plan.0 ≡ c = same_value plan.2 in
      let at : compile.with_command p (formats, (command.0, shown.0)) ≡ c = ap (λ (f : Command × Option Returning). compile.with_command p (formats, f)) both ∙ ap (compile.with_command p) planned ∙ is in
      record {
        is = ap (λ (c : Compiled). c.command) (sym at) ∙ it.0;
        plain = (ap (λ (c : Compiled). c.returning) (sym at) ∙ it.1, ap (λ (c : Compiled). c.formats) (sym at) ∙ untimed schema p.formats p.statement new);
        whole = ap (text_of sql) (sym at) ∙ whole;
      }

  pub compiled_made : is_new_table (statement_in (first sql)) ≡ true → text_in sql (first sql) ≡ sql → (c : Compiled) → compiled schema sql ≡ Ok c → IsMade sql c
  unfolding compiled
  compiled_made new whole c h = made_by (first sql) new whole c h

if_selected : (r : Result Compiled CompileError) (c : Compiled) → if_select r ≡ Ok c → (it : Compiled) × (r ≡ Ok it) × (is_select it.command ≡ true)
if_selected (Err e) c h = absurd (cc)
if_selected (Ok it) c h = elim (cases_Bool (is_select it.command)) [ inl selects ↦ (it, refl, selects) | inr other ↦ absurd (let e = rw other at h in cc) ]

pub understood_made : (kept : BookTable) (sql : List ℕ) → IsMaker kept sql → (schema : Schema) (c : Compiled) → understood schema sql ≡ Ok c → IsMade sql c
unfolding understood
understood_made kept sql maker schema c h = elim (cases_Bool (reads_listing schema sql)) [
  | inl listed ↦
      let it = if_selected (compiled listing_schema sql) c (rw listed at h) in
      let made = compiled_made sql listing_schema maker.new maker.whole it.0 it.1 in
      absurd (let a = made.is in let b = it.2 in let e = rw a at b in cc)
  | inr on ↦ compiled_made sql schema maker.new maker.whole c (rw on at h)
]

-- ---- one more table

known_or : {X : Type 0} (o : Option X) → ((x : X) × (o ≡ Some x)) ⊎ (o ≡ None)
known_or None = inr refl
known_or (Some x) = inl (x, refl)

module _ {X : Type 0} (p : X → Bool) where
  find_stays : (xs ys : List X) (x : X) → find p xs ≡ Some x → find p (xs ++ ys) ≡ Some x
  find_stays [] ys x h = absurd (cc)
  find_stays (z ∷ xs) ys x h = elim (cases_Bool (p z)) [ inl passes ↦ rw passes (rw passes at h) | inr fails ↦ rw fails (find_stays xs ys x (rw fails at h)) ]

  find_end : (xs : List X) (x : X) → AllByRecursion (λ y. p y ≡ false) xs → p x ≡ true → find p (xs ++ x ∷ []) ≡ Some x
  find_end [] x none passes = rw passes
  find_end (z ∷ xs) x none passes = rw none.0 (find_end xs x none.1 passes)

  find_past : (xs : List X) (x : X) → p x ≡ false → find p (xs ++ x ∷ []) ≡ find p xs
  find_past [] x fails = rw fails
  find_past (z ∷ xs) x fails = elim (cases_Bool (p z)) [ inl passes ↦ rw passes | inr other ↦ rw other (find_past xs x fails) ]

-- a table is made in the next tree
pub record Adds (old after : Database) (t : Table) : Type 0 where
  pub free : is_used old.schema t.name ≡ false
  pub is : after.schema ≡ created old.schema t
  pub empty : after.trees (next_tree old.schema) ≡ []
  pub others : KeepsRows old.schema.tables old.trees after.trees

abbrev in_next : Schema → Table → Table
in_next schema t = let new : Table = record t { tree = next_tree schema } in new

module _ (old after : Database) (t : Table) (adds : Adds old after t) where
  tables_are : after.schema.tables ≡ old.schema.tables ++ in_next old.schema t ∷ []
  tables_are = ap (λ (s : Schema). s.tables) adds.is

  rows_stay : (u : Table) → Has old.schema.tables u → after.trees u.tree ≡ old.trees u.tree
  rows_stay u h = all_has _ old.schema.tables u adds.others h

  found_stays : (name : List ℕ) (u : Table) → table_found old.schema name ≡ Some u → table_found after.schema name ≡ Some u
  found_stays name u found = subst (λ ts. find (λ v. same_name v.name name) ts ≡ Some u) (sym tables_are) (find_stays (λ (v : Table). same_name v.name name) old.schema.tables (in_next old.schema t ∷ []) u found)

  table_stays : (other : BookTable) → IsTable other old.schema → IsTable other after.schema
  table_stays other there = record {
    tree = there.tree;
    found = found_stays other.name (table_of other there.tree) there.found;
    low = there.low;
    alone = subst (AllByRecursion (λ u. u.tree ≡ there.tree → u.name ≡ other.name)) (sym tables_are)
        (all_from _ (old.schema.tables ++ in_next old.schema t ∷ []) (λ u h same. elim (has_either old.schema.tables (in_next old.schema t ∷ []) u h) [
          | inl was ↦ all_has _ old.schema.tables u there.alone was same
          | inr new ↦ elim new [
            | inl it ↦ absurd (omega (arith, table_below old.schema (table_of other there.tree) (listed other old.schema there), ap (λ (v : Table). v.tree) it))
            | inr none ↦ absurd none
          ]
        ]));
  }

  rows_of_table_stay : (other : BookTable) (there : IsTable other old.schema) → stored other after ≡ stored other old
  unfolding table_stays
  rows_of_table_stay other there =
      stored_is other after.schema (table_stays other there) after refl ∙ rows_stay (table_of other there.tree) (listed other old.schema there) ∙ sym (stored_is other old.schema there old refl)

  unreferenced_stays : t.references ≡ [] → (other : BookTable) → IsUnreferenced other old.schema → IsUnreferenced other after.schema
  unreferenced_stays none other free = subst (AllByRecursion (λ u. AllByRecursion (λ ref. same_name other.name ref.parent ≡ false) u.references)) (sym tables_are)
      (all_from _ (old.schema.tables ++ in_next old.schema t ∷ []) (λ u h. elim (has_either old.schema.tables (in_next old.schema t ∷ []) u h) [
        | inl was ↦ all_has _ old.schema.tables u free was
        | inr new ↦ elim new [
          | inl it ↦ subst (AllByRecursion (λ ref. same_name other.name ref.parent ≡ false)) (sym (ap (λ (v : Table). v.references) it ∙ none)) tt
          | inr nothing ↦ absurd nothing
        ]
      ]))

  module _ (kept : BookTable) (is : t ≡ table_of kept 0) (low : next_tree old.schema < 2 ^ 31) where
    new_is : in_next old.schema t ≡ table_of kept (next_tree old.schema)
    new_is = ap (in_next old.schema) is

    tables_end : after.schema.tables ≡ old.schema.tables ++ table_of kept (next_tree old.schema) ∷ []
    tables_end = tables_are ∙ ap (λ u. old.schema.tables ++ u ∷ []) new_is

    name_free : AllByRecursion (λ u. same_name u.name kept.name ≡ false) old.schema.tables
    name_free = all_from _ old.schema.tables (λ u h. none_placed (λ (v : Table). same_name v.name kept.name) old.schema.tables 0 u
        (no_table old.schema kept.name (subst (λ n. is_used old.schema n ≡ false) (ap (λ (v : Table). v.name) is) adds.free)) h)

    new_found : table_found after.schema kept.name ≡ Some (table_of kept (next_tree old.schema))
    new_found = subst (λ ts. find (λ u. same_name u.name kept.name) ts ≡ Some (table_of kept (next_tree old.schema))) (sym tables_end)
        (find_end (λ (u : Table). same_name u.name kept.name) old.schema.tables (table_of kept (next_tree old.schema)) name_free (same_itself kept.name))

    table_there : IsTable kept after.schema
    table_there = record {
      tree = next_tree old.schema;
      found = new_found;
      low = low;
      alone = subst (AllByRecursion (λ u. u.tree ≡ next_tree old.schema → u.name ≡ kept.name)) (sym tables_end)
          (all_from _ (old.schema.tables ++ table_of kept (next_tree old.schema) ∷ []) (λ u h same. elim (has_either old.schema.tables (table_of kept (next_tree old.schema) ∷ []) u h) [
            | inl was ↦ absurd (omega (arith, table_below old.schema u was))
            | inr new ↦ elim new [ inl it ↦ ap (λ (v : Table). v.name) it | inr none ↦ absurd none ]
          ]));
    }

    no_row : stored kept after ≡ []
    unfolding table_there
    no_row = stored_is kept after.schema table_there after refl ∙ adds.empty

-- a sound database has low trees
pub low_tree : (db : Database) → IsDatabase db → (t : Table) → Has db.schema.tables t → t.tree < 2 ^ 31
low_tree db sound t h = let row = zipped_left IsTableRow _ db.schema.tables t sound.lists.listed.tables h in let low = row.2.described.low in omega (arith)

-- ---- sqlite_sequence, which the first table with AUTOINCREMENT has made

position_stays : {X : Type 0} (p : X → Bool) (n : ℕ) (xs ys : List X) (at : ℕ) → position_from p n xs ≡ Some at → position_from p n (xs ++ ys) ≡ Some at
position_stays p n [] ys at h = absurd (cc)
position_stays p n (x ∷ xs) ys at h = elim (cases_Bool (p x)) [ inl passes ↦ rw passes (rw passes at h) | inr fails ↦ rw fails (position_stays p (n + 1) xs ys at (rw fails at h)) ]

got_stays : {X : Type 0} (xs ys : List X) (at : ℕ) (x : X) → slice_get xs at ≡ Some x → slice_get (xs ++ ys) at ≡ Some x
got_stays [] ys at x h = absurd (cc)
got_stays (z ∷ xs) ys zero x h = h
got_stays (z ∷ xs) ys (suc at) x h = got_stays xs ys at x h

any_end : {X : Type 0} (p : X → Bool) (xs : List X) (x : X) → p x ≡ false → list_any p (xs ++ x ∷ []) ≡ list_any p xs
any_end p [] x fails = rw fails
any_end p (z ∷ xs) x fails = ap (λ b. p z || b) (any_end p xs x fails)

has_sequence : (tables ys : List Table) (o : Option ℕ) → is_some (option_and_then (slice_get tables) o) ≡ true → is_some (option_and_then (slice_get (tables ++ ys)) o) ≡ true
has_sequence tables ys None h = absurd (cc)
has_sequence tables ys (Some at) h = elim (known_or (slice_get tables at)) [ inl some ↦ rw (got_stays tables ys at some.0 some.1) | inr none ↦ absurd (let e = rw none at h in cc) ]

sequence_stays : (tables ys : List Table) (name : List ℕ) → is_some (option_and_then (slice_get tables) (position_from (λ t. same_name t.name name) 0 tables)) ≡ true
    → is_some (option_and_then (slice_get (tables ++ ys)) (position_from (λ t. same_name t.name name) 0 (tables ++ ys))) ≡ true
sequence_stays tables ys name h = elim (known_or (position_from (λ (t : Table). same_name t.name name) 0 tables)) [
  | inl some ↦ rw (position_stays (λ (t : Table). same_name t.name name) 0 tables ys some.0 some.1) (has_sequence tables ys (Some some.0) (rw some.1 at h))
  | inr none ↦ absurd (let e = rw none at h in cc)
]

pub lacks_no_more : (schema : Schema) (t : Table) → t.is_counted ≡ false → lacks_sequence schema ≡ false → lacks_sequence (created schema t) ≡ false
lacks_no_more schema t plain h = elim (cases_Bool (list_any (λ (u : Table). u.is_counted) schema.tables)) [
  | inl counted ↦
      let has = sequence_stays schema.tables (in_next schema t ∷ []) (codes "sqlite_sequence") (not-false _ (rw counted at h)) in
      rw (any_end (λ (u : Table). u.is_counted) schema.tables (in_next schema t) plain, counted, has)
  | inr uncounted ↦ rw (any_end (λ (u : Table). u.is_counted) schema.tables (in_next schema t) plain, uncounted)
]

-- the table in which sqlite counts: it refers to none, and has no key
pub record IsSequence (t : Table) : Type 0 where
  pub name : t.name ≡ codes "sqlite_sequence"
  pub references : t.references ≡ []
  pub keys : t.uniques ≡ []

told_of : {X : Type 0} → (Table → X) → X → Checked Table → X
told_of f x (Ok t) = f t
told_of f x (Err e) = x

sequence_is : (t : Table) → table_defined_by sequence_text ≡ Ok t → IsSequence t
unfolding told_of everything
sequence_is t h = record {
  name = ap (told_of (λ (u : Table). u.name) []) (sym h);
  references = ap (told_of (λ (u : Table). u.references) []) (sym h);
  keys = ap (told_of (λ (u : Table). u.uniques) []) (sym h);
}

-- ---- what CREATE TABLE makes of a database

-- nothing more, or the table in which sqlite counts
pub Grows : Database → Database → Type 0
Grows mid after = (after ≡ mid) ⊎ ((t : Table) × Adds mid after t × IsSequence t × (lacks_sequence mid.schema ≡ true))

grown_table : (mid after : Database) → Grows mid after → (other : BookTable) → IsTable other mid.schema → IsTable other after.schema
unfolding Grows
grown_table mid after (inl same) other there = subst (λ (d : Database). IsTable other d.schema) (sym same) there
grown_table mid after (inr more) other there = table_stays mid after more.0 more.1 other there

grown_found : (mid after : Database) → Grows mid after → (name : List ℕ) (u : Table) → table_found mid.schema name ≡ Some u → table_found after.schema name ≡ Some u
unfolding Grows
grown_found mid after (inl same) name u found = subst (λ (d : Database). table_found d.schema name ≡ Some u) (sym same) found
grown_found mid after (inr more) name u found = found_stays mid after more.0 more.1 name u found

grown_rows : (mid after : Database) → Grows mid after → (other : BookTable) → IsTable other mid.schema → stored other after ≡ stored other mid
unfolding Grows
grown_rows mid after (inl same) other there = ap (stored other) same
grown_rows mid after (inr more) other there = rows_of_table_stay mid after more.0 more.1 other there

grown_unreferenced : (mid after : Database) → Grows mid after → (other : BookTable) → IsUnreferenced other mid.schema → IsUnreferenced other after.schema
unfolding Grows
grown_unreferenced mid after (inl same) other free = subst (λ (d : Database). IsUnreferenced other d.schema) (sym same) free
grown_unreferenced mid after (inr more) other free = unreferenced_stays mid after more.0 more.1 more.2.references other free

grown_has : (mid after : Database) → Grows mid after → (t : Table) → Has mid.schema.tables t → Has after.schema.tables t × (after.trees t.tree ≡ mid.trees t.tree)
unfolding Grows
grown_has mid after (inl same) t h = (subst (λ (d : Database). Has d.schema.tables t) (sym same) h, ap (λ (d : Database). d.trees t.tree) same)
grown_has mid after (inr more) t h = (subst (λ ts. Has ts t) (sym (tables_are mid after more.0 more.1)) (has_left mid.schema.tables _ t h), rows_stay mid after more.0 more.1 t h)

grown_indexes : (mid after : Database) → Grows mid after → after.schema.indexes ≡ mid.schema.indexes
unfolding Grows
grown_indexes mid after (inl same) = ap (λ (d : Database). d.schema.indexes) same
grown_indexes mid after (inr more) =
    let made = in_next mid.schema more.0 in
    ap (λ (s : Schema). s.indexes) more.1.is ∙ ap (λ keys. mid.schema.indexes ++ automatics made 0 (made.tree + 1) keys) more.2.keys ∙ append-nil mid.schema.indexes

grown_views : (mid after : Database) → Grows mid after → after.schema.views ≡ mid.schema.views
unfolding Grows
grown_views mid after (inl same) = ap (λ (d : Database). d.schema.views) same
grown_views mid after (inr more) = ap (λ (s : Schema). s.views) more.1.is

grown_only : (mid after : Database) → Grows mid after → (t : Table) → Has after.schema.tables t → Has mid.schema.tables t ⊎ (t.name ≡ codes "sqlite_sequence")
unfolding Grows
grown_only mid after (inl same) t h = inl (subst (λ (d : Database). Has d.schema.tables t) same h)
grown_only mid after (inr more) t h = elim (has_either mid.schema.tables _ t (subst (λ ts. Has ts t) (tables_are mid after more.0 more.1) h)) [
  | inl was ↦ inl was
  | inr made ↦ elim made [ inl it ↦ inr (ap (λ (u : Table). u.name) it ∙ more.2.name) | inr none ↦ absurd none ]
]

grown_schema : (mid after : Database) → Grows mid after → lacks_sequence mid.schema ≡ false → after ≡ mid
unfolding Grows
grown_schema mid after (inl same) whole = same
grown_schema mid after (inr more) whole = absurd (let e = more.3 in cc)

module _ (kept : BookTable) (old mid after : Database) (t : Table) (is : t ≡ table_of kept 0) (adds : Adds old mid t) (grows : Grows mid after) (sound : IsDatabase after) where
  low : next_tree old.schema < 2 ^ 31
  low =
      let there : Has mid.schema.tables (table_of kept (next_tree old.schema)) =
      subst (λ ts. Has ts (table_of kept (next_tree old.schema))) (sym (tables_are old mid t adds ∙ ap (λ u. old.schema.tables ++ in_next old.schema u ∷ []) is)) (has_right old.schema.tables _ _ (inl refl)) in
      low_tree after sound (table_of kept (next_tree old.schema)) (grown_has mid after grows _ there).0

  in_mid : IsTable kept mid.schema
  in_mid = table_there old mid t adds kept is low

  in_after : (u : Table) → Has old.schema.tables u → Has after.schema.tables u
  in_after u h = (grown_has mid after grows u (subst (λ ts. Has ts u) (sym (tables_are old mid t adds)) (has_left old.schema.tables _ u h))).0

  new_after : Has after.schema.tables (table_of kept (next_tree old.schema))
  new_after =
      let there = subst (λ ts. Has ts (table_of kept (next_tree old.schema))) (sym (tables_end old mid t adds kept is low)) (has_right old.schema.tables _ _ (inl refl)) in
      (grown_has mid after grows _ there).0

  -- a table that was there, the new one, or the one in which sqlite counts
  old_or_made : (u : Table) → Has after.schema.tables u → Has old.schema.tables u ⊎ ((u.name ≡ kept.name) ⊎ (u.name ≡ codes "sqlite_sequence"))
  old_or_made u h = elim (grown_only mid after grows u h) [
    | inl here ↦ elim (has_either old.schema.tables _ u (subst (λ ts. Has ts u) (tables_end old mid t adds kept is low) here)) [
      | inl was ↦ inl was
      | inr made ↦ elim made [ inl it ↦ inr (inl (ap (λ (v : Table). v.name) it)) | inr none ↦ absurd none ]
    ]
    | inr counts ↦ inr (inr counts)
  ]

  indexes_are : after.schema.indexes ≡ (created old.schema (table_of kept 0)).indexes
  indexes_are = grown_indexes mid after grows ∙ ap (λ (s : Schema). s.indexes) adds.is ∙ ap (λ u. (created old.schema u).indexes) is

  -- what guards a table that a name finds
  guarded_as : (other : BookTable) (tree : ℕ) (schema : Schema) → table_found schema other.name ≡ Some (table_of other tree)
      → AllByRecursion (λ i. guards i (table_of other tree) ≡ true → IsOfKey other.keys i) schema.indexes → OnlyKeysGuard other.name schema
  guarded_as other tree schema found all = subst (λ o. IfSome o (λ u. AllByRecursion (λ i. guards i u ≡ true → IsOfKey u.uniques i) schema.indexes)) (sym found) all

  stay_guarded : (other : BookTable) → IsTable other old.schema → OnlyKeysGuard other.name old.schema → OnlyKeysGuard other.name after.schema
  stay_guarded other there guards_it =
      let was = subst (λ o. IfSome o (λ u. AllByRecursion (λ i. guards i u ≡ true → IsOfKey u.uniques i) old.schema.indexes)) there.found guards_it in
      guarded_as other there.tree after.schema (grown_found mid after grows other.name (table_of other there.tree) (found_stays old mid t adds other.name (table_of other there.tree) there.found))
      (stays_guarded old.schema (table_of kept 0) after.schema.indexes indexes_are (table_of other there.tree) (listed other old.schema there) was)

  pub makes : Makes kept old after
  makes = record {
    free = subst (λ n. is_used old.schema n ≡ false) (ap (λ (u : Table). u.name) is) adds.free;
    schema = λ whole.
        let lacks = subst (λ s. lacks_sequence s ≡ false) (sym adds.is) (lacks_no_more old.schema t (ap (λ (u : Table). u.is_counted) is) whole) in
        ap (λ (d : Database). d.schema) (grown_schema mid after grows lacks) ∙ adds.is ∙ ap (created old.schema) is;
    there = grown_table mid after grows kept in_mid;
    empty = grown_rows mid after grows kept in_mid ∙ no_row old mid t adds kept is low;
    tables = all_from _ after.schema.tables old_or_made;
    indexes = indexes_are;
    views = grown_views mid after grows ∙ ap (λ (s : Schema). s.views) adds.is;
    others = all_from _ old.schema.tables (λ u h.
        let in_more = subst (λ ts. Has ts u) (sym (tables_are old mid t adds)) (has_left old.schema.tables _ u h) in
        let there = grown_has mid after grows u in_more in
        (there.0, there.1 ∙ rows_stay old mid t adds u h));
    guarded = stay_guarded;
    own_guards = λ on. (
      guarded_as kept (next_tree old.schema) after.schema (grown_found mid after grows kept.name (table_of kept (next_tree old.schema)) (new_found old mid t adds kept is low)) (new_guarded kept old.schema after.schema.indexes indexes_are on),
      still_on old.schema (table_of kept 0) after.schema.indexes indexes_are after.schema.tables in_after new_after on,
    );
    keeps = λ other there.
        let stays = table_stays old mid t adds other there in
        (grown_table mid after grows other stays, grown_rows mid after grows other stays ∙ rows_of_table_stay old mid t adds other there);
    unreferenced = λ other free. grown_unreferenced mid after grows other (unreferenced_stays old mid t adds (ap (λ (u : Table). u.references) is) other free);
  }

module _ (kept : BookTable) (sql : List ℕ) (maker : IsMaker kept sql) (old : State) where
  with_sequence : (mid after : Database) → MakesSequence mid (Ok after) → Grows mid after
  unfolding Grows
  with_sequence mid after h = elim (cases_Bool (lacks_sequence mid.schema)) [
    | inl lacks ↦ let it = rw lacks at h in inr (it.table, record { free = it.free; is = it.is; empty = it.empty; others = it.others }, sequence_is it.table it.defined, lacks)
    | inr whole ↦ inl (same_value (rw whole at h))
  ]

  does : (t : List ℕ) → t ≡ sql → (tally : Tally) (after : Database) → IsDatabase after → Does old.step_limit plain_mode [] old.now t None CreateTable (Ok (tally, after)) → Makes kept old.now after
  does t whole tally after sound h =
      let all = went (rw whole at h) in
      let made = went all.1 in
      let it = made.1 in
      let now : after ≡ all.0 = ap (λ (p : Tally × Database). p.1) (same_value all.2) in
      makes kept old.now made.0 after it.table (same_value (sym it.defined ∙ maker.defines)) (record { free = it.free; is = it.is; empty = it.empty; others = it.others })
      (with_sequence made.0 after (subst (λ d. MakesSequence made.0 (Ok d)) (sym now) made.2)) sound

  module _ (c : Compiled) (is : understood old.now.schema sql ≡ Ok c) where
    made : IsMade sql c
    made = understood_made kept sql maker old.now.schema c is

    pub made_writer : Writer sql [] (Makes kept) old
    made_writer = writer sql [] CreateTable old.now.schema (ap command_of is ∙ made.is) (subst IsPlain (sym is) made.plain) (Makes kept) old refl
        (λ t e. does t (e ∙ ap (statement_of sql) is ∙ made.whole)) (λ _ _ _ h. h) (λ e. cc) (λ n e. cc)

    pub made_committed : (db : Trees) → CommitsBy sql [] old db → (old.in_transaction ≡ false) × (after : Database) × Makes kept old.now after × (db ≡ after.trees)
    made_committed = committed sql [] CreateTable old.now.schema (ap command_of is ∙ made.is) (subst IsPlain (sym is) made.plain) (Makes kept) old refl
        (λ t e. does t (e ∙ ap (statement_of sql) is ∙ made.whole)) (λ _ _ _ h. h) (λ e. cc) (λ n e. cc)

  runs : (new : State) (count : ℕ) → Executes sql [] old new (Ok count) → (c : Compiled) × (understood old.now.schema sql ≡ Ok c)
  unfolding ExecutesIn
  runs new count h = (h.0, h.1.is)

  commits : (db : Trees) → CommitsBy sql [] old db → (c : Compiled) × (understood old.now.schema sql ≡ Ok c)
  unfolding CommitsBy
  commits db h = (h.0, h.1.is)

  create_ran : {A : Type 0} (new : State) (result : Result A TableFault) → RunsStatement sql [] old new result → Ran (Makes kept) old new result
  create_ran new (Err f) h _ = (failed sql [] old new h.0 h.2, λ e. some_fault h.0 (sym h.1 ∙ e))
  create_ran new (Ok a) h clean = let c = runs new h.0 h.1 in (made_writer c.0 c.1).ran new (Ok a) h clean

  pub create_writer : Writer sql [] (Makes kept) old
  create_writer = record { ran = create_ran; left = λ new s. survives_weaker old new _ _ (λ _ db h. let c = commits db h in made_committed c.0 c.1 db h) s }

-- ---- it is refused, or the store fails: no text of a table is too long to be kept

not_long : (a b : ℕ) → nat_le a b ≡ false → a ≤ b → ⊥
not_long a b short long = grind (arith, nat_tests)

short_sequence : IsLongTable sequence_text → ⊥
short_sequence h = not_long (10 ^ 9) (2 * length (codes "sqlite_sequence") + length sequence_text + 200) refl (subst (λ name. 10 ^ 9 ≤ 2 * length name + length sequence_text + 200) (sequence_is h.0 h.1).name h.2)

module _ (kept : BookTable) (sql : List ℕ) (maker : IsMaker kept sql) (limit : Option ℕ) (old : Database) where
  short_table : IsLongTable sql → ⊥
  short_table h =
      let is : h.0 ≡ table_of kept 0 = same_value (sym h.1 ∙ maker.defines) in
      not_long (10 ^ 9) (2 * length kept.name + length sql + 200) maker.short (subst (λ name. 10 ^ 9 ≤ 2 * length name + length sql + 200) (ap (λ (t : Table). t.name) is) h.2)

  create_small : (t : List ℕ) → t ≡ sql → Does limit plain_mode [] old t None CreateTable (Err None) → ⊥
  create_small t whole does = elim (subst (λ s. Does limit plain_mode [] old s None CreateTable (Err None)) whole does) [
    | inl first ↦ elim first.1 [
      | inl made ↦ short_table (subst (λ stop. MakesTable sql old (Err stop)) (sym (err_same first.2 ∙ err_same made.2)) made.1)
      | inr on ↦ elim (cases_Bool (lacks_sequence on.0.schema)) [
        | inl lacks ↦ short_sequence (subst (λ stop. MakesTable sequence_text on.0 (Err stop)) (sym (err_same first.2)) (rw lacks at on.2))
        | inr has ↦ absurd (let no = rw has at on.2 in cc)
      ]
    ]
    | inr done ↦ absurd (let no = done.2 in cc)
  ]

  create_told : (t : List ℕ) → t ≡ sql → (e : Error) → Does limit plain_mode [] old t None CreateTable (Err (Some e)) → table_fault_of e ≡ Store
  create_told t whole e does = elim (subst (λ s. Does limit plain_mode [] old s None CreateTable (Err (Some e))) whole does) [
    | inl first ↦ elim first.1 [
      | inl made ↦ makes_told sql (RefusesTable old.schema sql) e (subst (λ stop. MakesTable sql old (Err stop)) (sym (err_same first.2 ∙ err_same made.2)) made.1)
      | inr on ↦ elim (cases_Bool (lacks_sequence on.0.schema)) [
        | inl lacks ↦ makes_told sequence_text (RefusesTable on.0.schema sequence_text) e (subst (λ stop. MakesTable sequence_text on.0 (Err stop)) (sym (err_same first.2)) (rw lacks at on.2))
        | inr has ↦ absurd (let no = rw has at on.2 in cc)
      ]
    ]
    | inr done ↦ absurd (let no = done.2 in cc)
  ]

module _ (kept : BookTable) (sql : List ℕ) (maker : IsMaker kept sql) (old : State) where
  create_stops : (new : State) (e : Error) → Executes sql [] old new (Err e) → Stops ⊥ (Unit {0}) old new (table_fault_of e)
  unfolding ExecutesIn IsNotRun
  create_stops new e (inl (inl none)) = inr (tt, none.1, statement_told old sql [] e none.0)
  create_stops new e (inl (inr fails)) = inl (failed_for old new ⊥ ⊥ (λ none. none) e fails)
  create_stops new e (inr ran) =
      let is = ran.1.is in
      let made = understood_made kept sql maker old.now.schema ran.0 is in
      let text_is = ap (statement_of sql) is ∙ made.whole in
      stopped_in sql [] CreateTable old.now.schema (ap command_of is ∙ made.is) (subst IsPlain (sym is) made.plain) (λ c same none. rw (same, none) refl) old refl ⊥ (Unit {0})
      (λ t same. create_small kept sql maker old.step_limit old.now t (same ∙ text_is)) (λ t e same _ _ does. (tt, create_told kept sql maker old.step_limit old.now t (same ∙ text_is) e does)) (λ e _. tt) new e ran

  pub create_stopper : Stopper sql [] ⊥ (Unit {0}) old
  create_stopper = record { stops = create_stops }
