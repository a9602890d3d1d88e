-- UPDATE of the rows with a key.
use Rattle.std.proofs.Common.{◌≡◌, ◌⊎◌, inl, inr, ℕ, ℤ, List, [], ◌∷◌, length, map, drop, slice_get, option_map, Bool, true, false, Some, None, Ok, Err, Option, refl, sym, ap, subst, ◌∙◌, Equal}
use Rattle.std.specs.Ordering.{is_eq}
use Rattle.std.specs.List.{list_all, AllByRecursion}
use Rattle.std.proofs.lemmas.Bool.{cases_Bool}
use Rattle.std.proofs.lemmas.Cmp.{tied_itself}
use Rattle.sqlite_value.specs.declared.value.Value.{Value}
use Rattle.sqlite_value.specs.declared.value.Value.TheVariants.{Null, Int}
use Rattle.sqlite_value.specs.Order.{Row, value_cmp}
use Rattle.sqlite_value.proofs.OrderLemmas.{value_cmp_total}
use Rattle.sqlite_trees.specs.Tree.{rowid, has_rowid}
use Rattle.sqlite_trees.specs.View.{is_int}
use Rattle.sqlite_schema.specs.declared.schema.Table.{Table}
use Rattle.sqlite_schema.specs.declared.program.Program.{Program}
use Rattle.sqlite_schema.specs.declared.schema.Keys.TheVariants.{Enforced}
use Rattle.sqlite_schema.specs.declared.command.Command.TheVariants.{Update}
use Rattle.sqlite_sql.specs.Term.{Term, col, holds, eval_all}
use Rattle.sqlite_sql.specs.Program.{overlay}
use Rattle.sqlite_rules.specs.declared.error.Rowids.TheVariants.{Given}
use Rattle.sqlite_rules.specs.declared.error.Refusal.{Refusal}
use Rattle.sqlite_rules.specs.Lists.{Has}
use Rattle.sqlite_rules.specs.Calls.{ids_of}
use Rattle.sqlite_rules.specs.Cast.{cast_row}
use Rattle.sqlite_rules.specs.Edit.{Edit, IsOversized, edit_of, id_in, without_all, put_all, are_fresh, taken_by, Applies}
use Rattle.sqlite_rules.proofs.TableLemmas.{int_is, put_all_has, put_all_keeps, put_all_adds}
use Rattle.sqlite_rules.proofs.PlaceLemmas.{given}
use Rattle.sqlite_rules.proofs.ProbeLemmas.{has_mapped, mapped_has}
use Rattle.sqlite.specs.declared.error.Error.{Error}
use Rattle.sqlite.specs.Effect.{Database, Answers, edit_error}
use Rattle.sqlite.specs.Rows.{Written}
use Rattle.sqlite.specs.Does.{Tally, Does}
use Rattle.sqlite.specs.State.{State}
use Rattle.tables.proofs.Answering.{plain_query, answer_has, answer_all, overlay_is}
use Rattle.tables.proofs.Known.{place, stored_is, some_same}
use Rattle.tables.proofs.Compiling.{IsRead}
use Rattle.tables.proofs.Inserting.{applied, no_work_of, ChangesRows, changes_by, plain_mode, went, same_value}
use Rattle.tables.proofs.Deleting.{Lacks, left_from, left_has, equal_is}
use Rattle.tables.proofs.Statements.{Writer, Stopper, table_writer, table_stopper}
use Rattle.tables.proofs.Stopping.{in_place}
use Rattle.tables.proofs.Refusing.{err_same, edit_told, queried_stops, refused_told, not_made}
use Rattle.tables.specs.Faults.{table_fault_of}
use Rattle.tables.specs.declared.table_fault.TableFault.TheVariants.{Store}
use Rattle.tables.specs.Schema.{BookTable, IsTable, IsUnreferenced, table_of}
use Rattle.tables.proofs.Apart.{left_apart, one_place, puts_apart}
use Rattle.tables.specs.Rows.{cells, rows_of, StandApart, AreNumbered, BecomesTooBig, Changes, Updates}

module _ (kept : BookTable) (rows : List Row) (stored : AreNumbered rows) (test : Row → Bool) (ids : List ℤ)
    (all : (r : Row) → Has rows r → test (cells kept r) ≡ true → Has ids (id_in (rowid r)))
    (has : (id : ℤ) → Has ids id → (r : Row) × Has rows r × (test (cells kept r) ≡ true) × (id ≡ id_in (rowid r))) where
  own_number : (r : Row) → Has rows r → rowid r ≡ Int (id_in (rowid r))
  own_number r h = int_is (rowid r) (stored.numbered r h)

  lacks_fails : (r : Row) → Has rows r → Lacks ids r → test (cells kept r) ≡ false
  lacks_fails r h lacks = elim (cases_Bool (test (cells kept r))) [
    | inl passes ↦ absurd (
        let no = lacks _ (all r h passes) in
        let tie : value_cmp (rowid r) (Int (id_in (rowid r))) ≡ Equal = subst (λ v. value_cmp (rowid r) v ≡ Equal) (own_number r h) (tied_itself value_cmp_total (rowid r)) in
        let e = ap is_eq tie in cc)
    | inr fails ↦ fails
  ]

  fails_lacks : (r : Row) → Has rows r → test (cells kept r) ≡ false → Lacks ids r
  fails_lacks r h fails id k = elim (cases_Bool (has_rowid id r)) [
    | inl tied ↦ absurd (
        let q = has id k in
        let its : rowid q.0 ≡ Int id = own_number q.0 q.1 ∙ ap Int (sym q.3) in
        let same = one_place rows stored.apart r q.0 h q.1 (subst (λ v. value_cmp (rowid r) v ≡ Equal) (sym its) (equal_is _ tied)) in
        let passes = ap test (ap (cells kept) same) ∙ q.2 in
        cc)
    | inr other ↦ other
  ]

module _ (kept : BookTable) (limit : Option ℕ) (old after : Database) (text : List ℕ) (params : Row) (tally : Tally) (filter terms : List Term)
    (there : IsTable kept old.schema) (free : IsUnreferenced kept old.schema)
    (does : Does limit plain_mode params old text None (Update (place kept old.schema there).0 (record { lets = []; body = plain_query there.tree filter (col 1 0 ∷ terms) [] })) (Ok (tally, after)))
    (test : Row → Bool) (tests : (r : Row) → list_all (holds (params ∷ r ∷ [])) filter ≡ test (cells kept r)) (stored : AreNumbered (old.trees there.tree))
    (new : Row → Row) (writes : (r : Row) → is_int (rowid r) ≡ true → cast_row (table_of kept there.tree) (eval_all terms (params ∷ r ∷ [])) ≡ rowid r ∷ new (cells kept r))
    (shape : (v : Value) (x : Row) → cells kept (v ∷ new x) ≡ new x) where
  abbrev tree : ℕ
  tree = there.tree

  abbrev table : Table
  table = table_of kept tree

  abbrev rows : List Row
  rows = old.trees tree

  is : slice_get old.schema.tables (place kept old.schema there).0 ≡ Some table
  is = (place kept old.schema there).2

  abbrev written : Row → Row
  written r = rowid r ∷ new (cells kept r)

  pub record Updated : Type 0 where
    pub ids : List ℤ
    pub news : List Row
    pub schema : after.schema ≡ old.schema
    pub fresh : are_fresh (without_all rows ids) news ≡ true
    pub rows_are : after.trees tree ≡ put_all (without_all rows ids) news
    pub others : AllByRecursion (λ t. (t.tree ≡ tree → ⊥) → after.trees t.tree ≡ old.trees t.tree) old.schema.tables
    pub all : (r : Row) → Has rows r → test (cells kept r) ≡ true → Has ids (id_in (rowid r))
    pub has : (id : ℤ) → Has ids id → (r : Row) × Has rows r × (test (cells kept r) ≡ true) × (id ≡ id_in (rowid r))
    pub news_all : (r : Row) → Has rows r → test (cells kept r) ≡ true → Has news (written r)
    pub news_has : (n : Row) → Has news n → (r : Row) × Has rows r × (test (cells kept r) ≡ true) × (n ≡ written r)

  updated : Updated
  updated =
      let changed = rw is at does in
      let done = went changed in
      let now = ap (λ (p : Tally × Database). p.1) (same_value (went (went done.2).2).2) in
      let asked = went done.1 in
      let wrote = went asked.2 in
      let trees : done.0.trees ≡ wrote.0 = ap (λ (it : Written). it.trees) (same_value wrote.2) in
      let edit = edit_of old.trees table (ids_of asked.0) Given 1 asked.0 in
      let step = subst (Applies old.schema Enforced old.trees edit) (sym (ap (λ (d : Database). d.trees) now ∙ trees)) (applied old.schema old.trees wrote.0 edit (no_work_of kept old.schema there free (taken_by old.trees edit) edit.news) wrote.1) in
      let a = asked.1.answer Null in
      let over = overlay_is old.trees tree in
      let cast_one = λ (s : Row). cast_row table (drop 1 s) in
      let news_are : edit.news ≡ map cast_one asked.0 = given (without_all rows (ids_of asked.0)) (map cast_one asked.0) in
      let found = λ (r : Row) (h : Has rows r) (passes : test (cells kept r) ≡ true). answer_all tree filter (col 1 0 ∷ terms) [] (overlay old.trees []) params asked.0 a r (subst (λ l. Has l r) (sym over) h) (tests r ∙ passes) in
      let from = λ (s : Row) (k : Has asked.0 s). answer_has tree filter (col 1 0 ∷ terms) [] (overlay old.trees []) params asked.0 a s k in
      record {
        ids = ids_of asked.0;
        news = map cast_one asked.0;
        schema = ap (λ (d : Database). d.schema) now;
        fresh = subst (λ n. are_fresh (without_all rows (ids_of asked.0)) n ≡ true) news_are step.fresh;
        rows_are = step.rows ∙ ap (put_all (without_all rows (ids_of asked.0))) news_are;
        others = step.tables;
        all = λ r h passes. mapped_has (λ q. id_in (rowid q)) asked.0 _ (found r h passes);
        has = λ id h.
            let q = has_mapped (λ q. id_in (rowid q)) asked.0 id h in
            let r = from q.0 q.1 in
            (r.0, subst (λ l. Has l r.0) over r.1, sym (tests r.0) ∙ r.2, q.2 ∙ ap (λ x. id_in (rowid x)) r.3);
        news_all = λ r h passes. subst (Has (map cast_one asked.0)) (writes r (stored.numbered r h)) (mapped_has cast_one asked.0 _ (found r h passes));
        news_has = λ n h.
            let q = has_mapped cast_one asked.0 n h in
            let r = from q.0 q.1 in
            let there = subst (λ l. Has l r.0) over r.1 in
            (r.0, there, sym (tests r.0) ∙ r.2, q.2 ∙ ap cast_one r.3 ∙ writes r.0 (stored.numbered r.0 there));
      }

  either_row : (x : Row) → Has (after.trees tree) x
      → ((r : Row) × Has rows r × (test (cells kept r) ≡ true) × (x ≡ written r)) ⊎ (Has rows x × (test (cells kept x) ≡ false))
  either_row x h = elim (put_all_has updated.news (without_all rows updated.ids) x (subst (λ l. Has l x) updated.rows_are h)) [
    | inl new ↦ inl (updated.news_has x new)
    | inr was ↦ let l = left_from updated.ids rows x was in inr (l.0, lacks_fails kept rows stored test updated.ids updated.all updated.has x l.0 l.1)
  ]

  turns : ChangesRows kept rows (after.trees tree) (λ x. ((was : Row) × Has (map (cells kept) rows) was × (test was ≡ true) × (x ≡ new was)) ⊎ (Has (map (cells kept) rows) x × (test x ≡ false)))
  turns = record {
    has = λ x h.
        let m = has_mapped (cells kept) (after.trees tree) x h in
        elim (either_row m.0 m.1) [
          | inl n ↦ inl (cells kept n.0, mapped_has (cells kept) rows n.0 n.1, n.2, m.2 ∙ ap (cells kept) n.3 ∙ shape _ _)
          | inr was ↦ inr (subst (Has (map (cells kept) rows)) (sym m.2) (mapped_has (cells kept) rows m.0 was.0), ap test m.2 ∙ was.1)
        ];
    all = λ x h. elim h [
      | inl n ↦
          let r = has_mapped (cells kept) rows n.0 n.1 in
          let there = put_all_adds updated.news (without_all rows updated.ids) (written r.0) updated.fresh (updated.news_all r.0 r.1 (ap test (sym r.2) ∙ n.2)) in
          subst (Has (map (cells kept) (after.trees tree))) (shape _ _ ∙ ap new (sym r.2) ∙ sym n.3) (mapped_has (cells kept) (after.trees tree) (written r.0) (subst (λ l. Has l (written r.0)) (sym updated.rows_are) there))
      | inr was ↦
          let r = has_mapped (cells kept) rows x was.0 in
          let lacks = fails_lacks kept rows stored test updated.ids updated.all updated.has r.0 r.1 (ap test (sym r.2) ∙ was.1) in
          let there = put_all_keeps updated.news (without_all rows updated.ids) r.0 updated.fresh (left_has updated.ids rows r.0 r.1 lacks) in
          subst (Has (map (cells kept) (after.trees tree))) (sym r.2) (mapped_has (cells kept) (after.trees tree) r.0 (subst (λ l. Has l r.0) (sym updated.rows_are) there))
    ];
    stored = λ _. record {
      numbered = λ a h. elim (either_row a h) [ inl n ↦ rw n.3 (stored.numbered n.0 n.1) | inr was ↦ stored.numbered a was.0 ];
      apart = subst StandApart (sym updated.rows_are) (puts_apart updated.news (without_all rows updated.ids) (left_apart updated.ids rows stored.apart) updated.fresh);
    };
  }

  pub updates : Changes kept old after (λ x. ((was : Row) × Has (rows_of kept old) was × (test was ≡ true) × (x ≡ new was)) ⊎ (Has (rows_of kept old) x × (test x ≡ false)))
  updates = changes_by kept old after there updated.schema (λ rows x. ((was : Row) × Has (map (cells kept) rows) was × (test was ≡ true) × (x ≡ new was)) ⊎ (Has (map (cells kept) rows) x × (test x ≡ false))) turns updated.others

module _ (kept : BookTable) (filter terms : List Term) (text : List ℕ)
    {count : ℕ} (read : IsRead kept text count (λ at tree. Update at (record { lets = []; body = plain_query tree filter (col 1 0 ∷ terms) [] })))
    (params : Row) (test : Row → Bool) (tests : (r : Row) → list_all (holds (params ∷ r ∷ [])) filter ≡ test (cells kept r))
    (change : Row → Row) (writes : (tree : ℕ) (r : Row) → is_int (rowid r) ≡ true → cast_row (table_of kept tree) (eval_all terms (params ∷ r ∷ [])) ≡ rowid r ∷ change (cells kept r))
    (shape : (v : Value) (x : Row) → cells kept (v ∷ change x) ≡ change x)
    (old : State) (there : IsTable kept old.now.schema) (free : IsUnreferenced kept old.now.schema) where
  pub update_writer : Writer text params (Updates kept test change) old
  update_writer = table_writer kept text params (λ at tree. Update at (record { lets = []; body = plain_query tree filter (col 1 0 ∷ terms) [] })) read (Updates kept test change) old there
      (λ t tally after _ h stored.
      updates kept old.step_limit old.now after t params tally filter terms there free h test tests (subst AreNumbered (stored_is kept old.now.schema there old.now refl) stored) change (writes there.tree) shape) (λ _ _ _ h. h) (λ e. cc) (λ n e. cc)

-- ---- why it is not made

edit_said : (e : Error) (why : Option Refusal) → Some e ≡ option_map edit_error why → table_fault_of e ≡ Store
edit_said e None h = absurd (cc)
edit_said e (Some why) h = ap table_fault_of (some_same h) ∙ edit_told why

module _ (kept : BookTable) (limit : Option ℕ) (old : Database) (text : List ℕ) (params : Row) (filter terms : List Term) (there : IsTable kept old.schema) (free : IsUnreferenced kept old.schema)
    (test : Row → Bool) (tests : (r : Row) → list_all (holds (params ∷ r ∷ [])) filter ≡ test (cells kept r))
    (new : Row → Row) (writes : (r : Row) → is_int (rowid r) ≡ true → cast_row (table_of kept there.tree) (eval_all terms (params ∷ r ∷ [])) ≡ rowid r ∷ new (cells kept r)) where
  abbrev own : Table
  own = table_of kept there.tree

  abbrev program : Program
  program = record { lets = []; body = plain_query there.tree filter (col 1 0 ∷ terms) [] }

  abbrev edit : List Row → Edit
  edit found = edit_of old.trees own (ids_of found) Given 1 found

  found_at : slice_get old.schema.tables (place kept old.schema there).0 ≡ Some own
  found_at = (place kept old.schema there).2

  pub update_told : (e : Error) → Does limit plain_mode params old text None (Update (place kept old.schema there).0 program) (Err (Some e)) → table_fault_of e ≡ Store
  update_told e does =
      let changed = rw found_at at does in
      elim changed [
        | inl first ↦ elim first.1 [
          | inl asked ↦ let it = queried_stops limit old program params asked.0 asked.1 in ap table_fault_of (some_same (err_same first.2 ∙ err_same asked.2 ∙ it.1)) ∙ refused_told limit old program params it.0 it.2
          | inr on ↦ elim on.2 [
            | inl edited ↦ edit_said e edited.1.0 (err_same first.2 ∙ err_same edited.2 ∙ edited.1.2)
            | inr done ↦ absurd (let no = done.2 in cc)
          ]
        ]
        | inr wrote ↦ elim wrote.2 [
          | inl tested ↦ ap table_fault_of (some_same (err_same tested.2 ∙ tested.1.1))
          | inr kept_keys ↦ elim kept_keys.2 [ inl shown ↦ absurd (let no = shown.1 in cc) | inr done ↦ absurd (let no = done.2 in cc) ]
        ]
      ]

  -- a row that cannot be kept is what some row was to become
  becomes : (rows : List Row) → Answers old program params rows → AreNumbered (old.trees there.tree) → (row : Row) → Has (edit rows).news row → (r : Row) × Has (old.trees there.tree) r × (test (cells kept r) ≡ true) × (row ≡ rowid r ∷ new (cells kept r))
  becomes rows answers stored row h =
      let cast_one = λ (s : Row). cast_row own (drop 1 s) in
      let news_are : (edit rows).news ≡ map cast_one rows = given (without_all (old.trees there.tree) (ids_of rows)) (map cast_one rows) in
      let q = has_mapped cast_one rows row (subst (λ l. Has l row) news_are h) in
      let r = answer_has there.tree filter (col 1 0 ∷ terms) [] (overlay old.trees []) params rows (answers.answer Null) q.0 q.1 in
      let here = subst (λ l. Has l r.0) (overlay_is old.trees there.tree) r.1 in
      (r.0, here, sym (tests r.0) ∙ r.2, q.2 ∙ ap cast_one r.3 ∙ writes r.0 (stored.numbered r.0 here))

  pub update_big : Does limit plain_mode params old text None (Update (place kept old.schema there).0 program) (Err None) → BecomesTooBig kept test new old
  update_big does numbered =
      let stored : AreNumbered (old.trees there.tree) = subst AreNumbered (stored_is kept old.schema there old refl) numbered in
      let changed = rw found_at at does in
      elim changed [
        | inl first ↦ elim first.1 [
          | inl asked ↦ absurd (let it = queried_stops limit old program params asked.0 asked.1 in let no = err_same first.2 ∙ err_same asked.2 ∙ it.1 in cc)
          | inr on ↦ elim on.2 [
            | inl edited ↦ elim (not_made old.schema old.trees (edit on.0) (no_work_of kept old.schema there free (taken_by old.trees (edit on.0)) (edit on.0).news) edited.1.0 edited.1.1) [
              | inl refused ↦ absurd (let no = err_same first.2 ∙ err_same edited.2 ∙ edited.1.2 ∙ ap (option_map edit_error) refused.1 in cc)
              | inr big ↦
                  let r = becomes on.0 on.1 stored big.1 big.2 in
                  let number : rowid r.0 ≡ Int (id_in (rowid r.0)) = int_is (rowid r.0) (stored.numbered r.0 r.1) in (
                    cells kept r.0,
                    subst (λ l. Has (map (cells kept) l) (cells kept r.0)) (sym (stored_is kept old.schema there old refl)) (mapped_has (cells kept) (old.trees there.tree) r.0 r.1),
                    r.2,
                    own,
                    there.found,
                    id_in (rowid r.0),
                    subst (IsOversized old.schema own) (r.3 ∙ ap (λ v. v ∷ new (cells kept r.0)) number) big.3,
                  )
            ]
            | inr done ↦ absurd (let no = done.2 in cc)
          ]
        ]
        | inr wrote ↦ elim wrote.2 [
          | inl tested ↦ absurd (let no = err_same tested.2 ∙ tested.1.1 in cc)
          | inr kept_keys ↦ elim kept_keys.2 [ inl shown ↦ absurd (let no = shown.1 in cc) | inr done ↦ absurd (let no = done.2 in cc) ]
        ]
      ]

module _ (kept : BookTable) (filter terms : List Term) (text : List ℕ)
    {count : ℕ} (read : IsRead kept text count (λ at tree. Update at (record { lets = []; body = plain_query tree filter (col 1 0 ∷ terms) [] })))
    (params : Row) (fits : count ≡ length params) (test : Row → Bool) (tests : (r : Row) → list_all (holds (params ∷ r ∷ [])) filter ≡ test (cells kept r))
    (change : Row → Row) (writes : (tree : ℕ) (r : Row) → is_int (rowid r) ≡ true → cast_row (table_of kept tree) (eval_all terms (params ∷ r ∷ [])) ≡ rowid r ∷ change (cells kept r))
    (old : State) (there : IsTable kept old.now.schema) (free : IsUnreferenced kept old.now.schema) where
  pub update_stopper : Stopper text params (BecomesTooBig kept test change old.now) (Unit {0}) old
  update_stopper = table_stopper kept text params (λ at tree. Update at (record { lets = []; body = plain_query tree filter (col 1 0 ∷ terms) [] })) read fits (BecomesTooBig kept test change old.now) (Unit {0}) old there
      (λ at tree c is none. rw (is, none) refl)
      (λ t. update_big kept old.step_limit old.now t params filter terms there free test tests change (writes there.tree))
      (λ t e _ does. (tt, update_told kept old.step_limit old.now t params filter terms there free test tests change (writes there.tree) e does))
      (λ e. in_place old _ e (λ i. cc) (λ i. cc) (λ i. cc) (λ n i. cc) (λ n i. cc))
