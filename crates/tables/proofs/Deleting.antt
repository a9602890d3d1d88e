-- DELETE of the rows with a key.
use Rattle.std.proofs.Common.{◌≡◌, ◌≢◌, map, inl, inr, ℕ, ℤ, List, [], ◌∷◌, length, slice_get, option_map, Bool, true, false, not, Some, None, Ok, Err, Option, IsSome, refl, sym, ap, subst, ◌∙◌, Ordering, Less, Equal, Greater}
use Rattle.std.specs.Ordering.{is_eq}
use Rattle.std.specs.List.{list_all}
use Rattle.std.proofs.lemmas.Bool.{cases_Bool, cases_eq, not-true, both_ways, or_left, or_right}
use Rattle.std.proofs.lemmas.Cmp.{tied_itself}
use Rattle.sqlite_value.specs.declared.value.Value.TheVariants.{Null, Int}
use Rattle.sqlite_value.specs.Order.{Row, value_cmp}
use Rattle.sqlite_value.proofs.OrderLemmas.{value_cmp_total}
use Rattle.sqlite_trees.specs.Tree.{Trees, rowid, has_rowid, without_rowid, with_tree}
use Rattle.sqlite_schema.specs.declared.schema.Table.{Table}
use Rattle.sqlite_schema.specs.declared.program.Program.{Program}
use Rattle.sqlite_schema.specs.declared.schema.Among.TheVariants.{All}
use Rattle.sqlite_schema.specs.declared.schema.Constraint.TheVariants.{Datatype, NotNull, Check, PrimaryKey, Unique, ForeignKey}
use Rattle.sqlite_schema.specs.declared.schema.Keys.TheVariants.{Enforced}
use Rattle.sqlite_schema.specs.Rules.{Keeps, Refers, is_key_if_to}
use Rattle.sqlite_schema.specs.declared.command.Command.TheVariants.{Delete}
use Rattle.sqlite_sql.specs.Term.{Term, col, holds}
use Rattle.sqlite_sql.specs.Program.{overlay}
use Rattle.sqlite_rules.specs.declared.error.Rowids.TheVariants.{Given}
use Rattle.sqlite_rules.specs.declared.error.Refusal.{Refusal}
use Rattle.sqlite_rules.specs.declared.error.Refusal.TheVariants.{Violates, Mismatch, NoRowid, BadReference, TooDeep}
use Rattle.sqlite_rules.specs.Lists.{Has}
use Rattle.sqlite_rules.specs.Calls.{ids_of}
use Rattle.sqlite_rules.specs.Edit.{Edit, edit_of, id_in, without_all, taken_by, Applies, IsRefused}
use Rattle.sqlite_rules.specs.Action.{Writes}
use Rattle.sqlite_rules.proofs.ListLemmas.{all_has, has_filtered, has_kept, test_from}
use Rattle.sqlite_rules.proofs.RuleLemmas.{parent_is_table}
use Rattle.sqlite_rules.proofs.TableLemmas.{int_is, without_all_has}
use Rattle.sqlite_rules.proofs.ProbeLemmas.{has_mapped, mapped_has}
use Rattle.sqlite.specs.declared.error.Error.{Error}
use Rattle.sqlite.specs.Effect.{Database, IsDatabase, edit_error}
use Rattle.sqlite.specs.Rows.{Written, Queried, Edited}
use Rattle.sqlite.specs.Does.{Tally, Does}
use Rattle.sqlite.specs.State.{State, IsLive}
use Rattle.sqlite.proofs.StateLemmas.{refers_if_sound}
use Rattle.tables.proofs.Answering.{plain_query, answer_has, answer_all, overlay_is}
use Rattle.tables.proofs.Known.{place, known, stored_is, some_same}
use Rattle.tables.proofs.Compiling.{IsRead}
use Rattle.tables.proofs.Refusing.{err_same, suits, limited, queried_stops, not_made, refers_on, unique_fewer, tree_written, tree_kept}
use Rattle.tables.proofs.Stopping.{in_place}
use Rattle.tables.proofs.Inserting.{applied, elsewhere, no_work_of, ChangesRows, changes_by, plain_mode, went, same_value}
use Rattle.tables.proofs.Statements.{Writer, Stopper, table_writer, table_stopper}
use Rattle.tables.specs.Calls.{HasStepLimit}
use Rattle.tables.specs.Faults.{table_fault_of}
use Rattle.tables.specs.declared.table_fault.TableFault.TheVariants.{Store}
use Rattle.tables.specs.Schema.{BookTable, IsTable, IsUnreferenced, table_of}
use Rattle.tables.proofs.Apart.{left_apart, one_place}
use Rattle.tables.specs.Rows.{cells, rows_of, StandApart, AreNumbered, Changes, Deletes}

pub equal_is : (o : Ordering) → is_eq o ≡ true → o ≡ Equal
equal_is Less h = absurd (cc)
equal_is Equal h = refl
equal_is Greater h = absurd (cc)

abbrev pub Lacks : List ℤ → Row → Type 0
Lacks ids x = (id : ℤ) → Has ids id → has_rowid id x ≡ false

pub left_from : (ids : List ℤ) (rows : List Row) (x : Row) → Has (without_all rows ids) x → Has rows x × Lacks ids x
left_from [] rows x h = (h, λ id none. absurd none)
left_from (id ∷ ids) rows x h =
    let r = left_from ids (without_rowid id rows) x h in
    let was = has_filtered (λ y. not (has_rowid id y)) rows x r.0 in
    (was.0, λ other k. elim k [ inl e ↦ rw e (not-true _ was.1) | inr more ↦ r.1 other more ])

pub left_has : (ids : List ℤ) (rows : List Row) (x : Row) → Has rows x → Lacks ids x → Has (without_all rows ids) x
left_has [] rows x h lacks = h
left_has (id ∷ ids) rows x h lacks = left_has ids (without_rowid id rows) x (has_kept (λ y. not (has_rowid id y)) rows x h (ap not (lacks id (inl refl)))) (λ other k. lacks other (inr k))

module _ (kept : BookTable) (limit : Option ℕ) (old after : Database) (text : List ℕ) (params : Row) (tally : Tally) (filter : List Term)
    (there : IsTable kept old.schema) (free : IsUnreferenced kept old.schema)
    (does : Does limit plain_mode params old text None (Delete (place kept old.schema there).0 (record { lets = []; body = plain_query there.tree filter (col 1 0 ∷ []) [] })) (Ok (tally, after)))
    (test : Row → Bool) (tests : (r : Row) → list_all (holds (params ∷ r ∷ [])) filter ≡ test (cells kept r)) (stored : AreNumbered (old.trees there.tree)) where
  abbrev tree : ℕ
  tree = there.tree

  abbrev table : Table
  table = table_of kept tree

  abbrev rows : List Row
  rows = old.trees tree

  is : slice_get old.schema.tables (place kept old.schema there).0 ≡ Some table
  is = (place kept old.schema there).2

  pub record Deleted : Type 0 where
    pub ids : List ℤ
    pub schema : after.schema ≡ old.schema
    pub applies : Applies old.schema Enforced old.trees (edit_of old.trees table ids Given 0 []) after.trees
    pub all : (r : Row) → Has rows r → test (cells kept r) ≡ true → Has ids (id_in (rowid r))
    pub has : (id : ℤ) → Has ids id → (r : Row) × Has rows r × (test (cells kept r) ≡ true) × (id ≡ id_in (rowid r))

  deleted : Deleted
  deleted =
      let changed = rw is at does in
      let done = went changed in
      let now = ap (λ (p : Tally × Database). p.1) (same_value (went (went done.2).2).2) in
      let asked = went done.1 in
      let written = went asked.2 in
      let trees : done.0.trees ≡ written.0 = ap (λ (it : Written). it.trees) (same_value written.2) in
      let step = applied old.schema old.trees written.0 (edit_of old.trees table (ids_of asked.0) Given 0 [])
      (no_work_of kept old.schema there free (taken_by old.trees (edit_of old.trees table (ids_of asked.0) Given 0 [])) []) written.1 in
      let a = asked.1.answer Null in
      let over = overlay_is old.trees tree in
      record {
        ids = ids_of asked.0;
        schema = ap (λ (d : Database). d.schema) now;
        applies = subst (Applies old.schema Enforced old.trees (edit_of old.trees table (ids_of asked.0) Given 0 [])) (sym (ap (λ (d : Database). d.trees) now ∙ trees)) step;
        all = λ r h passes.
            mapped_has (λ q. id_in (rowid q)) asked.0 (rowid r ∷ [])
            (answer_all tree filter (col 1 0 ∷ []) [] (overlay old.trees []) params asked.0 a r (subst (λ l. Has l r) (sym over) h) (tests r ∙ passes));
        has = λ id h.
            let q = has_mapped (λ q. id_in (rowid q)) asked.0 id h in
            let r = answer_has tree filter (col 1 0 ∷ []) [] (overlay old.trees []) params asked.0 a q.0 q.1 in
            (r.0, subst (λ l. Has l r.0) over r.1, sym (tests r.0) ∙ r.2, q.2 ∙ ap (λ x. id_in (rowid x)) r.3);
      }

  rest : after.trees tree ≡ without_all rows deleted.ids
  rest = deleted.applies.rows

  own_number : (r : Row) → Has rows r → rowid r ≡ Int (id_in (rowid r))
  own_number r h = int_is (rowid r) (stored.numbered r h)

  still : (r : Row) → Has (after.trees tree) r → Has rows r × Lacks deleted.ids r
  still r h = left_from deleted.ids rows r (subst (λ l. Has l r) rest h)

  shrinks : ChangesRows kept rows (after.trees tree) (λ x. Has (map (cells kept) rows) x × (test x ≡ false))
  shrinks = record {
    has = λ x h.
        let m = has_mapped (cells kept) (after.trees tree) x h in
        let l = still m.0 m.1 in (
          subst (Has (map (cells kept) rows)) (sym m.2) (mapped_has (cells kept) rows m.0 l.0),
          ap test m.2 ∙ elim (cases_Bool (test (cells kept m.0))) [
            | inl passes ↦ absurd (
                let lacks = l.1 _ (deleted.all m.0 l.0 passes) in
                let tie : value_cmp (rowid m.0) (Int (id_in (rowid m.0))) ≡ Equal = subst (λ v. value_cmp (rowid m.0) v ≡ Equal) (own_number m.0 l.0) (tied_itself value_cmp_total (rowid m.0)) in
                let e = ap is_eq tie in cc)
            | inr fails ↦ fails
          ],
        );
    all = λ x h.
        let m = has_mapped (cells kept) rows x h.0 in
        let lacks : Lacks deleted.ids m.0 = λ id k. elim (cases_Bool (has_rowid id m.0)) [
          | inl tied ↦ absurd (
              let r = deleted.has id k in
              let its : rowid r.0 ≡ Int id = own_number r.0 r.1 ∙ ap Int (sym r.3) in
              let same = one_place rows stored.apart m.0 r.0 m.1 r.1 (subst (λ v. value_cmp (rowid m.0) v ≡ Equal) (sym its) (equal_is _ tied)) in
              let passes = ap test (m.2 ∙ ap (cells kept) same) ∙ r.2 in
              let fails = h.1 in
              cc)
          | inr other ↦ other
        ] in
        subst (Has (map (cells kept) (after.trees tree))) (sym m.2) (mapped_has (cells kept) (after.trees tree) m.0 (subst (λ l. Has l m.0) (sym rest) (left_has deleted.ids rows m.0 m.1 lacks)));
    stored = λ _. record {
      numbered = λ r h. stored.numbered r (still r h).0;
      apart = subst StandApart (sym rest) (left_apart deleted.ids rows stored.apart);
    };
  }

  pub deletes : Changes kept old after (λ x. Has (rows_of kept old) x × (test x ≡ false))
  deletes = changes_by kept old after there deleted.schema (λ rows x. Has (map (cells kept) rows) x × (test x ≡ false)) shrinks deleted.applies.tables

-- ---- it is never refused, but where a limit on its steps is met

module _ (kept : BookTable) (limit : Option ℕ) (old : Database) (text : List ℕ) (params : Row) (filter : List Term) (there : IsTable kept old.schema) (free : IsUnreferenced kept old.schema)
    (fits : suits kept filter (col 1 0 ∷ []) [] params ≡ true) where
  abbrev own : Table
  own = table_of kept there.tree

  abbrev program : Program
  program = record { lets = []; body = plain_query there.tree filter (col 1 0 ∷ []) [] }

  abbrev edit : List Row → Edit
  edit rows = edit_of old.trees own (ids_of rows) Given 0 []

  found_at : slice_get old.schema.tables (place kept old.schema there).0 ≡ Some own
  found_at = (place kept old.schema there).2

  query_stops : (stop : Option Error) → Queried limit old program params (Err stop) → (e : Error) × (stop ≡ Some e) × IsSome limit × (table_fault_of e ≡ Store)
  query_stops stop asked =
      let it = queried_stops limit old program params stop asked in
      let why = limited kept filter (col 1 0 ∷ []) [] params limit old (place kept old.schema there).0 there.tree (known kept old.schema there) fits it.0 it.2 in
      (it.0, it.1, why.0, why.1)

  -- the rows that are left
  module _ (rows : List Row) (two : Trees) (left : two there.tree ≡ without_all (old.trees there.tree) (ids_of rows)) (others : (t : Table) → Has old.schema.tables t → t.tree ≢ there.tree → two t.tree ≡ old.trees t.tree) where
    fewer : (t : Table) (row : Row) → Has old.schema.tables t → Has (two t.tree) row → Has (old.trees t.tree) row
    fewer t row listed h = elim (cases_eq t.tree there.tree) [
      | inl same ↦
          let here : Has (two there.tree) row = subst (λ k. Has (two k) row) same h in
          subst (λ k. Has (old.trees k) row) (sym same) (without_all_has (ids_of rows) (old.trees there.tree) row (subst (λ l. Has l row) left here))
      | inr differs ↦ subst (λ l. Has l row) (others t listed differs) h
    ]

    still_refers : Refers All old.schema old.trees → Refers All old.schema two
    still_refers = refers_on old.schema old.trees two (λ t row listed h. inl (fewer t row listed h)) (λ t ref h k key is p had.
        let parent = parent_is_table old.schema.tables ref key is in
        let apart : parent.0.tree ≢ there.tree = λ same. elsewhere kept old.schema there free t ref h k key is (sym parent.2 ∙ same) in
        subst (λ n. Has (two n) p) parent.2 (subst (λ l. Has l p) (sym (others parent.0 parent.1 apart)) (subst (λ n. Has (old.trees n) p) (sym parent.2) had)))

  spared : list_all (λ t. list_all (is_key_if_to old.schema own) t.references) old.schema.tables ≡ true
  spared = test_from (λ (t : Table). list_all (is_key_if_to old.schema own) t.references) old.schema.tables (λ t h. test_from (is_key_if_to old.schema own) t.references (λ ref k.
      or_left _ _ (ap not (all_has _ t.references ref (all_has _ old.schema.tables t free h) k))))

  module _ (unique : Keeps Unique old.schema old.trees) (rows : List Row) where
    never : (why : Refusal) → IsRefused old.schema Enforced old.trees (edit rows) why → ⊥
    never (Violates Datatype) h = cc
    never (Violates NotNull) h = cc
    never (Violates Check) h = cc
    never (Violates PrimaryKey) h = cc
    never (Violates Unique) h =
        let two = with_tree old.trees there.tree (without_all (old.trees there.tree) (ids_of rows)) in
        h (unique_fewer old.schema old.trees two (fewer rows two (tree_written old.trees there.tree _) (λ t listed other. tree_kept old.trees there.tree _ t.tree other)) unique)
    never (Violates ForeignKey) h = h
    never Mismatch h = cc
    never NoRowid h = cc
    never BadReference h = both_ways _ h (or_right _ _ spared)
    never TooDeep h = h

    edit_goes : (stop : Option Error) → Edited old.schema Enforced old.trees (edit rows) (Err stop) → ⊥
    edit_goes stop h = elim (not_made old.schema old.trees (edit rows) (no_work_of kept old.schema there free (taken_by old.trees (edit rows)) []) h.0 h.1) [
      | inl refused ↦ never refused.0 refused.2
      | inr big ↦ absurd big.2
    ]

  pub delete_small : Does limit plain_mode params old text None (Delete (place kept old.schema there).0 program) (Err None) → ⊥
  delete_small does =
      let changed = rw found_at at does in
      elim changed [
        | inl first ↦ elim first.1 [
          | inl asked ↦ let it = queried_stops limit old program params asked.0 asked.1 in let no = err_same first.2 ∙ err_same asked.2 ∙ it.1 in absurd (cc)
          | inr on ↦ elim on.2 [
            | inl edited ↦ elim (not_made old.schema old.trees (edit on.0) (no_work_of kept old.schema there free (taken_by old.trees (edit on.0)) []) edited.1.0 edited.1.1) [
              | inl refused ↦ absurd (let no = err_same first.2 ∙ err_same edited.2 ∙ edited.1.2 ∙ ap (option_map edit_error) refused.1 in cc)
              | inr big ↦ absurd big.2
            ]
            | inr done ↦ absurd (let no = done.2 in cc)
          ]
        ]
        | inr wrote ↦ elim wrote.2 [
          | inl tested ↦ absurd (let no = err_same tested.2 ∙ tested.1.1 in cc)
          | inr kept_keys ↦ elim kept_keys.2 [ inl shown ↦ absurd (let no = shown.1 in cc) | inr done ↦ absurd (let no = done.2 in cc) ]
        ]
      ]

  module _ (sound : IsDatabase old) where
    concludes : (rows : List Row) (next : Trees) (w : Written) → w.trees ≡ next → Writes old.schema Enforced old.trees (edit rows) (Ok next) → Refers All old.schema w.trees
    concludes rows next w same writes =
        let step = applied old.schema old.trees next (edit rows) (no_work_of kept old.schema there free (taken_by old.trees (edit rows)) []) writes in
        subst (Refers All old.schema) (sym same)
        (still_refers rows next step.rows (λ t listed. all_has _ old.schema.tables t step.tables listed) (refers_if_sound old.schema old.trees sound))

    pub delete_stops : (out : Option Error) → Does limit plain_mode params old text None (Delete (place kept old.schema there).0 program) (Err out) → (e : Error) × (out ≡ Some e) × IsSome limit × (table_fault_of e ≡ Store)
    delete_stops out does =
        let changed = rw found_at at does in
        elim changed [
          | inl first ↦ elim first.1 [
            | inl asked ↦ let it = query_stops asked.0 asked.1 in (it.0, err_same first.2 ∙ err_same asked.2 ∙ it.1, it.2, it.3)
            | inr on ↦ elim on.2 [
              | inl edited ↦ absurd (edit_goes (sound.obeys.rules Unique) on.0 edited.0 edited.1)
              | inr done ↦ absurd (let no = done.2 in cc)
            ]
          ]
          | inr wrote ↦
              let asked = went wrote.1 in
              let edited = went asked.2 in
              elim wrote.2 [
                | inl tested ↦ absurd (tested.1.0 (concludes asked.0 edited.0 wrote.0 (ap (λ (it : Written). it.trees) (same_value edited.2)) edited.1))
                | inr kept_keys ↦ elim kept_keys.2 [ inl shown ↦ absurd (let no = shown.1 in cc) | inr done ↦ absurd (let no = done.2 in cc) ]
              ]
        ]

module _ (kept : BookTable) (filter : List Term) (text : List ℕ)
    {count : ℕ} (read : IsRead kept text count (λ at tree. Delete at (record { lets = []; body = plain_query tree filter (col 1 0 ∷ []) [] })))
    (params : Row) (test : Row → Bool) (tests : (r : Row) → list_all (holds (params ∷ r ∷ [])) filter ≡ test (cells kept r))
    (old : State) (there : IsTable kept old.now.schema) (free : IsUnreferenced kept old.now.schema) where
  pub delete_writer : Writer text params (Deletes kept test) old
  delete_writer = table_writer kept text params (λ at tree. Delete at (record { lets = []; body = plain_query tree filter (col 1 0 ∷ []) [] })) read (Deletes kept test) old there
      (λ t tally after _ h stored.
      deletes kept old.step_limit old.now after t params tally filter there free h test tests (subst AreNumbered (stored_is kept old.now.schema there old.now refl) stored)) (λ _ _ _ h. h) (λ e. cc) (λ n e. cc)

module _ (kept : BookTable) (filter : List Term) (text : List ℕ)
    {count : ℕ} (read : IsRead kept text count (λ at tree. Delete at (record { lets = []; body = plain_query tree filter (col 1 0 ∷ []) [] })))
    (params : Row) (given : count ≡ length params) (fits : suits kept filter (col 1 0 ∷ []) [] params ≡ true)
    (old : State) (live : IsLive old) (there : IsTable kept old.now.schema) (free : IsUnreferenced kept old.now.schema) where
  pub delete_stopper : Stopper text params ⊥ (HasStepLimit old) old
  delete_stopper = table_stopper kept text params (λ at tree. Delete at (record { lets = []; body = plain_query tree filter (col 1 0 ∷ []) [] })) read given ⊥ (HasStepLimit old) old there (λ at tree c is none. rw (is, none) refl)
      (λ t. delete_small kept old.step_limit old.now t params filter there free fits)
      (λ t e opened does. let it = delete_stops kept old.step_limit old.now t params filter there free fits (live opened).0 (Some e) does in (it.2, ap table_fault_of (some_same it.1) ∙ it.3))
      (λ e. in_place old _ e (λ i. cc) (λ i. cc) (λ i. cc) (λ n i. cc) (λ n i. cc))
