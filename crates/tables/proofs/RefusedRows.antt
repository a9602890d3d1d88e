-- Which rows INSERT refuses.
use Rattle.std.proofs.Common.{◌≡◌, ◌≢◌, ◌⊎◌, ◌/◌, ◌++◌, inl, inr, ℕ, ℤ, List, [], ◌∷◌, length, slice_get, option_map, true, false, true≢false, Some, None, Err, Option, IsSome, refl, sym, ap, subst, ◌∙◌, append-nil}
use Rattle.std.proofs.lemmas.Bool.{cases_eq, cases_Bool}
use Rattle.sqlite_value.specs.declared.value.Value.{Value}
use Rattle.sqlite_value.specs.declared.value.Value.TheVariants.{Null, Int}
use Rattle.sqlite_value.specs.Order.{Row}
use Rattle.sqlite_trees.specs.Tree.{Trees, with_tree}
use Rattle.sqlite_schema.specs.declared.schema.Among.TheVariants.{All}
use Rattle.sqlite_schema.specs.declared.schema.Constraint.TheVariants.{Datatype, NotNull, Check, PrimaryKey, Unique, ForeignKey}
use Rattle.sqlite_schema.specs.declared.schema.Index.{Index}
use Rattle.sqlite_schema.specs.declared.schema.Keys.TheVariants.{Enforced}
use Rattle.sqlite_schema.specs.declared.schema.Table.{Table}
use Rattle.sqlite_schema.specs.declared.command.Source.TheVariants.{Values}
use Rattle.sqlite_schema.specs.declared.command.Command.TheVariants.{Insert}
use Rattle.sqlite_schema.specs.Names.{same_name}
use Rattle.sqlite_schema.specs.Rules.{Keeps, Refers, agree, guards, are_typed, are_present}
use Rattle.sqlite_sql.specs.Ops.{fits_i64}
use Rattle.sqlite_sql.specs.Term.{Term}
use Rattle.sqlite_typing.specs.Types.{accepts_terms}
use Rattle.sqlite_rules.specs.declared.error.Rowids.TheVariants.{Chosen}
use Rattle.sqlite_rules.specs.declared.error.Refusal.{Refusal}
use Rattle.sqlite_rules.specs.declared.error.Refusal.TheVariants.{Violates, Mismatch, NoRowid, BadReference, TooDeep}
use Rattle.sqlite_rules.specs.Lists.{Has}
use Rattle.sqlite_rules.specs.Cast.{cast_row}
use Rattle.sqlite_rules.specs.Edit.{Edit, edit_of, next_rowid, put_all, with_rowid, is_taken, taken_by, Applies, IsRefused, IsOversized}
use Rattle.sqlite_rules.specs.Action.{works, Writes}
use Rattle.sqlite_rules.proofs.ListLemmas.{all_has}
use Rattle.sqlite_rules.proofs.RuleLemmas.{parent_is_table}
use Rattle.sqlite_rules.proofs.TableLemmas.{put_all_has, put_all_keeps}
use Rattle.sqlite_catalog.proofs.StepLemmas.{named_once, same_itself}
use Rattle.sqlite.specs.declared.error.Error.{Error}
use Rattle.sqlite.specs.Effect.{Database, IsDatabase, IsSource, value_rows, edit_error}
use Rattle.sqlite.specs.Rows.{Written, Sourced}
use Rattle.sqlite.specs.Does.{Does}
use Rattle.sqlite.specs.State.{State, IsLive}
use Rattle.sqlite.proofs.StateLemmas.{refers_if_sound}
use Rattle.tables.specs.Calls.{RefusesRow}
use Rattle.tables.specs.Faults.{table_fault_of}
use Rattle.tables.specs.declared.table_fault.TableFault.TheVariants.{Store}
use Rattle.tables.specs.Schema.{BookTable, IsTable, table_of}
use Rattle.tables.specs.Rows.{HasNoNumber, IsKeyTaken, IsTooBig}
use Rattle.tables.proofs.Compiling.{IsRead}
use Rattle.tables.proofs.Inserting.{applied, no_work_of_new, plain_mode, went, same_value}
use Rattle.tables.proofs.Known.{listed, place, stored_is, some_same}
use Rattle.tables.proofs.Refusing.{err_same, edit_told, not_made, refers_on, taken_where, tree_written, tree_kept}
use Rattle.tables.proofs.Statements.{Stopper, table_stopper}
use Rattle.tables.proofs.Stopping.{in_place}

sourced_stops : (limit : Option ℕ) (db : Database) (params : Row) (terms : List Term) (width : ℕ) → accepts_terms terms params ≡ true → (stop : Option Error) → Sourced limit db params (Values terms width) (Err stop)
    → (e : Error) × (stop ≡ Some e) × IsSome limit × (table_fault_of e ≡ Store)
sourced_stops limit db params terms width fits None h = absurd h
sourced_stops limit db params terms width fits (Some e) (inl h) = absurd (true≢false (sym fits ∙ h.1))
sourced_stops limit db params terms width fits (Some e) (inr h) = (e, refl, h.1, ap table_fault_of h.0)

module _ (kept : BookTable) (limit : Option ℕ) (old : Database) (text : List ℕ) (params : Row) (terms : List Term) (width : ℕ) (there : IsTable kept old.schema) (x source : Row)
    (one : value_rows params width (length terms / width) terms ≡ source ∷ []) (cast_is : cast_row (table_of kept there.tree) source ≡ Null ∷ x)
    (fits : accepts_terms terms params ≡ true) (typed : are_typed None 0 kept.columns x ≡ true) (present : (v : Value) → are_present None 0 kept.columns (v ∷ x) ≡ true) where
  abbrev tree : ℕ
  tree = there.tree

  abbrev table : Table
  table = table_of kept tree

  abbrev rows : List Row
  rows = old.trees tree

  abbrev n : ℤ
  n = next_rowid rows

  abbrev row : Row
  row = Int n ∷ x

  abbrev edit : Edit
  edit = record { table = table; gone = []; news = row ∷ [] }

  is : slice_get old.schema.tables (place kept old.schema there).0 ≡ Some table
  is = (place kept old.schema there).2

  edit_is : (given : List Row) → given ≡ source ∷ [] → edit_of old.trees table [] Chosen 0 given ≡ edit
  edit_is given same = ap (edit_of old.trees table [] Chosen 0) same ∙ ap (λ r. let e : Edit = record { table = table; gone = []; news = with_rowid Chosen rows r ∷ [] } in e) cast_is

  fits_all : accepts_terms terms (params ++ []) ≡ true
  fits_all = ap (accepts_terms terms) (append-nil params) ∙ fits

  given_is : (given : List Row) → IsSource old (params ++ []) (Values terms width) given → given ≡ source ∷ []
  given_is given h = h.1 ∙ ap (λ ps. value_rows ps width (length terms / width) terms) (append-nil params) ∙ one

  idle : works old.schema Enforced 0 tree (taken_by old.trees edit) (row ∷ []) ≡ []
  idle = no_work_of_new old.schema tree (row ∷ [])

  -- ---- the foreign keys hold as before

  module _ (sound : IsDatabase old) (two : Trees) (step : Applies old.schema Enforced old.trees edit two) where
    others : (t : Table) → Has old.schema.tables t → t.tree ≢ tree → two t.tree ≡ old.trees t.tree
    others t h = all_has _ old.schema.tables t step.tables h

    is_table : (t : Table) → Has old.schema.tables t → t.tree ≡ tree → t ≡ table
    is_table t h same =
        let name = all_has _ old.schema.tables t there.alone h same in
        named_once old.schema.tables t table sound.lists.listed.named h (listed kept old.schema there) (subst (λ m. same_name m kept.name ≡ true) (sym name) (same_itself kept.name))

    still_refers : Refers All old.schema two
    still_refers = refers_on old.schema old.trees two
        (λ t r h k. elim (cases_eq t.tree tree) [
          | inl same ↦ elim (put_all_has (row ∷ []) rows r (subst (λ l. Has l r) step.rows (subst (λ m. Has (two m) r) same k))) [
            | inl new ↦ inr (ap (λ (u : Table). u.references) (is_table t h same))
            | inr was ↦ inl (subst (λ m. Has (old.trees m) r) (sym same) was)
          ]
          | inr apart ↦ inl (subst (λ l. Has l r) (others t h apart) k)
        ])
        (λ t ref h k key at p had. elim (cases_eq key.0 tree) [
          | inl same ↦ subst (λ m. Has (two m) p) (sym same) (subst (λ l. Has l p) (sym step.rows) (put_all_keeps (row ∷ []) rows p step.fresh (subst (λ m. Has (old.trees m) p) same had)))
          | inr apart ↦
              let parent = parent_is_table old.schema.tables ref key at in
              let away : parent.0.tree ≢ tree = λ same. apart (sym parent.2 ∙ same) in
              subst (λ m. Has (two m) p) parent.2 (subst (λ l. Has l p) (sym (others parent.0 parent.1 away)) (subst (λ m. Has (old.trees m) p) (sym parent.2) had))
        ])
        (refers_if_sound old.schema old.trees sound)

  -- ---- what is refused

  abbrev IsTaken : Type 0
  IsTaken = (i : Index) × Has old.schema.indexes i × (guards i table ≡ true) × (r : Row) × Has rows r × (agree i.order i.columns r i.columns row ≡ true)

  abbrev Why : Type 0
  Why = ((fits_i64 n ≡ false) ⊎ (is_taken rows (Int n ∷ []) ≡ true)) ⊎ IsTaken

  refusal : Keeps Unique old.schema old.trees → (why : Refusal) → IsRefused old.schema Enforced old.trees edit why → Why
  refusal unique (Violates Datatype) h = absurd (let no = rw typed at h in cc)
  refusal unique (Violates NotNull) h = absurd (let no = rw (present (Int n)) at h in cc)
  refusal unique (Violates Check) h = absurd (cc)
  refusal unique (Violates PrimaryKey) h = inl (inr (elim (cases_Bool (is_taken rows row)) [ inl taken ↦ taken | inr free ↦ absurd (let no = rw free at h in cc) ]))
  refusal unique (Violates Unique) h =
      let two = with_tree old.trees tree (put_all rows (row ∷ [])) in
      inr (taken_where old.schema table old.trees two n x (λ t _ apart. tree_kept old.trees tree _ t.tree apart)
      (λ r k. elim (put_all_has (row ∷ []) rows r (subst (λ l. Has l r) (tree_written old.trees tree _) k)) [
        | inl new ↦ elim new [ inl same ↦ inl same | inr none ↦ absurd none ]
        | inr was ↦ inr was
      ]) h unique)
  refusal unique (Violates ForeignKey) h = absurd h
  refusal unique Mismatch h = absurd (cc)
  refusal unique NoRowid h = inl (inl (elim (cases_Bool (fits_i64 n)) [ inl low ↦ absurd (let no = rw low at h in cc) | inr high ↦ high ]))
  refusal unique BadReference h = absurd (cc)
  refusal unique TooDeep h = absurd h

  written_as : (given : List Row) → IsSource old (params ++ []) (Values terms width) given → (end : Rattle.sqlite_rules.specs.Action.End) → Writes old.schema Enforced old.trees (edit_of old.trees table [] Chosen 0 given) end
      → Writes old.schema Enforced old.trees edit end
  written_as given h end = subst (λ e. Writes old.schema Enforced old.trees e end) (edit_is given (given_is given h))

  pub insert_big : Does limit plain_mode params old text None (Insert (place kept old.schema there).0 (Values terms width)) (Err None) → IsOversized old.schema table row
  insert_big does =
      let changed = rw is at does in
      elim changed [
        | inl first ↦ elim first.1 [
          | inl sourced ↦ let it = sourced_stops limit old (params ++ []) terms width fits_all sourced.0 sourced.1 in let no = err_same first.2 ∙ err_same sourced.2 ∙ it.1 in absurd (cc)
          | inr given ↦ elim given.2 [
            | inl counted ↦ absurd (let no = counted.1 in cc)
            | inr counter ↦ elim counter.2 [
              | inl edited ↦ elim (not_made old.schema old.trees edit idle edited.1.0 (written_as given.0 given.1 _ edited.1.1)) [
                | inl refused ↦ absurd (let no = err_same first.2 ∙ err_same edited.2 ∙ edited.1.2 ∙ ap (option_map edit_error) refused.1 in cc)
                | inr big ↦ elim big.2 [ inl same ↦ subst (IsOversized old.schema table) same big.3 | inr none ↦ absurd none ]
              ]
              | inr mid ↦ elim mid.2 [ inl counts ↦ absurd (let no = counts.1 in cc) | inr done ↦ absurd (let no = done.2 in cc) ]
            ]
          ]
        ]
        | inr wrote ↦ elim wrote.2 [
          | inl tested ↦ absurd (let no = err_same tested.2 ∙ tested.1.1 in cc)
          | inr kept_keys ↦ elim kept_keys.2 [ inl shown ↦ absurd (let no = shown.1 in cc) | inr done ↦ absurd (let no = done.2 in cc) ]
        ]
      ]

  module _ (sound : IsDatabase old) (e : Error) where
    pub insert_stops : Does limit plain_mode params old text None (Insert (place kept old.schema there).0 (Values terms width)) (Err (Some e)) → (IsSome limit ⊎ Why) × (table_fault_of e ≡ Store)
    insert_stops does =
        let changed = rw is at does in
        elim changed [
          | inl first ↦ elim first.1 [
            | inl sourced ↦
                let it = sourced_stops limit old (params ++ []) terms width fits_all sourced.0 sourced.1 in
                (inl it.2, ap table_fault_of (some_same (err_same first.2 ∙ err_same sourced.2 ∙ it.1)) ∙ it.3)
            | inr given ↦ elim given.2 [
              | inl counted ↦ absurd (let no = counted.1 in cc)
              | inr counter ↦ elim counter.2 [
                | inl edited ↦
                    let end = err_same first.2 ∙ err_same edited.2 ∙ edited.1.2 in
                    elim (not_made old.schema old.trees edit idle edited.1.0 (written_as given.0 given.1 _ edited.1.1)) [
                      | inl refused ↦
                          let same : Some e ≡ Some (edit_error refused.0) = end ∙ ap (option_map edit_error) refused.1 in
                          (inr (refusal (sound.obeys.rules Unique) refused.0 refused.2), ap table_fault_of (some_same same) ∙ edit_told refused.0)
                      | inr big ↦ absurd (let no = end ∙ ap (option_map edit_error) big.0 in cc)
                    ]
                | inr mid ↦ elim mid.2 [ inl counts ↦ absurd (let no = counts.1 in cc) | inr done ↦ absurd (let no = done.2 in cc) ]
              ]
            ]
          ]
          | inr wrote ↦
              let given = went wrote.1 in
              let written = went (went given.2).2 in
              let counted = went written.2 in
              let trees : wrote.0.trees ≡ written.0 = ap (λ (it : Written). it.trees) (same_value counted.2) ∙ same_value counted.1 in
              let step = applied old.schema old.trees written.0 edit idle (written_as given.0 given.1 _ written.1) in
              elim wrote.2 [
                | inl tested ↦ absurd (tested.1.0 (subst (Refers All old.schema) (sym trees) (still_refers sound written.0 step)))
                | inr kept_keys ↦ elim kept_keys.2 [ inl shown ↦ absurd (let no = shown.1 in cc) | inr done ↦ absurd (let no = done.2 in cc) ]
              ]
        ]

-- ---- in the words of the contracts

module _ (kept : BookTable) (terms : List Term) (width : ℕ) (text : List ℕ) {count : ℕ} (read : IsRead kept text count (λ at _. Insert at (Values terms width)))
    (params x : Row) (given : count ≡ length params) (one : value_rows params width (length terms / width) terms ≡ (Null ∷ x) ∷ []) (cast_is : (tree : ℕ) → cast_row (table_of kept tree) (Null ∷ x) ≡ Null ∷ x)
    (fits : accepts_terms terms params ≡ true) (typed : are_typed None 0 kept.columns x ≡ true) (present : (v : Value) → are_present None 0 kept.columns (v ∷ x) ≡ true)
    (old : State) (live : IsLive old) (there : IsTable kept old.now.schema) where
  abbrev rows_in : List Row
  rows_in = old.now.trees there.tree

  told_by : Why kept old.step_limit old.now text params terms width there x (Null ∷ x) one (cast_is there.tree) fits typed present → HasNoNumber kept old.now ⊎ IsKeyTaken kept x old.now
  told_by (inl none) = inl (subst (λ l. (fits_i64 (next_rowid l) ≡ false) ⊎ (is_taken l (Int (next_rowid l) ∷ []) ≡ true)) (sym (stored_is kept old.now.schema there old.now refl)) none)
  told_by (inr taken) = inr (
    table_of kept there.tree,
    there.found,
    taken.0,
    taken.1,
    taken.2,
    taken.3,
    taken.4,
    subst (λ l. agree taken.0.order taken.0.columns taken.3 taken.0.columns (Int (next_rowid l) ∷ x) ≡ true) (sym (stored_is kept old.now.schema there old.now refl)) taken.5,
  )

  refused_by : IsSome old.step_limit ⊎ Why kept old.step_limit old.now text params terms width there x (Null ∷ x) one (cast_is there.tree) fits typed present → RefusesRow kept x old
  refused_by (inl limited) = inl limited
  refused_by (inr why) = inr (told_by why)

  pub insert_stopper : Stopper text params (IsTooBig kept x old.now) (RefusesRow kept x old) old
  insert_stopper = table_stopper kept text params (λ at _. Insert at (Values terms width)) read given (IsTooBig kept x old.now) (RefusesRow kept x old) old there (λ at tree c is none. rw (is, none) refl)
      (λ t does. (
        table_of kept there.tree,
        there.found,
        subst (λ l. IsOversized old.now.schema (table_of kept there.tree) (Int (next_rowid l) ∷ x)) (sym (stored_is kept old.now.schema there old.now refl))
            (insert_big kept old.step_limit old.now t params terms width there x (Null ∷ x) one (cast_is there.tree) fits typed present does),
      ))
      (λ t e opened does. let it = insert_stops kept old.step_limit old.now t params terms width there x (Null ∷ x) one (cast_is there.tree) fits typed present (live opened).0 e does in (refused_by it.0, it.1))
      (λ e. in_place old _ e (λ i. cc) (λ i. cc) (λ i. cc) (λ n i. cc) (λ n i. cc))
