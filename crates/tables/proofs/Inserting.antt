-- INSERT of one row.
use Rattle.std.proofs.Common.{◌≢◌, ◌==◌, ◌&&◌, find, option_map, option_and_then, eqb-true, subst₂, ◌≡◌, ◌⊎◌, inl, inr, ℕ, ◌/◌, pos, List, [], ◌∷◌, map, drop, flat_map, filter_map, slice_get, Bool, true, false, cond, Some, None, Ok, Err, Result, Option, refl, sym, ap, subst, ◌∙◌, append-nil, length, ℤ}
use Rattle.std.specs.Ordering.{is_eq}
use Rattle.std.specs.List.{AllByRecursion}
use Rattle.sqlite_value.specs.declared.value.Value.{Value}
use Rattle.sqlite_value.specs.declared.value.Value.TheVariants.{Null, Int, Real, Text, Blob}
use Rattle.sqlite_value.specs.Order.{Row, value_cmp}
use Rattle.sqlite_trees.specs.Tree.{Trees, rowid}
use Rattle.sqlite_trees.specs.View.{is_int}
use Rattle.tables.specs.Records.{number_or_null}
use Rattle.sqlite_schema.specs.declared.schema.Table.{Table}
use Rattle.sqlite_schema.specs.declared.schema.Schema.{Schema}
use Rattle.sqlite_schema.specs.declared.schema.Kind.TheVariants.{Integer}
use Rattle.sqlite_schema.specs.declared.schema.Keys.TheVariants.{Enforced}
use Rattle.sqlite_schema.specs.declared.command.Source.TheVariants.{Values}
use Rattle.sqlite_schema.specs.declared.command.Command.TheVariants.{Insert}
use Rattle.sqlite_sql.specs.Term.{Term}
use Rattle.sqlite_sql.specs.Ops.{unary}
use Rattle.sqlite_rules.specs.declared.error.Rowids.TheVariants.{Chosen}
use Rattle.sqlite_rules.specs.Lists.{Has}
use Rattle.sqlite_rules.specs.Cast.{cast, cast_row}
use Rattle.sqlite_rules.specs.Edit.{Edit, edit_of, next_rowid, put_all, taken_by, Applies, numbered, with_rowid, are_fresh}
use Rattle.sqlite_rules.specs.Action.{works, work_for, work_by, Work, pairs, deed_for}
use Rattle.sqlite_rules.specs.declared.action.Deed.{Deed}
use Rattle.sqlite_schema.specs.declared.schema.Reference.{Reference}
use Rattle.sqlite_schema.specs.Names.{same_name}
use Rattle.sqlite_schema.specs.Rules.{ParentKey, parent_key, key_in, key_places, declared_order}
use Rattle.sqlite_value.specs.declared.keys.Order.{Order}
use Rattle.std.proofs.lemmas.Bool.{cases_Bool}
use Rattle.sqlite_rules.proofs.ListLemmas.{some_from, all_from, all_has, has_found}
use Rattle.sqlite_value.proofs.OrderLemmas.{value_cmp_total}
use Rattle.std.proofs.lemmas.Cmp.{tied_back, tied_itself}
use Rattle.std.proofs.Common.{Equal}
use Rattle.sqlite_rules.proofs.TableLemmas.{put_all_has, put_all_keeps, put_all_adds}
use Rattle.sqlite_rules.proofs.ProbeLemmas.{has_mapped, mapped_has}
use Rattle.sqlite.specs.Effect.{Database, value_rows}
use Rattle.sqlite.specs.Rows.{Written}
use Rattle.sqlite.specs.Does.{Tally, Does}
use Rattle.sqlite.specs.declared.run.Mode.{Mode}
use Rattle.sqlite.proofs.Callers.{one_step}
use Rattle.tables.specs.Schema.{BookTable, IsTable, IsUnreferenced, table_of}
use Rattle.tables.specs.Rows.{cells, StandApart, AreNumbered, Changes, Inserts}
use Rattle.tables.proofs.Apart.{puts_apart}
use Rattle.tables.proofs.Known.{some_same, place, stored_is, others_apart, rows_kept}

-- ---- no foreign key acts

abbrev WorkOf : Schema → ℕ → List Row → List Row → Table → Reference → Option Work
WorkOf schema tree olds news = work_for schema Enforced 0 tree olds news

module _ (schema : Schema) (tree : ℕ) (olds news : List Row) where
  none_from : (child : Table) (refs : List Reference) → AllByRecursion (λ ref. WorkOf schema tree olds news child ref ≡ None) refs → filter_map (WorkOf schema tree olds news child) refs ≡ []
  none_from child [] none = refl
  none_from child (r ∷ rs) none = rw none.0 (none_from child rs none.1)

  nothing_from : (tables : List Table) → AllByRecursion (λ t. AllByRecursion (λ ref. WorkOf schema tree olds news t ref ≡ None) t.references) tables
      → flat_map (λ child. filter_map (WorkOf schema tree olds news child) child.references) tables ≡ []
  nothing_from [] none = refl
  nothing_from (t ∷ ts) none = rw (none_from t t.references none.0) (nothing_from ts none.1)

and_false : (b : Bool) → (b && false) ≡ false
and_false true = refl
and_false false = refl

no_moves : (tree : ℕ) (child : Table) (ref : Reference) (deed : Option Deed) (key : Option ParentKey) → work_by 0 tree [] child ref deed key ≡ None
no_moves tree child ref None key = refl
no_moves tree child ref (Some deed) None = refl
no_moves tree child ref (Some deed) (Some key) = rw (and_false (key.0 == tree))

-- where no row is taken out
pub no_work_of_new : (schema : Schema) (tree : ℕ) (news : List Row) → works schema Enforced 0 tree [] news ≡ []
no_work_of_new schema tree news = nothing_from schema tree [] news schema.tables
    (all_from _ schema.tables (λ t h. all_from _ t.references (λ ref k. no_moves tree t ref _ _)))

other_tree : (tree : ℕ) (moves : List (Row × Row)) (child : Table) (ref : Reference) (deed : Option Deed) (key : Option ParentKey) → ((k : ParentKey) → key ≡ Some k → (k.0 == tree) ≡ false) → work_by 0 tree moves child ref deed key ≡ None
other_tree tree moves child ref None key other = refl
other_tree tree moves child ref (Some deed) None other = refl
other_tree tree moves child ref (Some deed) (Some key) other = rw (other key refl)

key_tree : (t : Table) (places : List ℕ) (o : Option Order) (k : ParentKey) → option_map (λ o. (t.tree, places, o)) o ≡ Some k → k.0 ≡ t.tree
key_tree t places None k h = absurd (cc)
key_tree t places (Some o) k h = ap (λ (p : ParentKey). p.0) (sym (some_same h))

parent_tree : (t : Table) (found : Option (List ℕ)) (k : ParentKey) → option_and_then (key_in t) found ≡ Some k → k.0 ≡ t.tree
parent_tree t None k h = absurd (cc)
parent_tree t (Some places) k h = key_tree t places (declared_order t places) k h

key_of_parent : (tables : List Table) (ref : Reference) (o : Option Table) → find (λ t. same_name t.name ref.parent) tables ≡ o → (k : ParentKey) → option_and_then (λ t. option_and_then (key_in t) (key_places t ref.parent_columns)) o ≡ Some k
    → (t : Table) × Has tables t × (same_name t.name ref.parent ≡ true) × (k.0 ≡ t.tree)
key_of_parent tables ref None is k h = absurd (cc)
key_of_parent tables ref (Some t) is k h = let it = has_found (λ (u : Table). same_name u.name ref.parent) tables t is in (t, it.0, it.1, parent_tree t (key_places t ref.parent_columns) k h)

-- where no foreign key refers to the table, each parent is elsewhere
pub elsewhere : (it : BookTable) (schema : Schema) (there : IsTable it schema) → IsUnreferenced it schema → (t : Table) (ref : Reference) → Has schema.tables t → Has t.references ref
    → (key : ParentKey) → parent_key schema.tables ref ≡ Some key → key.0 ≢ there.tree
elsewhere it schema there free t ref h k key is same =
    let parent = key_of_parent schema.tables ref (find (λ (u : Table). same_name u.name ref.parent) schema.tables) refl key is in
    let alike = all_has _ schema.tables parent.0 there.alone parent.1 (sym parent.3 ∙ same) in
    let named = ap (λ n. same_name n ref.parent) alike in
    let yes = parent.2 in
    let no = all_has _ t.references ref (all_has _ schema.tables t free h) k in
    absurd (cc)

pub no_work_of : (it : BookTable) (schema : Schema) (there : IsTable it schema) → IsUnreferenced it schema → (olds news : List Row) → works schema Enforced 0 there.tree olds news ≡ []
no_work_of it schema there free olds news = nothing_from schema there.tree olds news schema.tables
    (all_from _ schema.tables (λ t h. all_from _ t.references (λ ref k.
    other_tree there.tree (pairs olds news) t ref (deed_for Enforced (length news == 0) ref) (parent_key schema.tables ref) (λ key is.
    elim (cases_Bool (key.0 == there.tree)) [ inl same ↦ absurd (elsewhere it schema there free t ref h k key is (eqb-true _ _ same)) | inr other ↦ other ]))))

pub applied : (schema : Schema) (db next : Trees) (edit : Edit) → works schema Enforced 0 edit.table.tree (taken_by db edit) edit.news ≡ []
    → Rattle.sqlite_rules.specs.Action.Writes schema Enforced db edit (Ok next) → Applies schema Enforced db edit next
applied schema db next edit none h = one_step schema Enforced db next edit none h

-- ---- values

either : (b : Bool) (x : Value) → cond b x x ≡ x
either true x = refl
either false x = refl

pub cast_null : cast Integer Null ≡ Null
unfolding unary
cast_null = either _ Null

pub cast_int : (n : ℤ) → cast Integer (Int n) ≡ Int n
unfolding unary
cast_int n = either _ (Int n)

pub cast_any : (n : Option ℕ) → cast Integer (number_or_null n) ≡ number_or_null n
cast_any None = cast_null
cast_any (Some n) = cast_int (pos n)

pub cast_number : (v : Value) → is_int v ≡ true → cast Integer v ≡ v
cast_number Null h = absurd (cc)
cast_number (Int n) h = cast_int n
cast_number (Real x) h = absurd (cc)
cast_number (Text t) h = absurd (cc)
cast_number (Blob b) h = absurd (cc)

-- ---- one row

abbrev pub plain_mode : Mode
plain_mode = record { keys = Enforced; in_doubt = false; may_wait = false }

-- a part that gave a value did not stop on the way
pub went : {B E R : Type 0} {b : B} {Stops : E → Type 0} → ((stop : E) × Stops stop × (Ok b ≡ Err stop)) ⊎ R → R
went (inl stopped) = absurd (let e = stopped.2 in cc)
went (inr on) = on

pub same_value : {B E : Type 0} {a b : B} → ◌≡◌ {A = Result B E} (Ok a) (Ok b) → a ≡ b
same_value e = cc

-- ---- from the rows in the tree to those of the table

pub record ChangesRows (kept : BookTable) (olds news : List Row) (Is : Row → Type 0) : Type 0 where
  pub has : (x : Row) → Has (map (cells kept) news) x → Is x
  pub all : (x : Row) → Is x → Has (map (cells kept) news) x
  pub stored : AreNumbered olds → AreNumbered news

pub changes_by : (kept : BookTable) (old after : Database) (there : IsTable kept old.schema) → after.schema ≡ old.schema → (Is : List Row → Row → Type 0)
    → ChangesRows kept (old.trees there.tree) (after.trees there.tree) (Is (old.trees there.tree)) → AllByRecursion (λ t. t.tree ≢ there.tree → after.trees t.tree ≡ old.trees t.tree) old.schema.tables
    → Changes kept old after (Is (Rattle.tables.specs.Rows.stored kept old))
changes_by kept old after there same Is rows others =
    let was = stored_is kept old.schema there old refl in
    let now = stored_is kept old.schema there after same in
    let it = subst₂ (λ o n. ChangesRows kept o n (Is o)) (sym was) (sym now) rows in
    let apart = others_apart kept old.schema there after.trees old.trees others in
    record { schema = same; has = it.has; all = it.all; others = apart; keeps = rows_kept kept old after same apart; stored = it.stored }

module _ (kept : BookTable) (limit : Option ℕ) (old after : Database) (text : List ℕ) (params : Row) (tally : Tally) (terms : List Term) (width : ℕ)
    (there : IsTable kept old.schema)
    (does : Does limit plain_mode params old text None (Insert (place kept old.schema there).0 (Values terms width)) (Ok (tally, after))) where
  abbrev tree : ℕ
  tree = there.tree

  abbrev table : Table
  table = table_of kept tree

  is : slice_get old.schema.tables (place kept old.schema there).0 ≡ Some table
  is = (place kept old.schema there).2

  abbrev sources : List Row
  sources = value_rows params width (length terms / width) terms

  abbrev edit : Edit
  edit = edit_of old.trees table [] Chosen 0 sources

  pub insert_applies : Applies old.schema Enforced old.trees edit after.trees × (after.schema ≡ old.schema)
  insert_applies =
      let changed = rw is at does in
      let done = went changed in
      let now = ap (λ (p : Tally × Database). p.1) (same_value (went (went done.2).2).2) in
      let given = went done.1 in
      let written = went (went given.2).2 in
      let counted = went written.2 in
      let trees : done.0.trees ≡ written.0 = ap (λ (it : Written). it.trees) (same_value counted.2) ∙ same_value counted.1 in
      let rows : given.0 ≡ sources = given.1.1 ∙ ap (λ ps. value_rows ps width (length terms / width) terms) (append-nil params) in
      let step = applied old.schema old.trees written.0 (edit_of old.trees table [] Chosen 0 given.0) (no_work_of_new old.schema tree _) written.1 in
      let whole = subst (λ rs. Applies old.schema Enforced old.trees (edit_of old.trees table [] Chosen 0 rs) written.0) rows step in
      (subst (Applies old.schema Enforced old.trees edit) (sym (ap (λ (d : Database). d.trees) now ∙ trees)) whole, ap (λ (d : Database). d.schema) now)

  module _ (x source : Row) (shape : (v : Value) → cells kept (v ∷ x) ≡ x) (one : sources ≡ source ∷ []) (cast_is : cast_row table source ≡ Null ∷ x) where
    abbrev rows : List Row
    rows = old.trees tree

    abbrev row : Row
    row = Int (next_rowid rows) ∷ x

    news : edit.news ≡ row ∷ []
    news = ap (λ all. numbered Chosen rows (map (λ s. cast_row table (drop 0 s)) all)) one ∙ ap (λ r. with_rowid Chosen rows r ∷ []) cast_is

    fresh : are_fresh rows (row ∷ []) ≡ true
    fresh = subst (λ all. are_fresh rows all ≡ true) news insert_applies.0.fresh

    grown : after.trees tree ≡ put_all rows (row ∷ [])
    grown = insert_applies.0.rows ∙ ap (put_all rows) news

    either_row : (r : Row) → Has (after.trees tree) r → (r ≡ row) ⊎ Has rows r
    either_row r h = elim (put_all_has (row ∷ []) rows r (subst (λ l. Has l r) grown h)) [
      | inl new ↦ elim new [ inl same ↦ inl same | inr none ↦ absurd none ]
      | inr was ↦ inr was
    ]

    not_tied : (r : Row) → Has rows r → value_cmp (rowid r) (rowid row) ≡ Equal → ⊥
    not_tied r h tie = let taken = some_from (λ q. is_eq (value_cmp (rowid q) (rowid row))) rows r h (ap is_eq tie) in let e = rw taken at fresh in cc

    grows : ChangesRows kept rows (after.trees tree) (λ y. (y ≡ x) ⊎ Has (map (cells kept) rows) y)
    grows = record {
      has = λ y h.
          let m = has_mapped (cells kept) (after.trees tree) y h in
          elim (either_row m.0 m.1) [
            | inl same ↦ inl (m.2 ∙ ap (cells kept) same ∙ shape _)
            | inr was ↦ inr (subst (Has (map (cells kept) rows)) (sym m.2) (mapped_has (cells kept) rows m.0 was))
          ];
      all = λ y h. elim h [
        | inl same ↦ subst (Has (map (cells kept) (after.trees tree))) (sym (same ∙ sym (shape (Int (next_rowid rows))))) (mapped_has (cells kept) (after.trees tree) row (subst (λ l. Has l row) (sym grown) (put_all_adds (row ∷ []) rows row fresh (inl refl))))
        | inr was ↦
            let m = has_mapped (cells kept) rows y was in
            subst (Has (map (cells kept) (after.trees tree))) (sym m.2) (mapped_has (cells kept) (after.trees tree) m.0 (subst (λ l. Has l m.0) (sym grown) (put_all_keeps (row ∷ []) rows m.0 fresh m.1)))
      ];
      stored = λ stored. record {
        numbered = λ a h. elim (either_row a h) [ inl same ↦ rw same | inr was ↦ stored.numbered a was ];
        apart = subst StandApart (sym grown) (puts_apart (row ∷ []) rows stored.apart fresh);
      };
    }

    pub inserted : Inserts kept x old after
    inserted = changes_by kept old after there insert_applies.1 (λ rows y. (y ≡ x) ⊎ Has (map (cells kept) rows) y) grows insert_applies.0.tables

    -- the row that is new
    pub record NewRow : Type 0 where
      pub it : Row
      pub put : Has (after.trees tree) it
      pub shown : cells kept it ≡ x
      pub apart : (r : Row) → Has rows r → r ≢ it
      pub still : (r : Row) → Has rows r → Has (after.trees tree) r

    pub new_row : NewRow
    new_row = record {
      it = row;
      put = subst (λ l. Has l row) (sym grown) (put_all_adds (row ∷ []) rows row fresh (inl refl));
      shown = shape _;
      apart = λ r h same. not_tied r h (subst (λ q. value_cmp (rowid q) (rowid row) ≡ Equal) (sym same) (tied_itself value_cmp_total (rowid row)));
      still = λ r h. subst (λ l. Has l r) (sym grown) (put_all_keeps (row ∷ []) rows r fresh h);
    }
