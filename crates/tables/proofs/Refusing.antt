-- What the store refuses of a statement on one table, and what it does not.
use Rattle.std.proofs.Common.{◌≡◌, ◌≢◌, ◌⊎◌, ◌&&◌, ◌==◌, inl, inr, ℕ, zero, suc, ℤ, Bool, true, false, true≢false, List, [], ◌∷◌, length, length-append, Option, Some, None, Err, Result, IsSome, refl, sym, ap, subst, ◌∙◌, arith, eqb-true, eq-eqb}
use Rattle.std.specs.List.{list_any}
use Rattle.std.specs.Ordering.{is_ne}
use Rattle.std.proofs.lemmas.Bool.{cases_Bool, cases_eq, and_parts, and_from, or_cases, or_left, or_right, not-true, not_from_false, false_from_ne_true, both_ways}
use Rattle.std.proofs.lemmas.Cmp.{tied_itself}
use Rattle.sqlite_value.specs.declared.keys.Key.{Key}
use Rattle.sqlite_value.specs.declared.value.Value.TheVariants.{Int}
use Rattle.sqlite_value.specs.Order.{Row}
use Rattle.sqlite_value.proofs.OrderLemmas.{value_cmp_total}
use Rattle.sqlite_trees.specs.Tree.{Trees, rowid, with_tree}
use Rattle.sqlite_schema.specs.declared.schema.Among.TheVariants.{All}
use Rattle.sqlite_schema.specs.declared.schema.Constraint.TheVariants.{Unique}
use Rattle.sqlite_schema.specs.declared.schema.Index.{Index}
use Rattle.sqlite_schema.specs.declared.schema.Keys.TheVariants.{Enforced}
use Rattle.sqlite_schema.specs.declared.schema.Reference.{Reference}
use Rattle.sqlite_schema.specs.declared.schema.Schema.{Schema}
use Rattle.sqlite_schema.specs.declared.schema.Table.{Table}
use Rattle.sqlite_schema.specs.Rules.{ParentKey, parent_key, is_held, agree, clashes, differ, guards, Keeps, Refers}
use Rattle.sqlite_sql.specs.Ops.{binary}
use Rattle.sqlite_sql.specs.Term.{Term}
use Rattle.sqlite_typing.specs.Types.{row_classes, accepts_after, accepts_program}
use Rattle.sqlite_tied.specs.Compute.{everything}
use Rattle.sqlite_rules.specs.declared.error.Refusal.{Refusal}
use Rattle.sqlite_rules.specs.declared.error.Refusal.TheVariants.{Violates, Mismatch, NoRowid, BadReference, TooDeep}
use Rattle.sqlite_rules.specs.Lists.{Has}
use Rattle.sqlite_rules.specs.Edit.{Edit, taken_by, IsRefused, IsOversized}
use Rattle.sqlite_rules.specs.Action.{works, Leads, Writes}
use Rattle.sqlite_rules.proofs.KeyLemmas.{agree_back}
use Rattle.sqlite_rules.proofs.ListLemmas.{any_has, some_has, some_from, test_has, test_from}
use Rattle.sqlite_rules.proofs.RuleLemmas.{keeps_at, keeps_from, refers_at, refers_from}
use Rattle.sqlite.specs.declared.error.Error.{Error}
use Rattle.sqlite.specs.Effect.{Database, RefusesQuery, RefusesToAlter, IsNoText, edit_error, alter_error}
use Rattle.sqlite.specs.Rows.{Queried}
use Rattle.sqlite_catalog.specs.declared.error.Refusal as alter
use Rattle.sqlite_catalog.specs.declared.error.Refusal.TheVariants as altering
use Rattle.tables.specs.Faults.{table_fault_of}
use Rattle.tables.specs.Schema.{BookTable, table_of}
use Rattle.tables.specs.declared.table_fault.TableFault.TheVariants.{Store}
use Rattle.tables.proofs.Answering.{plain_query, from_true}
use Rattle.tables.proofs.Known.{Known}

pub err_same : {B E : Type 0} {a b : E} → ◌≡◌ {A = Result B E} (Err a) (Err b) → a ≡ b
err_same e = cc

pub edit_told : (why : Refusal) → table_fault_of (edit_error why) ≡ Store
edit_told (Violates rule) = refl
edit_told Mismatch = refl
edit_told NoRowid = refl
edit_told BadReference = refl
edit_told TooDeep = refl

alter_told : (why : alter.Refusal) → table_fault_of (alter_error why) ≡ Store
alter_told (altering.Invalid e) = refl
alter_told altering.NameTaken = refl
alter_told altering.BadName = refl
alter_told altering.BadKey = refl
alter_told altering.BadText = refl
alter_told altering.TooBig = refl
alter_told (altering.Violates rule) = refl

pub makes_told : (text : List ℕ) (Refuses : alter.Refusal → Type 0) (e : Error) → IsNoText text e ⊎ RefusesToAlter Refuses e → table_fault_of e ≡ Store
makes_told text Refuses e (inl h) = ap table_fault_of h.1
makes_told text Refuses e (inr h) = ap table_fault_of h.2 ∙ alter_told h.0

-- ---- queries

-- its terms have types over the columns of the table and the parameters
abbrev pub suits : BookTable → List Term → List Term → List (Term × Key) → Row → Bool
suits kept filters project order params = accepts_after params (plain_query 0 filters project order) (Some (row_classes (table_of kept 0) ∷ []))

accepted : (kept : BookTable) (filters project : List Term) (order : List (Term × Key)) (params : Row) (schema : Schema) (at tree : ℕ) → Known kept schema at tree → suits kept filters project order params ≡ true
    → accepts_program schema [] (plain_query tree filters project order) params ≡ true
unfolding everything
accepted kept filters project order params schema at tree known fits = simp (known.high, known.by_tree, fits) refl

-- so only a limit on its steps stops it
pub limited : (kept : BookTable) (filters project : List Term) (order : List (Term × Key)) (params : Row) (limit : Option ℕ) (db : Database) (at tree : ℕ) → Known kept db.schema at tree → suits kept filters project order params ≡ true
    → (e : Error) → RefusesQuery limit db (record { lets = []; body = plain_query tree filters project order }) params e → IsSome limit × (table_fault_of e ≡ Store)
limited kept filters project order params limit db at tree known fits e (inl h) = absurd (true≢false (sym (accepted kept filters project order params db.schema at tree known fits) ∙ h.1))
limited kept filters project order params limit db at tree known fits e (inr (inl h)) = elim h.1 [ inl none ↦ absurd none | inr some ↦ absurd (any_has _ _ some).2 ]
limited kept filters project order params limit db at tree known fits e (inr (inr h)) = (h.1, ap table_fault_of h.0)

pub queried_stops : (limit : Option ℕ) (db : Database) (q : Rattle.sqlite_schema.specs.declared.program.Program.Program) (params : Row) (stop : Option Error) → Queried limit db q params (Err stop)
    → (e : Error) × (stop ≡ Some e) × RefusesQuery limit db q params e
queried_stops limit db q params None h = absurd h
queried_stops limit db q params (Some e) h = (e, refl, h)

pub refused_told : (limit : Option ℕ) (db : Database) (q : Rattle.sqlite_schema.specs.declared.program.Program.Program) (params : Row) (e : Error) → RefusesQuery limit db q params e → table_fault_of e ≡ Store
refused_told limit db q params e (inl h) = ap table_fault_of h.0
refused_told limit db q params e (inr (inl h)) = ap table_fault_of h.0
refused_told limit db q params e (inr (inr h)) = ap table_fault_of h.0

-- ---- edits

-- why an edit is not made, where no foreign key acts
abbrev pub IsNotMade : Schema → Trees → Edit → Option Refusal → Type 0
IsNotMade schema db edit why =
    ((r : Refusal) × (why ≡ Some r) × IsRefused schema Enforced db edit r) ⊎ ((why ≡ None) × (row : Row) × Has edit.news row × IsOversized schema edit.table row)

pub not_made : (schema : Schema) (db : Trees) (edit : Edit) → works schema Enforced 0 edit.table.tree (taken_by db edit) edit.news ≡ [] → (why : Option Refusal) → Writes schema Enforced db edit (Err why) → IsNotMade schema db edit why
not_made schema db edit none why (inl refused) = inl (refused.0, err_same refused.2, refused.1)
not_made schema db edit none why (inr (inl big)) = inr (err_same big.3, big.0, big.1, big.2)
not_made schema db edit none why (inr (inr went)) = absurd (settled went.2.0 (rw none at went.2.1))
  where
    settled : (n : ℕ) → Leads schema Enforced n went.0 [] (Err why) → ⊥
    settled zero h = let e = h.1 in cc
    settled (suc n) h = absurd (omega (arith, ap length h.2, length-append h.0 (h.1 ∷ [])))

-- ---- foreign keys

-- each row was there or refers to nothing, and each parent still is
module _ (schema : Schema) (one two : Trees) (from : (t : Table) (row : Row) → Has schema.tables t → Has (two t.tree) row → Has (one t.tree) row ⊎ (t.references ≡ []))
    (parents : (t : Table) (ref : Reference) → Has schema.tables t → Has t.references ref → (key : ParentKey) → parent_key schema.tables ref ≡ Some key → (p : Row) → Has (one key.0) p → Has (two key.0) p) where
  held_on : (t : Table) (ref : Reference) → Has schema.tables t → Has t.references ref → (row : Row) (o : Option ParentKey) → parent_key schema.tables ref ≡ o → is_held one ref.columns row o ≡ true → is_held two ref.columns row o ≡ true
  held_on t ref h k row None is held = absurd (true≢false (sym held))
  held_on t ref h k row (Some key) is held =
      let p = some_has (λ q. agree key.2 key.1 q ref.columns row) (one key.0) held in
      some_from (λ q. agree key.2 key.1 q ref.columns row) (two key.0) p.0 (parents t ref h k key is p.0 p.1) p.2

  pub refers_on : Refers All schema one → Refers All schema two
  refers_on refers = refers_from All schema two (λ t ref row listed known is there. elim (from t row listed there) [
    | inl was ↦ elim (or_cases _ _ (refers_at All schema one t row ref refers listed was known is)) [
      | inl null ↦ or_left _ _ null
      | inr held ↦ or_right _ _ (held_on t ref listed known row _ refl held)
    ]
    | inr none ↦ absurd (subst (λ l. Has l ref) none known)
  ])

-- ---- unique keys

-- fewer rows have no key in common that they had not
pub unique_fewer : (schema : Schema) (one two : Trees) → ((t : Table) (row : Row) → Has schema.tables t → Has (two t.tree) row → Has (one t.tree) row) → Keeps Unique schema one → Keeps Unique schema two
unique_fewer schema one two fewer keeps = keeps_from Unique schema two (λ t row listed there. test_from _ schema.indexes (λ i known. not_from_false _ (false_from_ne_true _ (λ both.
    let parts = and_parts _ _ both in
    let other = some_has _ _ parts.1 in
    both_ways _ (not-true _ (test_has _ schema.indexes i (keeps_at Unique schema one t row keeps listed (fewer t row listed there)) known))
    (and_from _ _ parts.0 (some_from _ (one t.tree) other.0 (fewer t other.0 listed other.1) other.2))))))

differ_no : (n : ℤ) → differ (Int n) (Int n) ≡ false
unfolding binary
differ_no n = from_true _ ∙ ap is_ne (tied_itself value_cmp_total (Int n))

-- one more row
module _ (schema : Schema) (table : Table) (one two : Trees) (n : ℤ) (x : Row) (others : (t : Table) → Has schema.tables t → t.tree ≢ table.tree → two t.tree ≡ one t.tree)
    (from : (r : Row) → Has (two table.tree) r → (r ≡ Int n ∷ x) ⊎ Has (one table.tree) r) where
  abbrev new : Row
  new = Int n ∷ x

  abbrev takes : Index → Row → Bool
  takes i r = agree i.order i.columns r i.columns new

  abbrev is_taken_in : Index → Bool
  is_taken_in i = guards i table && list_any (takes i) (one table.tree)

  module _ (free : list_any is_taken_in schema.indexes ≡ false) (keeps : Keeps Unique schema one) where
    not_taken : (i : Index) → Has schema.indexes i → guards i table ≡ true → (r : Row) → Has (one table.tree) r → takes i r ≡ true → ⊥
    not_taken i known on r there held = both_ways _ free (some_from is_taken_in schema.indexes i known (and_from _ _ on (some_from (takes i) (one table.tree) r there held)))

    before : (t : Table) → Has schema.tables t → (i : Index) → Has schema.indexes i → (row : Row) → Has (one t.tree) row → (guards i t && clashes i.order i.columns (one t.tree) row) ≡ true → ⊥
    before t listed i known row there both = both_ways _ (not-true _ (test_has _ schema.indexes i (keeps_at Unique schema one t row keeps listed there) known)) both

    here : (t : Table) → Has schema.tables t → t.tree ≡ table.tree → (i : Index) → Has schema.indexes i → guards i t ≡ true → (row other : Row) → Has (two table.tree) row → Has (two table.tree) other
        → agree i.order i.columns other i.columns row ≡ true → differ (rowid other) (rowid row) ≡ true → ⊥
    here t listed same i known on row other there also alike apart =
        let on_table : guards i table ≡ true = subst (λ k. (i.is_unique && (i.table == k)) ≡ true) same on in
        elim (from row there) [
          | inl is ↦ elim (from other also) [
            | inl is_too ↦ both_ways _ (differ_no n) (rw (is, is_too) at apart)
            | inr was ↦ not_taken i known on_table other was (rw is at alike)
          ]
          | inr was ↦ elim (from other also) [
            | inl is ↦ not_taken i known on_table row was (agree_back i.order i.columns i.columns new row (rw is at alike))
            | inr was_too ↦
                before t listed i known row (subst (λ k. Has (one k) row) (sym same) was)
                (and_from _ _ on (some_from (λ o. agree i.order i.columns o i.columns row && differ (rowid o) (rowid row)) (one t.tree) other (subst (λ k. Has (one k) other) (sym same) was_too) (and_from _ _ alike apart)))
          ]
        ]

    still_unique : Keeps Unique schema two
    still_unique = keeps_from Unique schema two (λ t row listed there. test_from _ schema.indexes (λ i known. not_from_false _ (false_from_ne_true _ (λ both. elim (cases_eq t.tree table.tree) [
      | inl same ↦
          let parts = and_parts _ _ both in
          let other = some_has (λ o. agree i.order i.columns o i.columns row && differ (rowid o) (rowid row)) (two t.tree) parts.1 in
          let tests = and_parts _ _ other.2 in
          here t listed same i known parts.0 row other.0 (subst (λ k. Has (two k) row) same there) (subst (λ k. Has (two k) other.0) same other.1) tests.0 tests.1
      | inr differs ↦
          before t listed i known row (subst (λ rows. Has rows row) (others t listed differs) there)
          (subst (λ rows. (guards i t && clashes i.order i.columns rows row) ≡ true) (others t listed differs) both)
    ]))))

  -- if that breaks a UNIQUE index, some row has its key there
  pub taken_where : ¬ Keeps Unique schema two → Keeps Unique schema one → (i : Index) × Has schema.indexes i × (guards i table ≡ true) × (r : Row) × Has (one table.tree) r × (takes i r ≡ true)
  taken_where broken keeps = elim (cases_Bool (list_any is_taken_in schema.indexes)) [
    | inl taken ↦
        let i = some_has is_taken_in schema.indexes taken in
        let parts = and_parts _ _ i.2 in
        let r = some_has (takes i.0) (one table.tree) parts.1 in
        (i.0, i.1, parts.0, r.0, r.1, r.2)
    | inr free ↦ absurd (broken (still_unique free keeps))
  ]

-- a tree that is written, and the others
pub tree_written : (db : Trees) (tree : ℕ) (rows : List Row) → with_tree db tree rows tree ≡ rows
tree_written db tree rows = rw (eq-eqb tree tree refl)

pub tree_kept : (db : Trees) (tree : ℕ) (rows : List Row) (t : ℕ) → t ≢ tree → with_tree db tree rows t ≡ db t
tree_kept db tree rows t other = elim (cases_Bool (t == tree)) [ inl same ↦ absurd (other (eqb-true t tree same)) | inr apart ↦ rw apart ]
