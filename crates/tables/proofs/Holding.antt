-- INSERT of a row whose key is free.
use Rattle.std.proofs.Common.{inl, inr, suc, ◌≡◌, ◌≢◌, ◌-◌, ◌/◌, ℕ, List, [], ◌∷◌, true, false, None, Ok, Err, Result, Some, refl, sym, ap, subst, ◌∙◌, length, slice_get}
use Rattle.std.proofs.lemmas.Bool.{and_parts, and_from}
use Rattle.std.specs.List.{AllByRecursion}
use Rattle.std.specs.Ordering.{is_eq}
use Rattle.sqlite_value.specs.declared.value.Value.{Value}
use Rattle.sqlite_value.specs.declared.value.Value.TheVariants.{Null}
use Rattle.sqlite_value.specs.Order.{Row, column, value_cmp}
use Rattle.sqlite_value.specs.Keys.{plain, first_key}
use Rattle.sqlite_sql.specs.Ops.{is_null}
use Rattle.sqlite_sql.specs.Term.{Term}
use Rattle.sqlite_schema.specs.Rules.{agree}
use Rattle.sqlite_schema.specs.declared.command.Source.TheVariants.{Values}
use Rattle.sqlite_schema.specs.declared.command.Command.TheVariants.{Insert}
use Rattle.sqlite_rules.specs.Lists.{Has}
use Rattle.sqlite_rules.specs.Cast.{cast_row}
use Rattle.sqlite_rules.proofs.ListLemmas.{all_has}
use Rattle.sqlite_rules.proofs.ProbeLemmas.{has_mapped}
use Rattle.sqlite.specs.Effect.{Database, IsDatabase, value_rows}
use Rattle.sqlite.specs.Does.{Tally, Does}
use Rattle.sqlite.specs.State.{State, Survives, CommitsBy, HasCleanDisk}
use Rattle.sqlite.proofs.StateLemmas.{survives_weaker}
use Rattle.tables.specs.Schema.{BookTable, IsTable, table_of}
use Rattle.tables.specs.Rows.{cells, stored, same_at, Inserts, IsStored, HasKeyOf}
use Rattle.tables.specs.Calls.{Ran, CrashMayLeave, RefusesHeld, Faults}
use Rattle.tables.specs.Texts.{RunsStatement}
use Rattle.tables.specs.declared.table_fault.TableFault.{TableFault}
use Rattle.tables.proofs.Known.{place, stored_is}
use Rattle.tables.proofs.Compiling.{IsRead}
use Rattle.tables.proofs.Answering.{compared}
use Rattle.tables.proofs.Inserting.{plain_mode, inserted, new_row}
use Rattle.tables.proofs.KeyLemmas.{one_row}
use Rattle.tables.proofs.Statements.{Writer, Stopper, table_writer, ran_by, left_by, faults_by}

abbrev pub InsertsFree : BookTable → Row → Database → Database → Type 0
InsertsFree kept x old new = Inserts kept x old new × (IsStored kept old → ¬ HasKeyOf kept x old)

agreed : (kept : BookTable) (x a b : Row) (key : List ℕ) → cells kept b ≡ x → AllByRecursion (λ p. column (cells kept a) (p - 1) ≡ column a p) key → AllByRecursion (λ p. column (cells kept b) (p - 1) ≡ column b p) key
    → AllByRecursion (λ p. is_null (column x (p - 1)) ≡ false) key → same_at key (cells kept a) x ≡ true → agree plain key a key b ≡ true
unfolding first_key
agreed kept x a b [] is in_a in_b some same = refl
agreed kept x a b (p ∷ ps) is in_a in_b some same =
    let parts = and_parts (is_eq (value_cmp (column (cells kept a) (p - 1)) (column x (p - 1)))) (same_at ps (cells kept a) x) same in
    let there : column x (p - 1) ≡ column b p = ap (λ r. column r (p - 1)) (sym is) ∙ in_b.0 in
    let equal : is_eq (value_cmp (column a p) (column b p)) ≡ true = rw (in_a.0, there) at parts.0 in
    and_from _ _ (compared (column a p) (column b p) (subst (λ v. is_null v ≡ false) there some.0) ∙ equal) (agreed kept x a b ps is in_a.1 in_b.1 some.1 parts.1)

key_at : (keys : List (List ℕ)) (key : List ℕ) → Has keys key → (at : ℕ) × (slice_get keys at ≡ Some key)
key_at [] key h = absurd h
key_at (k ∷ keys) key (inl e) = (0, ap Some (sym e))
key_at (k ∷ keys) key (inr h) = let more = key_at keys key h in (suc more.0, more.1)

not_held : (kept : BookTable) (old after : Database) (there : IsTable kept old.schema) (x : Row) → after.schema ≡ old.schema → IsDatabase after → IsStored kept after
    → (new : Row) → Has (after.trees there.tree) new → cells kept new ≡ x → ((r : Row) → Has (old.trees there.tree) r → r ≢ new) → ((r : Row) → Has (old.trees there.tree) r → Has (after.trees there.tree) r)
    → ((r : Row) → AllByRecursion (λ key. AllByRecursion (λ p. column (cells kept r) (p - 1) ≡ column r p) key) kept.keys) → AllByRecursion (λ key. AllByRecursion (λ p. is_null (column x (p - 1)) ≡ false) key) kept.keys
    → ¬ HasKeyOf kept x old
not_held kept old after there x same sound numbered new put is apart still in_cells some held =
    let was = stored_is kept old.schema there old refl in
    let now = stored_is kept old.schema there after same in
    let r = has_mapped (cells kept) (stored kept old) held.0 held.2 in
    let old_row : Has (old.trees there.tree) r.0 = subst (λ l. Has l r.0) was r.1 in
    let key = key_at kept.keys held.1 held.3 in
    let in_after : IsTable kept after.schema = subst (IsTable kept) (sym same) there in
    let alike = agreed kept x r.0 new held.1 is (all_has _ kept.keys held.1 (in_cells r.0) held.3) (all_has _ kept.keys held.1 (in_cells new) held.3) (all_has _ kept.keys held.1 some held.3) (subst (λ y. same_at held.1 y x ≡ true) r.2 held.4) in
    apart r.0 old_row (one_row kept after key.0 held.1 key.1 in_after sound numbered r.0 new (subst (λ l. Has l r.0) (sym now) (still r.0 old_row)) (subst (λ l. Has l new) (sym now) put) alike)

module _ (kept : BookTable) (terms : List Term) (width : ℕ) (text : List ℕ) {count : ℕ} (read : IsRead kept text count (λ at _. Insert at (Values terms width)))
    (params x : Row) (shape : (v : Value) → cells kept (v ∷ x) ≡ x) (one : value_rows params width (length terms / width) terms ≡ (Null ∷ x) ∷ []) (cast_is : (tree : ℕ) → cast_row (table_of kept tree) (Null ∷ x) ≡ Null ∷ x)
    (in_cells : (r : Row) → AllByRecursion (λ key. AllByRecursion (λ p. column (cells kept r) (p - 1) ≡ column r p) key) kept.keys) (some : AllByRecursion (λ key. AllByRecursion (λ p. is_null (column x (p - 1)) ≡ false) key) kept.keys)
    (old : State) (there : IsTable kept old.now.schema) where
  does : (t : List ℕ) (tally : Tally) (after : Database) → IsDatabase after → Does old.step_limit plain_mode params old.now t None (Insert (place kept old.now.schema there).0 (Values terms width)) (Ok (tally, after)) → InsertsFree kept x old.now after
  does t tally after sound h =
      let inserts = inserted kept old.step_limit old.now after t params tally terms width there h x (Null ∷ x) shape one (cast_is there.tree) in
      let new = new_row kept old.step_limit old.now after t params tally terms width there h x (Null ∷ x) shape one (cast_is there.tree) in
      (inserts, λ numbered held. not_held kept old.now after there x inserts.schema sound (inserts.stored numbered) new.it new.put new.shown new.apart new.still in_cells some held)

  pub insert_writer : Writer text params (InsertsFree kept x) old
  insert_writer = table_writer kept text params (λ at _. Insert at (Values terms width)) read (InsertsFree kept x) old there does (λ _ _ _ h. h) (λ e. cc) (λ n e. cc)

-- ---- from the clauses of `run` to those of a function

module _ {text : List ℕ} {params : Row} {kept : BookTable} {x : Row} {B : Type 0} (old new : State) (owed : HasCleanDisk old → B) (writer : B → Writer text params (InsertsFree kept x) old)
    (survives : Survives old new (CommitsBy text params old)) where
  pub inserts_by : {A : Type 0} (result : Result A TableFault) → (HasCleanDisk new → RunsStatement text params old new result) → Ran (Inserts kept x) old new result
  inserts_by {A} (Ok a) performs clean = let it = ran_by old new owed writer survives (Ok a) performs clean in (it.0.0, it.1)
  inserts_by {A} (Err fault) performs clean = ran_by old new owed writer survives {A = A} (Err fault) performs clean

  pub refuses_by : {A : Type 0} (result : Result A TableFault) → (HasCleanDisk new → RunsStatement text params old new result) → RefusesHeld kept x old new result
  refuses_by (Ok a) performs clean numbered held = absurd ((ran_by old new owed writer survives (Ok a) performs clean).0.1 numbered held)
  refuses_by (Err fault) performs clean numbered held = refl

  pub inserts_left_by : CrashMayLeave (Inserts kept x) old new
  inserts_left_by = survives_weaker old new _ _ (λ _ db h. (h.0, h.1, h.2.0, h.3)) (left_by old new owed writer survives)

-- the same where the parameters are given as other values that are found to be these
pub record Inserted {A : Type 0} (kept : BookTable) (x : Row) (TooBig Why : Type 0) (old new : State) (result : Result A TableFault) : Type 0 where
  pub ran : Ran (Inserts kept x) old new result
  pub held : RefusesHeld kept x old new result
  pub fault : Faults TooBig Why old new result
  pub crash : CrashMayLeave (Inserts kept x) old new

pub inserted_by : {A : Type 0} {text : List ℕ} {given params : Row} {kept : BookTable} {x : Row} {TooBig Why B : Type 0} (old new : State) → given ≡ params → (HasCleanDisk old → B)
    → (B → Writer text params (InsertsFree kept x) old) → (B → Stopper text params TooBig Why old) → Survives old new (CommitsBy text given old) → (result : Result A TableFault) → (HasCleanDisk new → RunsStatement text given old new result)
    → Inserted kept x TooBig Why old new result
inserted_by {text} old new is owed writer stopper survives result performs =
    let kept_up = subst (λ ps. Survives old new (CommitsBy text ps old)) is survives in
    let does = λ (clean : HasCleanDisk new). subst (λ ps. RunsStatement text ps old new result) is (performs clean) in
    record {
      ran = inserts_by old new owed writer kept_up result does;
      held = refuses_by old new owed writer kept_up result does;
      fault = faults_by old new owed stopper kept_up result does;
      crash = inserts_left_by old new owed writer kept_up;
    }
