-- From a text to what the statement makes of the tables.
use Rattle.std.proofs.Common.{append-nil, arith, ◌≡◌, inl, inr, ℕ, List, length, false, None, Some, Ok, Err, Result, IsTrue, refl, sym, ap, subst, ◌∙◌}
use Rattle.std.proofs.lemmas.Bool.{cases_Bool}
use Rattle.sqlite_value.specs.Order.{Row}
use Rattle.sqlite_trees.specs.Tree.{Trees}
use Rattle.sqlite_schema.specs.declared.schema.Schema.{Schema}
use Rattle.sqlite_schema.specs.declared.command.Command.{Command}
use Rattle.sqlite_schema.specs.declared.command.Command.TheVariants.{Commit, Release}
use Rattle.sqlite_resolve.specs.declared.compiled.Compiled.{Compiled}
use Rattle.sqlite.specs.declared.error.Error.{Error}
use Rattle.sqlite.specs.Effect.{Database, IsDatabase}
use Rattle.sqlite.specs.Does.{Tally, Does}
use Rattle.sqlite.specs.Listing.{understood}
use Rattle.sqlite.specs.State.{State, Writes, Runs, Executes, ExecutesIn, CommitsBy, IsNotRun, IsMisplaced, MayCommit, Survives, shows_rows, text_of, HasCleanDisk}
use Rattle.sqlite.proofs.StateLemmas.{survives_weaker}
use Rattle.tables.proofs.Survival.{later}
use Rattle.tables.proofs.Stopping.{IsWhole, some_fault, stopped}
use Rattle.sqlite.proofs.Callers.{IsPlain, command_of, statement_of, runs_as}
use Rattle.tables.proofs.Inserting.{plain_mode}
use Rattle.tables.specs.Schema.{BookTable, IsTable}
use Rattle.tables.proofs.Known.{place, known}
use Rattle.tables.proofs.Compiling.{IsRead}
use Rattle.tables.specs.Calls.{Ran, CrashMayLeave, IsUnchangedOrUndone, Stops, Faults}
use Rattle.tables.specs.Texts.{RunsStatement}
use Rattle.tables.specs.Faults.{table_fault_of}
use Rattle.tables.specs.declared.table_fault.TableFault.{TableFault}
use Rattle.tables.specs.declared.table_fault.TableFault.TheVariants.{Store}

pub failed : (text : List ℕ) (params : Row) (old new : State) (e : Error) → Executes text params old new (Err e) → IsUnchangedOrUndone old new
unfolding ExecutesIn IsNotRun
failed text params old new e (inl (inl none)) = inl none.1
failed text params old new e (inl (inr fails)) = inr fails.3
failed text params old new e (inr ran) = elim (cases_Bool (shows_rows false ran.0)) [
  | inl shows ↦ inl (rw shows at ran.2).1
  | inr runs ↦ elim (rw runs at ran.2) [ inl refused ↦ inl refused.1 | inr fails ↦ inr fails.3 ]
]

-- what is known of a text that writes, from a state on
pub record Writer (text : List ℕ) (params : Row) (Is : Database → Database → Type 0) (old : State) : Type 1 where
  pub ran : {A : Type 0} (new : State) (result : Result A TableFault) → RunsStatement text params old new result → Ran Is old new result
  pub left : (new : State) → Survives old new (CommitsBy text params old) → CrashMayLeave Is old new

module _ (text : List ℕ) (params : Row) (command : Command) (schema : Schema) (is : command_of (understood schema text) ≡ command) (plain : IsPlain (understood schema text))
    (Is : Database → Database → Type 0) (old : State) (has : old.now.schema ≡ schema)
    (does : (t : List ℕ) → t ≡ statement_of text (understood schema text) → (tally : Tally) (after : Database) → IsDatabase after → Does old.step_limit plain_mode params old.now t None command (Ok (tally, after)) → Is old.now after)
    (writes : (new : State) (t : List ℕ) (count : ℕ) → Runs old new None command t params count → Writes old new None command t params count)
    (not_commit : command ≡ Commit → ⊥) (not_release : (name : List ℕ) → command ≡ Release name → ⊥) where
  ran : {A : Type 0} (new : State) (result : Result A TableFault) → RunsStatement text params old new result → Ran Is old new result
  ran new (Err f) h _ = (failed text params old new h.0 h.2, λ e. some_fault h.0 (sym h.1 ∙ e))
  ran new (Ok a) h _ =
      let w = writes new _ h.0 (runs_as text params old new schema has command is plain h.0 h.1) in
      (does _ refl w.tally new.now w.sound w.changed, record { shown = w.shown; marks = w.marks })

  pub committed : (db : Trees) → CommitsBy text params old db → (old.in_transaction ≡ false) × (after : Database) × Is old.now after × (db ≡ after.trees)
  unfolding CommitsBy
  committed db h =
      let known = sym h.1.is ∙ ap (λ s. understood s text) has in
      let bare = subst IsPlain (sym known) plain in
      let may = subst (λ k. MayCommit old None k (text_of text h.0) params db) (ap command_of known ∙ is) (rw (bare.0, bare.1, append-nil params) at h.2) in
      elim may [
        | inl ends ↦ elim ends.0 [ inl commit ↦ absurd (not_commit commit) | inr release ↦ absurd (not_release release.0 release.2) ]
        | inr w ↦ (w.0, w.2, does _ (ap (statement_of text) known) w.1 w.2 w.4 w.3, w.5)
      ]

  pub writer : Writer text params Is old
  writer = record { ran = ran; left = λ new s. survives_weaker old new _ _ (λ _ db h. committed db h) s }

-- the same of a command that changes rows of a table that is there
module _ (kept : BookTable) (text : List ℕ) (params : Row) (command : ℕ → ℕ → Command) {count : ℕ} (read : IsRead kept text count command) (Is : Database → Database → Type 0) (old : State) (there : IsTable kept old.now.schema)
    (does : (t : List ℕ) (tally : Tally) (after : Database) → IsDatabase after → Does old.step_limit plain_mode params old.now t None (command (place kept old.now.schema there).0 there.tree) (Ok (tally, after)) → Is old.now after)
    (writes : (new : State) (t : List ℕ) (count : ℕ) → Runs old new None (command (place kept old.now.schema there).0 there.tree) t params count → Writes old new None (command (place kept old.now.schema there).0 there.tree) t params count)
    (not_commit : command (place kept old.now.schema there).0 there.tree ≡ Commit → ⊥) (not_release : (name : List ℕ) → command (place kept old.now.schema there).0 there.tree ≡ Release name → ⊥) where
  pub table_writer : Writer text params Is old
  table_writer =
      let facts = known kept old.now.schema there in
      writer text params (command (place kept old.now.schema there).0 there.tree) old.now.schema (read.is _ _ _ facts) (read.plain _ _ _ facts) Is old refl (λ t _ tally after sound. does t tally after sound) writes not_commit not_release

-- ---- why it stops

-- what is known of a text that writes and does not go through, from a state on
pub record Stopper (text : List ℕ) (params : Row) (too_big why : Type 0) (old : State) : Type 1 where
  pub stops : (new : State) (e : Error) → Executes text params old new (Err e) → Stops too_big why old new (table_fault_of e)

module _ (kept : BookTable) (text : List ℕ) (params : Row) (command : ℕ → ℕ → Command) {count : ℕ} (read : IsRead kept text count command) (fits : count ≡ length params) (TooBig Why : Type 0) (old : State) (there : IsTable kept old.now.schema)
    (quiet : (at tree : ℕ) (c : Compiled) → c.command ≡ command at tree → c.returning ≡ None → shows_rows false c ≡ false)
    (big : (t : List ℕ) → Does old.step_limit plain_mode params old.now t None (command (place kept old.now.schema there).0 there.tree) (Err None) → TooBig)
    (why : (t : List ℕ) (e : Error) → IsTrue old.is_open → Does old.step_limit plain_mode params old.now t None (command (place kept old.now.schema there).0 there.tree) (Err (Some e)) → Why × (table_fault_of e ≡ Store))
    (placed : (e : Error) → IsMisplaced old (command (place kept old.now.schema there).0 there.tree) e → ⊥) where
  pub table_stopper : Stopper text params TooBig Why old
  table_stopper =
      let facts = known kept old.now.schema there in
      record {
        stops = stopped text params (command (place kept old.now.schema there).0 there.tree) old.now.schema (read.is _ _ _ facts) (read.plain _ _ _ facts) (quiet _ _) old refl TooBig Why
            (λ t _. big t) (λ t e _ _. why t e) (λ e h. absurd (placed e h)) (subst (λ n. IsWhole text n (understood old.now.schema text)) fits (read.whole _ _ _ facts));
      }

module _ {text : List ℕ} {params : Row} {TooBig Why : Type 0} {B : Type 0} (old new : State) (owed : HasCleanDisk old → B) (stopper : B → Stopper text params TooBig Why old)
    (survives : Survives old new (CommitsBy text params old)) where
  pub faults_by : {A : Type 0} (result : Result A TableFault) → (HasCleanDisk new → RunsStatement text params old new result) → Faults TooBig Why old new result
  faults_by (Ok a) performs clean = tt
  faults_by (Err fault) performs clean =
      let h = performs clean in
      subst (Stops TooBig Why old new) (sym h.1) ((stopper (owed (omega (arith, survives.clean)))).stops new h.0 h.2)

-- ---- from the clauses of `run` to those of a function

module _ {text : List ℕ} {params : Row} {Is : Database → Database → Type 0} {B : Type 0} (old new : State) (owed : HasCleanDisk old → B) (writer : B → Writer text params Is old)
    (survives : Survives old new (CommitsBy text params old)) where
  pub ran_by : {A : Type 0} (result : Result A TableFault) → (HasCleanDisk new → RunsStatement text params old new result) → Ran Is old new result
  ran_by result performs clean = (writer (owed (omega (arith, survives.clean)))).ran new result (performs clean) clean

  pub left_by : CrashMayLeave Is old new
  left_by = later old new _ _ survives (λ clean. (writer (owed (omega (arith, survives.clean)))).left new survives)

-- all three clauses, where the parameters are given as values that are found to be these
pub record Written {A : Type 0} (Is : Database → Database → Type 0) (TooBig Why : Type 0) (old new : State) (result : Result A TableFault) : Type 0 where
  pub ran : Ran Is old new result
  pub fault : Faults TooBig Why old new result
  pub crash : CrashMayLeave Is old new

module _ {text : List ℕ} {given params : Row} {Is : Database → Database → Type 0} {TooBig Why : Type 0} (old new : State) (is : given ≡ params) where
  pub written_by : {B : Type 0} → (HasCleanDisk old → B) → (B → Writer text params Is old) → (B → Stopper text params TooBig Why old) → Survives old new (CommitsBy text given old)
      → {A : Type 0} (result : Result A TableFault) → (HasCleanDisk new → RunsStatement text given old new result) → Written Is TooBig Why old new result
  written_by owed writer stopper survives result performs =
      let same = subst (λ ps. Survives old new (CommitsBy text ps old)) is survives in
      let does = λ (clean : HasCleanDisk new). subst (λ ps. RunsStatement text ps old new result) is (performs clean) in
      record {
        ran = ran_by old new owed writer same result does;
        fault = faults_by old new owed stopper same result does;
        crash = left_by old new owed writer same;
      }

  -- the same where two facts are owed, and where none is
  pub written_by_both : {B C : Type 0} → (HasCleanDisk old → B) → (HasCleanDisk old → C) → (B → C → Writer text params Is old) → (B → C → Stopper text params TooBig Why old) → Survives old new (CommitsBy text given old)
      → {A : Type 0} (result : Result A TableFault) → (HasCleanDisk new → RunsStatement text given old new result) → Written Is TooBig Why old new result
  written_by_both {B} {C} owed also writer stopper = written_by (λ clean. (owed clean, also clean)) (λ (both : B × C). writer both.0 both.1) (λ (both : B × C). stopper both.0 both.1)

  pub written_at : Writer text params Is old → Stopper text params TooBig Why old → Survives old new (CommitsBy text given old)
      → {A : Type 0} (result : Result A TableFault) → (HasCleanDisk new → RunsStatement text given old new result) → Written Is TooBig Why old new result
  written_at writer stopper = written_by {B = Unit {0}} (λ _. tt) (λ _. writer) (λ _. stopper)
