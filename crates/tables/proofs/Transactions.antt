-- BEGIN, COMMIT and ROLLBACK.
use Rattle.std.proofs.Common.{◌≡◌, ◌⊎◌, ◌≤◌, inl, inr, ℕ, List, [], codes, length, None, Ok, Err, Result, false, IsSome, IsTrue, refl, sym, ap, subst, ◌∙◌, arith}
use Rattle.std.proofs.lemmas.Bool.{cases_Bool}
use Rattle.sqlite_trees.specs.Tree.{Trees}
use Rattle.sqlite_schema.specs.declared.schema.Schema.{Schema}
use Rattle.sqlite_schema.specs.declared.command.Command.{Command}
use Rattle.sqlite_schema.specs.declared.command.Command.TheVariants.{Begin, Commit, Rollback}
use Rattle.sqlite_tied.specs.Compute.{everything}
use Rattle.sqlite.specs.Listing.{understood}
use Rattle.sqlite_resolve.specs.declared.compiled.Compiled.{Compiled}
use Rattle.sqlite_resolve.specs.declared.error.CompileError.{CompileError}
use Rattle.sqlite.specs.declared.error.Error.{Error}
use Rattle.sqlite.specs.Calls.{IsWrite}
use Rattle.sqlite.specs.Does.{Does}
use Rattle.sqlite.specs.State.{State, HasCleanDisk, CommitsBy, MayCommit, Survives, text_of, Executes, ExecutesIn, IsNotRun, IsNoStatement, IsMisplaced, MayChange, shows_rows, mode_of}
use Rattle.sqlite.proofs.StateLemmas.{survives_weaker}
use Rattle.sqlite.proofs.Callers.{IsPlain, command_of, runs_as}
use Rattle.tables.proofs.Stopping.{IsWhole, left, of_store, stopped}
use Rattle.tables.specs.Calls.{Begun, Committed, TakenBack, Faults, Gave, Stops}
use Rattle.tables.specs.Faults.{table_fault_of}
use Rattle.tables.specs.Texts.{RunsStatement}
use Rattle.tables.specs.declared.table_fault.TableFault.{TableFault}

-- what a text is read as, whatever the schema
pub record IsSaid (sql : List ℕ) (command : Command) : Type 0 where
  pub is : (schema : Schema) → command_of (understood schema sql) ≡ command
  pub plain : (schema : Schema) → IsPlain (understood schema sql)
  pub whole : (schema : Schema) → IsWhole sql 0 (understood schema sql)

said_begin : IsSaid (codes "BEGIN") Begin
unfolding understood everything
said_begin = record { is = λ _. refl; plain = λ _. (refl, refl); whole = λ _. (refl, refl) }

said_commit : IsSaid (codes "COMMIT") Commit
unfolding understood everything
said_commit = record { is = λ _. refl; plain = λ _. (refl, refl); whole = λ _. (refl, refl) }

said_rollback : IsSaid (codes "ROLLBACK") Rollback
unfolding understood everything
said_rollback = record { is = λ _. refl; plain = λ _. (refl, refl); whole = λ _. (refl, refl) }

may : (sql : List ℕ) (command : Command) → IsSaid sql command → (old : State) (db : Trees) → CommitsBy sql [] old db → (t : List ℕ) × MayCommit old None command t [] db
unfolding CommitsBy
may sql command said old db h =
    let bare = subst IsPlain h.1.is (said.plain old.now.schema) in
    (text_of sql h.0, subst (λ k. MayCommit old None k (text_of sql h.0) [] db) (ap command_of (sym h.1.is) ∙ said.is old.now.schema) (rw (bare.0, bare.1) at h.2))

-- why it is refused
module _ (sql : List ℕ) (command : Command) (said : IsSaid sql command) (quiet : (c : Compiled) → c.command ≡ command → c.returning ≡ None → shows_rows false c ≡ false)
    (silent : IsWrite command → ⊥) (stored : (old : State) (t : List ℕ) → Does old.step_limit (mode_of old) [] old.now t None command (Err None) → ⊥)
    (Why : State → Type 0) (placed : (old : State) (e : Error) → IsMisplaced old command e → Why old) where
  pub refused_by : (old new : State) (fault : TableFault) (e : Error) → fault ≡ table_fault_of e → Executes sql [] old new (Err e) → Stops ⊥ (Why old) old new fault
  refused_by old new fault e is h =
      subst (Stops ⊥ (Why old) old new) (sym is)
      (stopped sql [] command old.now.schema (said.is _) (said.plain _) quiet old refl ⊥ (Why old) (λ t _. stored old t) (λ t e _ writes. absurd (silent writes)) (placed old) (said.whole _) new e h)

begins_in : (old : State) (e : Error) → IsMisplaced old Begin e → IsTrue old.in_transaction
begins_in old e (inl (_, inl begin)) = begin.1
begins_in old e (inl (_, inr (inl ends, _))) = absurd (let no = ends in cc)
begins_in old e (inl (_, inr (inr ends, _))) = absurd (let no = ends in cc)
begins_in old e (inr (_, name, inl release, _)) = absurd (cc)
begins_in old e (inr (_, name, inr back, _)) = absurd (cc)

commits_out : (old : State) (e : Error) → IsMisplaced old Commit e → old.in_transaction ≡ false
commits_out old e (inl (_, inl begin)) = absurd (let no = begin.0 in cc)
commits_out old e (inl (_, inr it)) = it.1
commits_out old e (inr (_, name, inl release, _)) = absurd (cc)
commits_out old e (inr (_, name, inr back, _)) = absurd (cc)

rolls_back_out : (old : State) (e : Error) → IsMisplaced old Rollback e → old.in_transaction ≡ false
rolls_back_out old e (inl (_, inl begin)) = absurd (let no = begin.0 in cc)
rolls_back_out old e (inl (_, inr it)) = it.1
rolls_back_out old e (inr (_, name, inl release, _)) = absurd (cc)
rolls_back_out old e (inr (_, name, inr back, _)) = absurd (cc)

pub begin_ran : {A : Type 0} (old new : State) (result : Result A TableFault) → RunsStatement (codes "BEGIN") [] old new result → Gave (Begun old new) old new result
begin_ran old new (Err f) h clean = let stops = refused_by _ Begin said_begin (λ c is none. rw (is, none) refl) (λ h. h) (λ old t h. cc) (λ s. IsTrue s.in_transaction) begins_in old new f h.0 h.1 h.2 in (left _ _ old new f stops, of_store _ _ old new f stops)
begin_ran old new (Ok a) h clean = let r = runs_as _ [] old new old.now.schema refl Begin (said_begin.is _) (said_begin.plain _) h.0 h.1 in (r.1, r.4, r.0)

pub begin_faults : {A : Type 0} (old new : State) (result : Result A TableFault) → (HasCleanDisk new → RunsStatement (codes "BEGIN") [] old new result) → Faults ⊥ (IsTrue old.in_transaction) old new result
begin_faults old new (Err f) performs clean = let h = performs clean in refused_by _ Begin said_begin (λ c is none. rw (is, none) refl) (λ h. h) (λ old t h. cc) (λ s. IsTrue s.in_transaction) begins_in old new f h.0 h.1 h.2
begin_faults old new (Ok a) performs clean = tt

pub commit_ran : {A : Type 0} (old new : State) (result : Result A TableFault) → RunsStatement (codes "COMMIT") [] old new result → Gave (Committed old new) old new result
commit_ran old new (Err f) h clean = let stops = refused_by _ Commit said_commit (λ c is none. rw (is, none) refl) (λ h. h) (λ old t h. cc) (λ s. s.in_transaction ≡ false) commits_out old new f h.0 h.1 h.2 in (left _ _ old new f stops, of_store _ _ old new f stops)
commit_ran old new (Ok a) h clean = let r = runs_as _ [] old new old.now.schema refl Commit (said_commit.is _) (said_commit.plain _) h.0 h.1 in (r.0, r.1, r.4)

pub commit_faults : {A : Type 0} (old new : State) (result : Result A TableFault) → (HasCleanDisk new → RunsStatement (codes "COMMIT") [] old new result) → Faults ⊥ (old.in_transaction ≡ false) old new result
commit_faults old new (Err f) performs clean = let h = performs clean in refused_by _ Commit said_commit (λ c is none. rw (is, none) refl) (λ h. h) (λ old t h. cc) (λ s. s.in_transaction ≡ false) commits_out old new f h.0 h.1 h.2
commit_faults old new (Ok a) performs clean = tt

pub rollback_ran : {A : Type 0} (old new : State) (result : Result A TableFault) → RunsStatement (codes "ROLLBACK") [] old new result → Gave (TakenBack old new) old new result
rollback_ran old new (Err f) h clean = let stops = refused_by _ Rollback said_rollback (λ c is none. rw (is, none) refl) (λ h. h) (λ old t h. cc) (λ s. s.in_transaction ≡ false) rolls_back_out old new f h.0 h.1 h.2 in (left _ _ old new f stops, of_store _ _ old new f stops)
rollback_ran old new (Ok a) h clean = let r = runs_as _ [] old new old.now.schema refl Rollback (said_rollback.is _) (said_rollback.plain _) h.0 h.1 in (r.0, r.1)

pub rollback_faults : {A : Type 0} (old new : State) (result : Result A TableFault) → (HasCleanDisk new → RunsStatement (codes "ROLLBACK") [] old new result) → Faults ⊥ (old.in_transaction ≡ false) old new result
rollback_faults old new (Err f) performs clean = let h = performs clean in refused_by _ Rollback said_rollback (λ c is none. rw (is, none) refl) (λ h. h) (λ old t h. cc) (λ s. s.in_transaction ≡ false) rolls_back_out old new f h.0 h.1 h.2
rollback_faults old new (Ok a) performs clean = tt

pub begin_left : (old new : State) → Survives old new (CommitsBy (codes "BEGIN") [] old) → Survives old new (λ _. ⊥)
begin_left old new = survives_weaker old new _ _ (λ _ db h. elim (may _ Begin said_begin old db h).1 [
  | inl ends ↦ elim ends.0 [ inl e ↦ cc | inr r ↦ let e = r.2 in cc ]
  | inr w ↦ let e = w.3 in cc
])

pub commit_left : (old new : State) → Survives old new (CommitsBy (codes "COMMIT") [] old) → Survives old new (λ trees. trees ≡ old.now.trees)
commit_left old new = survives_weaker old new _ _ (λ _ db h. elim (may _ Commit said_commit old db h).1 [
  | inl ends ↦ ends.1
  | inr w ↦ absurd (let e = w.3 in cc)
])

pub rollback_left : (old new : State) → Survives old new (CommitsBy (codes "ROLLBACK") [] old) → Survives old new (λ _. ⊥)
rollback_left old new = survives_weaker old new _ _ (λ _ db h. elim (may _ Rollback said_rollback old db h).1 [
  | inl ends ↦ elim ends.0 [ inl e ↦ cc | inr r ↦ let e = r.2 in cc ]
  | inr w ↦ let e = w.3 in cc
])

-- ---- ROLLBACK leaves no transaction, whatever it answers

-- a whole text without parameters
abbrev IsWholeRollback : Result Compiled CompileError → Type 0
IsWholeRollback (Ok c) = (c.command ≡ Rollback) × (c.returning ≡ None) × (c.formats ≡ []) × (c.names ≡ []) × (c.tail ≡ 8)
IsWholeRollback (Err e) = ⊥

whole_rollback : (schema : Schema) → IsWholeRollback (understood schema (codes "ROLLBACK"))
unfolding understood everything
whole_rollback schema = (refl, refl, refl, refl, refl)

abbrev whole : (schema : Schema) (c : Compiled) → understood schema (codes "ROLLBACK") ≡ Ok c → IsWholeRollback (Ok c)
whole schema c is = subst IsWholeRollback is (whole_rollback schema)

is_statement : (s : State) (e : Error) → IsNoStatement s (codes "ROLLBACK") [] e → ⊥
is_statement s e (inl (fault, is, _)) = subst IsWholeRollback is (whole_rollback s.now.schema)
is_statement s e (inr (c, is, inl (short, _))) =
    let w = whole s.now.schema c is in
    short (subst (λ n. 8 ≤ n) (sym w.4) (omega arith))
is_statement s e (inr (c, is, inr (inl (differ, _)))) = let w = whole s.now.schema c is in differ (ap length (sym w.3))
is_statement s e (inr (c, is, inr (inr (some, _)))) = let w = whole s.now.schema c is in some w.2

refused : (s : State) (e : Error) (c : Compiled) (X : Type 0) → IsWholeRollback (Ok c) → IsMisplaced s c.command e ⊎ (MayChange c × X) → s.in_transaction ≡ false
refused s e c X w (inl is) = rolls_back_out s e (subst (λ k. IsMisplaced s k e) w.0 is)
refused s e c X w (inr (inl writes, _)) = absurd (subst IsWrite w.0 writes)
refused s e c X w (inr (inr some, _)) = absurd (let no = subst IsSome w.1 some in cc)

pub rollback_ended : (old new : State) (e : Error) → Executes (codes "ROLLBACK") [] old new (Err e) → new.in_transaction ≡ false
unfolding ExecutesIn IsNotRun
rollback_ended old new e (inl (inl none)) = absurd (is_statement old e none.0)
rollback_ended old new e (inl (inr fails)) = fails.3.autocommit
rollback_ended old new e (inr ran) =
    let w = whole old.now.schema ran.0 ran.1.is in
    elim (cases_Bool (shows_rows false ran.0)) [
      | inl shows ↦ absurd (let no = rw (w.0, w.1) at shows in cc)
      | inr runs ↦ elim (rw runs at ran.2) [
        | inl is ↦ is.1.0.mode ∙ refused old e ran.0 _ w is.0
        | inr fails ↦ fails.3.autocommit
      ]
    ]

pub rollback_ends : {A : Type 0} (old new : State) (result : Result A TableFault) → RunsStatement (codes "ROLLBACK") [] old new result → new.in_transaction ≡ false
rollback_ends old new (Err f) h = rollback_ended old new h.0 h.2
rollback_ends old new (Ok a) h = (runs_as _ [] old new old.now.schema refl Rollback (said_rollback.is _) (said_rollback.plain _) h.0 h.1).1.autocommit
