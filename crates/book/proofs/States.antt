-- A state that tables may mean stays one after each command, and is the only one that they mean.
use Rattle.std.proofs.Common.{◌≡◌, ◌⊎◌, inl, inr, refl, sym, ap, subst, ◌∙◌, ℕ, true, false, IsTrue, List}
use Rattle.std.proofs.Math.Logic.{∥∥₁_elim}
use Rattle.std.specs.Coded.{Coded-set}
use Rattle.sqlite_schema.specs.declared.schema.Schema.{Schema}
use Rattle.sqlite_trees.specs.Objects.{catalog_tree}
use Rattle.sqlite_trees.specs.Tree.{Trees}
use Rattle.sqlite_trees.specs.declared.store.Store.{Ghosts}
use Rattle.sqlite_catalog.proofs.ReadLemmas.{lists_once}
use Rattle.sqlite.specs.State as conn
use Rattle.sqlite.specs.State.{HasCleanDisk, IsLive}
use Rattle.sqlite.specs.Effect.{Database, IsDatabase}
use Rattle.sqlite.specs.Held.{Held, state}
use Rattle.time117.specs.Local.{is_zone_text}
use Rattle.command.specs.Keys.{KeyParts}
use Rattle.command.specs.Instructions.{IsMade}
use Rattle.command.specs.declared.exceedance.Reply.{Reply}
use Rattle.command.specs.declared.instruction.Instruction.{Instruction}
use Rattle.command.specs.declared.refusal.Refusal.{Refusal}
use Rattle.roster.proofs.Accepted.{accepted}
use Rattle.roster.proofs.KeepsHonest.{keeps_honest}
use Rattle.roster.proofs.MadeByCommands.{starts_sound}
use Rattle.roster.proofs.Sound.{keeps_sound}
use Rattle.roster.specs.Folds.{left_by, next}
use Rattle.roster.specs.Honest.{Honest}
use Rattle.roster.specs.Sound.{Sound}
use Rattle.roster.specs.State.{State, empty}
use Rattle.roster.specs.Steps.{after, step_of}
use Rattle.roster.specs.declared.change.Change.{Change}
use Rattle.roster.specs.contracts.state.Roster as roster_type
use Rattle.roster.specs.declared.change.Verdict.{Verdict}
use Rattle.roster.specs.declared.change.Verdict.TheVariants.{Accept, Refuse, Repeat}
use Rattle.entries.specs.SameRows.{EitherRows, HasInstants}
use Rattle.entries.proofs.SameEditions.{database_holds_one_of_either}
use Rattle.entries.proofs.SameStates.{database_holds_one_state}
use Rattle.state_rows.specs.Rows.{FirstRows, Rows}
use Rattle.entries.specs.declared.fault.LoadFault.{LoadFault}
use Rattle.loading.specs.Loading.{Justifies}
use Rattle.loading.specs.Refusals.{tells}
use Rattle.store.proofs.Loads.{shows_what_is_left}
use Rattle.store.proofs.StaysTyped.{starts_typed, stays_typed}
use Rattle.store.proofs.TypedRows.{not_refused, right_typed}
use Rattle.store.specs.Found.{IsFound}
use Rattle.store.specs.Loaded.{CrashMayMigrate, IsLoaded}
use Rattle.store.specs.Typed.{IsTypedChange}
use Rattle.state_rows.specs.Kept.{IsBookOf, IsFirstBookOf, HoldBookOf, HoldFirstBookOf}
use Rattle.state_rows.specs.Outcomes.{CrashAddsNothing, HoldsNow, CrashLeaves, CrashLeavesSome, IsEither, IsJust}
use Rattle.book.specs.Kept.{IsKept, Keeps, KeepsEither, StillHolds, IsEitherKept}

pub kept_after : (s : State) (key : KeyParts) (instruction : Instruction) (change : Change) (reply : Reply) → IsTypedChange change → IsKept s → step_of s key instruction ≡ Accept change reply → IsKept (after s change)
kept_after s key instruction change reply new kept step =
    let command : change.command ≡ instruction = ap (λ (c : Change). c.command) (accepted s key instruction change reply step).is in
    record {
      sound = keeps_sound s key instruction change reply (subst IsMade command new.command.0) kept.sound step;
      typed = stays_typed s key instruction change reply new kept.sound kept.typed step;
    }

-- the times of the kept commands are instants
pub kept_instants : (s : State) → IsKept s → HasInstants s
kept_instants s kept name r here = (kept.typed.requests name r here).2.command.1

-- what is found is a state that tables may mean
pub found_kept : (s : State) (db : Database) → IsFound s db → IsKept s
found_kept s db found = record { sound = found.sound; typed = right_typed s db found.right }

-- trees hold one such state at most
pub one_held : (trees : Trees) (s t : State) → HoldBookOf trees s → HoldBookOf trees t → IsKept s → IsKept t → s ≡ t
one_held trees s t p q a b =
    let same : p.0 ≡ q.0 = lists_once (trees catalog_tree) p.0 q.0 p.1.database.lists q.1.database.lists in
    let first : IsBookOf s (record { schema = q.0; trees = trees }) = subst (λ (schema : Schema). IsBookOf s (record { schema = schema; trees = trees })) same p.1 in
    database_holds_one_state s t (record { schema = q.0; trees = trees }) a.sound b.sound (kept_instants s a) (kept_instants t b) first.rows q.1.rows

-- trees hold this state, in version 1 or 2
abbrev pub HoldEither : Trees → State → Type 0
HoldEither trees t = HoldFirstBookOf trees t ⊎ HoldBookOf trees t

rows_here : (schema : Schema) (trees : Trees) (t : State) → IsDatabase (record { schema = schema; trees = trees }) → HoldEither trees t → EitherRows t (record { schema = schema; trees = trees })
rows_here schema trees t database (inl p) =
    let same : p.0 ≡ schema = lists_once (trees catalog_tree) p.0 schema p.1.database.lists database.lists in
    inl (subst (λ (it : Schema). FirstRows t (record { schema = it; trees = trees })) same p.1.rows, p.1.first)
rows_here schema trees t database (inr p) =
    let same : p.0 ≡ schema = lists_once (trees catalog_tree) p.0 schema p.1.database.lists database.lists in
    inr (subst (λ (it : Schema). Rows t (record { schema = it; trees = trees })) same p.1.rows)

found_rows : (s : State) (db : Database) → IsFirstBookOf s db ⊎ IsBookOf s db → EitherRows s db
found_rows s db (inl is) = inl (is.rows, is.first)
found_rows s db (inr is) = inr is.rows

found_database : (s : State) (db : Database) → IsFirstBookOf s db ⊎ IsBookOf s db → IsDatabase db
found_database s db (inl is) = is.database
found_database s db (inr is) = is.database

-- what is found in trees is the state that they hold
pub one_found : (db : Database) (s t : State) → IsFound s db → HoldEither db.trees t → Sound t → HasInstants t → s ≡ t
one_found db s t found holds sound instants =
    database_holds_one_of_either s t db found.sound sound found.instants instants (found_rows s db found.book)
    (rows_here db.schema db.trees t (found_database s db found.book) holds)

one_of_kept : (db : Database) (s t : State) → IsFound s db → HoldEither db.trees t → IsKept t → s ≡ t
one_of_kept db s t found holds kept = one_found db s t found holds kept.sound (kept_instants t kept)

pub one_state : (s t : State) → IsProp (s ≡ t)
one_state s t = Coded-set (roster_type.the_row).coded s t

-- a crash leaves one such state at most and nothing else
pub same_state : (now : conn.State) (s t : State) → Keeps now s → Keeps now t → HasCleanDisk now → s ≡ t
same_state now s t a b clean = ∥∥₁_elim (a.some clean) (one_state s t) (λ left.
    let x = a.leaves.crash clean left.0 left.1 in
    let y = b.leaves.crash clean left.0 left.1 in
    one_held left.0 s t (subst (HoldBookOf left.0) x.1 x.2) (subst (HoldBookOf left.0) y.1 y.2) (a.kept clean) (b.kept clean))

-- what was so of a crash stays so where it leaves nothing else
pub still_leaves : (old new : conn.State) (P : State → Type 0) → CrashAddsNothing old new → CrashLeaves old P → CrashLeaves new P
still_leaves old new P left leaves = record { crash = λ clean trees may. leaves.crash (left.disk clean) trees (left.crash clean trees may) }

pub still_keeps : (old new : conn.State) (s : State) → CrashAddsNothing old new → CrashLeavesSome new → Keeps old s → Keeps new s
still_keeps old new s left some keeps = record {
  kept = λ clean. keeps.kept (left.disk clean);
  leaves = still_leaves old new (IsJust s) left keeps.leaves;
  some = some;
}

-- what was loaded
pub loaded : (now : conn.State) (s : State) {db : Database} → (HasCleanDisk now → IsFound s db) → CrashLeaves now (IsJust s) → CrashLeavesSome now → Keeps now s
loaded now s {db} found leaves some = record {
  kept = λ clean. found_kept s db (found clean);
  leaves = leaves;
  some = some;
}

-- a book that was loaded is in the state that a crash could have left, in version 1 or 2
pub loaded_keeps : (old new : conn.State) (s r : State) → IsLoaded old new r → KeepsEither old s → Keeps new s
loaded_keeps old new s r it keeps = record {
  kept = λ clean. keeps.kept (it.disk clean);
  leaves = record {
    crash = λ clean trees may.
        let one = it.crash.crash clean trees may in
        (one.0, one.1 ∙ one_of_kept old.now r s (it.found clean) (keeps.leaves.crash (it.disk clean) old.now.trees (it.left clean)) (keeps.kept (it.disk clean)), one.2);
  };
  some = it.some_left;
}

-- where it was refused, a crash leaves that state still, in version 1 or 2
pub refused_keeps : (old new : conn.State) (s : State) (some : CrashLeavesSome new) → CrashMayMigrate old new → KeepsEither old s → KeepsEither new s
refused_keeps old new s some raise keeps = record {
  kept = λ clean. keeps.kept (raise.disk clean);
  leaves = record {
    crash = λ clean trees may. elim (raise.crash clean trees may) [
      | inl was ↦ keeps.leaves.crash (raise.disk clean) trees was
      | inr is ↦
          let before = raise.disk clean in
          inr (subst (HoldBookOf trees) (one_of_kept old.now is.it s is.found (keeps.leaves.crash before old.now.trees is.left) (keeps.kept before)) is.is)
    ];
  };
  some = some;
}

-- and where it left that state in version 2 alone, it does so still
pub refused_still : (old new : conn.State) (s : State) (some : CrashLeavesSome new) → CrashMayMigrate old new → Keeps old s → Keeps new s
refused_still old new s some raise keeps = record {
  kept = λ clean. keeps.kept (raise.disk clean);
  leaves = record {
    crash = λ clean trees may. elim (raise.crash clean trees may) [
      | inl was ↦ keeps.leaves.crash (raise.disk clean) trees was
      | inr is ↦
          let before = raise.disk clean in
          let at = keeps.leaves.crash before old.now.trees is.left in
          let holds = subst (HoldBookOf old.now.trees) at.1 at.2 in
          (s, refl, subst (HoldBookOf trees) (one_of_kept old.now is.it s is.found (inr holds) (keeps.kept before)) is.is)
    ];
  };
  some = some;
}

-- a book that is kept isn't refused for what its tables are
same_database : (schema : Schema) (trees : Trees) (s : State) → IsDatabase (record { schema = schema; trees = trees }) → HoldEither trees s →
    IsFirstBookOf s (record { schema = schema; trees = trees }) ⊎ IsBookOf s (record { schema = schema; trees = trees })
same_database schema trees s database (inl p) =
    let same : p.0 ≡ schema = lists_once (trees catalog_tree) p.0 schema p.1.database.lists database.lists in
    inl (subst (λ (it : Schema). IsFirstBookOf s (record { schema = it; trees = trees })) same p.1)
same_database schema trees s database (inr p) =
    let same : p.0 ≡ schema = lists_once (trees catalog_tree) p.0 schema p.1.database.lists database.lists in
    inr (subst (λ (it : Schema). IsBookOf s (record { schema = it; trees = trees })) same p.1)

pub told_by_none : (db : Database) (s : State) (fault : LoadFault) → IsDatabase db → HoldEither db.trees s → IsKept s → Justifies fault db → tells fault ≡ false
told_by_none db s fault database holds kept says = elim (tells fault) as (λ b. tells fault ≡ b → tells fault ≡ false) [
  | true ↦ λ told. absurd (not_refused s db fault kept.sound kept.typed (same_database db.schema db.trees s database holds) told says)
  | false ↦ λ silent. silent
] refl

pub own_told : {S : Type 0} (g : Ghosts S) (conn : Held S) (s : State) (fault : LoadFault) → KeepsEither (state g conn) s → HasCleanDisk (state g conn) → IsTrue (state g conn).is_open →
    IsLive (state g conn) → (state g conn).now ≡ (state g conn).committed → ((it : S) → IsTrue (g.view it).is_open → g.recovers it (g.view it).committed) →
    Justifies fault (state g conn).now → tells fault ≡ false
own_told g conn s fault keeps clean opened live same stays says =
    told_by_none (state g conn).now s fault (live opened).0
    (keeps.leaves.crash clean (state g conn).now.trees (shows_what_is_left g conn opened same stays)) (keeps.kept clean) says

-- what was made
pub begun_empty : (now : conn.State) (zone : List ℕ) → is_zone_text zone ≡ true → CrashLeaves now (IsJust (empty zone)) → CrashLeavesSome now → Keeps now (empty zone)
begun_empty now zone rule leaves some = record {
  kept = λ _. record { sound = (starts_sound zone).0; typed = starts_typed zone rule };
  leaves = leaves;
  some = some;
}

pub one_of_either : (now : conn.State) (s t : State) → Keeps now s → CrashLeaves now (IsEitherKept s t)
one_of_either now s t keeps = record {
  crash = λ clean trees may. let it = keeps.leaves.crash clean trees may in (it.0, (inl it.1, subst IsKept (sym it.1) (keeps.kept clean)), it.2);
}

pub both_kept : (s t r : State) → IsEither s t r → IsKept s → IsKept t → IsKept r
both_kept s t r (inl is) first second = subst IsKept (sym is) first
both_kept s t r (inr is) first second = subst IsKept (sym is) second

-- what is shown of a state that is held stays so while nothing changes
pub shows_still : (now : conn.State) (s : State) → HoldsNow now s → StillHolds now s
shows_still now s shown clean opened = (shown clean).1

-- ---- A command

module _ (s : State) (key : KeyParts) (instruction : Instruction) where
  pub next_repeated : (reply : Reply) → Repeat reply ≡ step_of s key instruction → next s (key, instruction) ≡ s
  next_repeated reply is = ap (left_by s) (sym is)

  pub next_refused : (refusal : Refusal) → Refuse refusal ≡ step_of s key instruction → next s (key, instruction) ≡ s
  next_refused refusal is = ap (left_by s) (sym is)

  pub next_accepted : (change : Change) (reply : Reply) → Accept change reply ≡ step_of s key instruction → next s (key, instruction) ≡ after s change
  next_accepted change reply is = ap (left_by s) (sym is)

-- an honest state stays honest
honest_after : (s : State) (key : KeyParts) (instruction : Instruction) (v : Verdict) → step_of s key instruction ≡ v → IsMade instruction → Sound s → Honest s → Sound (left_by s v) × Honest (left_by s v)
honest_after s key instruction (Repeat reply) is made sound honest = (sound, honest)
honest_after s key instruction (Accept change reply) is made sound honest =
    (keeps_sound s key instruction change reply made sound is, keeps_honest s key instruction change reply made sound honest is)
honest_after s key instruction (Refuse refusal) is made sound honest = (sound, honest)

pub honest_next : (s : State) (key : KeyParts) (instruction : Instruction) → IsMade instruction → Sound s → Honest s → Sound (next s (key, instruction)) × Honest (next s (key, instruction))
honest_next s key instruction made sound honest = honest_after s key instruction (step_of s key instruction) refl made sound honest

-- ---- What is said of the state that a crash could leave

-- the tables at hand mean it too
pub shown_before : (old : conn.State) (s r : State) → Keeps old s → Keeps old r → HoldsNow old s → HoldsNow old r
shown_before old s r keeps held shown clean = let it = shown clean in (it.0, subst (λ (x : State). IsBookOf x old.now) (same_state old s r keeps held clean) it.1)

module _ (old new : conn.State) (s r : State) (held : Keeps old r) (keeps : Keeps old s) (honest : HasCleanDisk new → HasCleanDisk old) where
  same : HasCleanDisk new → r ≡ s
  same clean = same_state old r s held keeps (honest clean)

  pub keeps_as : (of : State → State) (t : State) → Keeps new t → t ≡ of r → Keeps new (of s)
  keeps_as of t now is = record {
    kept = λ clean. subst IsKept (is ∙ ap of (same clean)) (now.kept clean);
    leaves = record { crash = λ clean trees may. let it = now.leaves.crash clean trees may in (it.0, it.1 ∙ is ∙ ap of (same clean), it.2) };
    some = now.some;
  }

  pub shows_as : (of : State → State) (t : State) → HoldsNow new t → t ≡ of r → HoldsNow new (of s)
  shows_as of t shown is clean = let it = shown clean in (it.0, subst (λ (x : State). IsBookOf x new.now) (is ∙ ap of (same clean)) it.1)

  pub either_as : (of : State → State) → CrashLeaves new (IsEitherKept r (of r)) → CrashLeaves new (IsEitherKept s (of s))
  either_as of now = record { crash = λ clean trees may. subst (λ (x : State). (t : State) × IsEitherKept x (of x) t × HoldBookOf trees t) (same clean) (now.crash clean trees may) }

  pub still_as : StillHolds new r → StillHolds new s
  still_as shown clean opened = subst (λ (x : State). IsBookOf x new.now) (same clean) (shown clean opened)
