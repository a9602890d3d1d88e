-- From what a crash leaves at entry to what it leaves at the end of a commit.
use Rattle.std.proofs.Common.{◌≡◌, inl, inr, refl, sym, subst, ◌∙◌, arith, IsTrue, Result, Ok, Err, OnOk, OnErr, IsOk}
use Rattle.sqlite_schema.specs.declared.schema.Schema.{Schema}
use Rattle.sqlite_trees.specs.Objects.{catalog_tree}
use Rattle.sqlite_trees.specs.declared.store.Store.{Ghosts}
use Rattle.sqlite_catalog.proofs.ReadLemmas.{lists_once}
use Rattle.sqlite.specs.Effect.{Database}
use Rattle.sqlite.specs.Held.{Held, state}
use Rattle.sqlite.specs.State.{State, HasCleanDisk, IsLive, KeepsCommit, Survives}
use Rattle.command.specs.Instructions.{IsMade}
use Rattle.roster.specs.State as roster
use Rattle.roster.specs.Steps.{after}
use Rattle.roster.specs.declared.change.Change.{Change}
use Rattle.tables.specs.Calls.{Begun, Committed, IsUnchangedOrUndone as NotMade}
use Rattle.writing.specs.Calls.{Changed, IsFit, IsReady, Wrote}
use Rattle.state_rows.specs.Kept.{IsBookOf}
use Rattle.writing.specs.Next.{IsAcceptedChange}
use Rattle.state_rows.specs.Outcomes.{CrashLeaves, IsOverBook, IsJust, IsEither, StillShows}
use Rattle.writing.specs.Writing.{Writes}
use Rattle.writing.proofs.Chaining.{keeps_then}
use Rattle.writing.proofs.Effects.{written}
use Rattle.writing.proofs.Ending.{of_trees}
use Rattle.state_rows.proofs.Outcomes.{unbegun_shows}

-- ---- At entry

-- an open connection shows the state that a crash would leave
pub shown : {S : Type 0} (g : Ghosts S) → ((it : S) → IsTrue (g.view it).is_open → g.recovers it (g.view it).committed) → (h : Held S) (s : roster.State) →
    IsLive (state g h) → CrashLeaves (state g h) (IsJust s) → HasCleanDisk (state g h) → IsTrue (state g h).is_open → IsBookOf s (state g h).committed
shown g stays h s live leaves clean opened =
    let it = leaves.crash clean (state g h).committed.trees (stays h.store opened) in
    let book = it.2.1 in
    let same : it.2.0 ≡ (state g h).committed.schema =
    lists_once ((state g h).committed.trees catalog_tree) it.2.0 (state g h).committed.schema book.database.lists (live opened).1.lists in
    subst (λ t. IsBookOf t (state g h).committed) it.1
    (subst (λ (schema : Schema). IsBookOf it.0 (record { schema = schema; trees = (state g h).committed.trees })) same book)

-- and so it does once the transaction is begun
pub begun_ready : (old begun : State) → (HasCleanDisk begun → HasCleanDisk old) → IsOverBook old → (HasCleanDisk begun → Begun old begun) → IsReady begun
begun_ready old begun before over begins = record {
  inside = λ clean. (begins clean).0.mode;
  opened = λ clean. (begins clean).0.is_open;
  fit = λ clean. let is = (begins clean).0 in subst IsFit (sym is.now_is) (over (before clean) is.was_open);
}

pub begun_holds : {S : Type 0} (g : Ghosts S) → ((it : S) → IsTrue (g.view it).is_open → g.recovers it (g.view it).committed) → (h : Held S) (begun : State) (s : roster.State) →
    IsLive (state g h) → (HasCleanDisk (state g h) → IsTrue (state g h).is_open → (state g h).now ≡ (state g h).committed) → (HasCleanDisk begun → HasCleanDisk (state g h)) →
    (HasCleanDisk begun → Begun (state g h) begun) → CrashLeaves (state g h) (IsJust s) → HasCleanDisk begun → IsBookOf s begun.now
begun_holds g stays h begun s live settled before begins leaves clean =
    let is = (begins clean).0 in
    subst (IsBookOf s) (sym (is.now_is ∙ settled (before clean) is.was_open)) (shown g stays h s live leaves (before clean) is.was_open)

-- ---- After the changes

pub written_holds : {A E : Type 0} (s : roster.State) (change : Change) → IsAcceptedChange s change → IsMade change.command → (begun last : State) (r : Result A E) →
    Wrote (Writes change) begun last r → IsReady begun → (HasCleanDisk begun → IsBookOf s begun.now) → IsLive last → HasCleanDisk last → IsOk r → IsBookOf (after s change) last.now
written_holds s change next made begun last (Err e) wrote ready book live clean is = absurd (cc)
written_holds s change next made begun last (Ok a) wrote ready book live clean is =
    let it = wrote.changed.done clean in
    let fit = wrote.ready.fit clean in
    record {
      database = (live it.1.is_open).0;
      tables = fit.0;
      stored = fit.1;
      rows = written s change next made begun.now last.now (ready.fit (omega (arith, wrote.changed.left.clean))) (book (omega (arith, wrote.changed.left.clean))).rows it.0;
    }

-- ---- What a crash leaves

pub kept_leaves : (old new : State) (P : roster.State → Type 0) → Survives old new (λ _. ⊥) → CrashLeaves old P → CrashLeaves new P
kept_leaves old new P survives leaves = record {
  crash = λ clean trees may. elim (survives.crash clean trees may) [
    | inl was ↦ leaves.crash (omega (arith, survives.clean)) trees was
    | inr none ↦ absurd none
  ];
}

pub either_leaves : (old last new : State) (s t : roster.State) (Done : Type 0) → Survives old new (λ trees. Done × (trees ≡ last.now.trees)) →
    (HasCleanDisk new → Done → IsBookOf t last.now) → CrashLeaves old (IsJust s) → CrashLeaves new (IsEither s t)
either_leaves old last new s t Done survives holds leaves = record {
  crash = λ clean trees may. elim (survives.crash clean trees may) [
    | inl was ↦ let it = leaves.crash (omega (arith, survives.clean)) trees was in (it.0, inl it.1, it.2)
    | inr reached ↦ (t, inr refl, of_trees t last.now trees reached.1 (holds clean reached.0))
  ];
}

-- ---- The tables stay those of a book

still_fit : (old new : State) → (HasCleanDisk new → HasCleanDisk old) → IsOverBook old → StillShows old new → IsOverBook new
still_fit old new before over still clean opened = let it = still clean opened in subst IsFit (sym it.1) (over (before clean) it.0)

pub unbegun_over : (old new : State) → (HasCleanDisk new → HasCleanDisk old) → IsOverBook old → (HasCleanDisk old → IsTrue old.is_open → old.now ≡ old.committed) → (HasCleanDisk new → NotMade old new) → IsOverBook new
unbegun_over old new before over settled left = still_fit old new before over (unbegun_shows old new before settled left)

pub ended_fit : {A E : Type 0} {Is : Database → Database → Type 0} (begun last new : State) (r : Result A E) → Wrote Is begun last r → IsOk r → (HasCleanDisk new → HasCleanDisk last) →
    (HasCleanDisk new → Committed last new) → IsOverBook new
ended_fit begun last new (Err e) wrote is before ended clean opened = absurd (cc)
ended_fit begun last new (Ok a) wrote is before ended clean opened = subst IsFit (sym (ended clean).1.now_is) (wrote.ready.fit (before clean))

pub undone_shows : {A E : Type 0} {Is : Database → Database → Type 0} (old begun last new : State) (r : Result A E) → Changed Is begun last r →
    (HasCleanDisk new → HasCleanDisk last) → (HasCleanDisk begun → HasCleanDisk old) → (HasCleanDisk old → IsTrue old.is_open → old.now ≡ old.committed) → (HasCleanDisk begun → Begun old begun) →
    (HasCleanDisk new → KeepsCommit last new) → (HasCleanDisk new → IsTrue new.is_open → new.now ≡ new.committed) → StillShows old new
undone_shows old begun last new r changed before earlier settled begins kept after_all clean opened =
    let late = before clean in
    let mid : HasCleanDisk begun = omega (arith, changed.left.clean) in
    let is = (begins mid).0 in
    let both = keeps_then begun last new (changed.kept late) (kept clean) in
    let was = is.was_open in
    (was, after_all clean opened ∙ both.committed opened ∙ is.committed_is ∙ sym (settled (earlier mid) was))

pub undone_fit : {A E : Type 0} {Is : Database → Database → Type 0} (old begun last new : State) (r : Result A E) → Wrote Is begun last r →
    (HasCleanDisk new → HasCleanDisk last) → (HasCleanDisk begun → HasCleanDisk old) → IsOverBook old → (HasCleanDisk old → IsTrue old.is_open → old.now ≡ old.committed) → (HasCleanDisk begun → Begun old begun) →
    (HasCleanDisk new → KeepsCommit last new) → (HasCleanDisk new → IsTrue new.is_open → new.now ≡ new.committed) → IsOverBook new
undone_fit old begun last new r wrote before earlier over settled begins kept after_all =
    still_fit old new (λ clean. let late = before clean in let mid : HasCleanDisk begun = omega (arith, wrote.changed.left.clean) in earlier mid) over
    (undone_shows old begun last new r wrote.changed before earlier settled begins kept after_all)

pub over_at_end : {A E D : Type 0} (new : State) {P Q R : Type 0} (r : Result A E) → OnOk r P → (D → OnOk r Q) → (D → OnErr r R) → (P → (D → Q) → IsOverBook new) → ((D → R) → IsOverBook new) → IsOverBook new
over_at_end new (Ok a) p q e f g = f p q
over_at_end new (Err x) p q e f g = g e

pub on_err_of : {A E D P Q : Type 0} (r : Result A E) → (D → OnErr r P) → ((D → P) → Q) → OnErr r Q
on_err_of (Ok a) kept f = tt
on_err_of (Err e) kept f = f kept

pub none_done : {A E : Type 0} (r : Result A E) (e : E) → r ≡ Err e → IsOk r → ⊥
none_done (Ok a) e same is = absurd (cc)
none_done (Err x) e same is = absurd (cc)

pub weaker : (new : State) (s t : roster.State) → CrashLeaves new (IsJust s) → CrashLeaves new (IsEither s t)
weaker new s t leaves = record { crash = λ clean trees may. let it = leaves.crash clean trees may in (it.0, inl it.1, it.2) }
