-- What the end of a transaction leaves.
use Rattle.std.proofs.Common.{IfErr, ◌≡◌, inl, inr, refl, sym, subst, arith, IsTrue, Result, Ok, Err, OnOk, OnErr, IsOk}
use Rattle.sqlite_trees.specs.declared.store.Store.{Ghosts}
use Rattle.sqlite_trees.specs.Tree.{Trees}
use Rattle.sqlite.specs.Effect.{Database}
use Rattle.sqlite.specs.State.{State, HasCleanDisk, Survives}
use Rattle.sqlite.specs.Held.{Held, state}
use Rattle.roster.specs.State as roster
use Rattle.tables.specs.Calls.{Committed}
use Rattle.state_rows.specs.Kept.{IsBookOf, HoldBookOf}
use Rattle.state_rows.specs.Outcomes.{CrashLeaves, CrashMayAdd, HoldsNow, IsOverBook, IsJust}

-- ---- Answers

pub from_ok : {A E : Type 0} {P : Type 0} (r : Result A E) → IsOk r → OnOk r P → P
from_ok (Ok a) is p = p
from_ok (Err e) is p = absurd (cc)

pub on_ok : {A E : Type 0} {P Q R X : Type 0} (r : Result A E) → OnOk r P → (X → OnOk r Q) → (P → (X → Q) → R) → OnOk r R
on_ok (Ok a) p q f = f p q
on_ok (Err e) p q f = tt

pub on_err : {A E : Type 0} {R : Type 0} (r : Result A E) → R → OnErr r R
on_err (Ok a) x = tt
on_err (Err e) x = x

pub if_err : {A E : Type 0} {P : E → Type 0} (r : Result A E) → ((e : E) → r ≡ Err e → P e) → IfErr r P
if_err (Ok a) p = tt
if_err (Err e) p = p e refl

-- ---- A database, by its trees

pub of_trees : (t : roster.State) (db : Database) (trees : Trees) → trees ≡ db.trees → IsBookOf t db → HoldBookOf trees t
of_trees t db trees is book = (db.schema, subst (λ ts. IsBookOf t (record { schema = db.schema; trees = ts })) (sym is) book)

module _ {S : Type 0} (g : Ghosts S) (last : State) (new : Held S) (t : roster.State)
    (ended : HasCleanDisk (state g new) → Committed last (state g new)) (holds : HasCleanDisk (state g new) → IsBookOf t last.now) where
  -- what was committed is all that a crash leaves
  pub ended_leaves : ((it : S) (trees : Trees) → IsTrue (g.view it).is_open → g.recovers it trees → trees ≡ (g.view it).committed) → CrashLeaves (state g new) (IsJust t)
  ended_leaves law = record {
    crash = λ clean trees may.
        let shows = (ended clean).1 in
        (t, refl, of_trees t (state g new).committed trees (law new.store trees shows.is_open may) (subst (IsBookOf t) (sym shows.committed_is) (holds clean)));
  }

  pub ended_now : HoldsNow (state g new) t
  ended_now clean = let shows = (ended clean).1 in (shows.is_open, subst (IsBookOf t) (sym shows.now_is) (holds clean))

  pub ended_over : IsOverBook (state g new)
  ended_over clean _ = let book = (ended_now clean).1 in (book.tables, book.stored)

-- where the end may have been reached
pub ended_adds : (old last new : State) (t : roster.State) (Done : Type 0) → (HasCleanDisk new → Done → IsBookOf t last.now) →
    Survives old new (λ trees. Done × (trees ≡ last.now.trees)) → CrashMayAdd old new t
ended_adds old last new t Done holds survives = record {
  disk = λ clean. omega (arith, survives.clean);
  crash = λ clean trees may. elim (survives.crash clean trees may) [
    | inl before ↦ inl before
    | inr reached ↦ inr (of_trees t last.now trees reached.1 (holds clean reached.0))
  ];
}
