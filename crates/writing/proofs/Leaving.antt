-- What a migration leaves.
use Rattle.std.proofs.Common.{inl, inr, sym, subst, arith, Result, Ok, Err, OnErr}
use Rattle.sqlite.specs.State.{State, HasCleanDisk, Survives}
use Rattle.roster.specs.State as roster
use Rattle.tables.specs.Calls.{Begun}
use Rattle.state_rows.specs.Kept.{IsFirstBookOf}
use Rattle.state_rows.specs.Outcomes.{CrashAddsNothing, CrashLeavesEither, CrashLeavesFirst, CrashMayAdd, ShowsFirst, StillShows}

-- once the transaction is begun, the tables are those that were found
pub begun_first : (old begun : State) (s : roster.State) → (HasCleanDisk begun → HasCleanDisk old) → ShowsFirst old s → (HasCleanDisk begun → Begun old begun) → HasCleanDisk begun → IsFirstBookOf s begun.now
begun_first old begun s before found begins clean = let is = (begins clean).0 in subst (IsFirstBookOf s) (sym is.now_is) (found (before clean) is.was_open)

-- so the migration may be tried again
pub first_again : {A E : Type 0} (old new : State) (s : roster.State) (r : Result A E) → (HasCleanDisk new → HasCleanDisk old) → ShowsFirst old s → OnErr r (StillShows old new) → OnErr r (ShowsFirst new s)
first_again old new s (Ok a) before found still = tt
first_again old new s (Err e) before found still = λ clean opened. let it = still clean opened in subst (IsFirstBookOf s) (sym it.1) (found (before clean) it.0)

-- nothing is added to what a crash leaves
pub added_nothing : (old new : State) → Survives old new (λ _. ⊥) → CrashAddsNothing old new
added_nothing old new survives = record {
  disk = λ clean. omega (arith, survives.clean);
  crash = λ clean trees may. elim (survives.crash clean trees may) [ inl was ↦ was | inr none ↦ absurd none ];
}

pub may_add_nothing : (old new : State) (s : roster.State) → CrashAddsNothing old new → CrashMayAdd old new s
may_add_nothing old new s nothing = record { disk = nothing.disk; crash = λ clean trees may. inl (nothing.crash clean trees may) }

-- so of a file of which a crash leaves version 1
pub first_stays : (old new : State) (s : roster.State) → CrashAddsNothing old new → CrashLeavesFirst old s → CrashLeavesFirst new s
first_stays old new s nothing leaves = record { crash = λ clean trees may. leaves.crash (nothing.disk clean) trees (nothing.crash clean trees may) }

pub either_left : (old new : State) (s : roster.State) → CrashMayAdd old new s → CrashLeavesFirst old s → CrashLeavesEither new s
either_left old new s adds leaves = record {
  crash = λ clean trees may. elim (adds.crash clean trees may) [ inl was ↦ inl (leaves.crash (adds.disk clean) trees was) | inr made ↦ inr made ];
}
