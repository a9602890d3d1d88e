-- What calls leave of an honest book is honest.
use Rattle.std.proofs.Common.{◌≡◌, inl, inr, refl, subst, sym, Bool, true, false, IsTrue, List, [], ◌∷◌, ◌++◌, cond, drop, length}
use Rattle.sqlite.specs.Held.{state}
use Rattle.sqlite_trees.specs.declared.store.Store.{Ghosts}
use Rattle.roster.proofs.KeepsHonest.{keeps_honest}
use Rattle.roster.proofs.MadeByCommands.{stays_honest}
use Rattle.roster.proofs.Sound.{keeps_sound}
use Rattle.roster.specs.Folds.{Asked, Fold}
use Rattle.roster.specs.Honest.{Honest}
use Rattle.roster.specs.Sound.{Sound}
use Rattle.roster.specs.State.{State}
use Rattle.state_rows.specs.Outcomes.{CrashLeaves}
use Rattle.book.specs.Calls.{AreCalls, Call, IsAfterCalls}
use Rattle.book.specs.Kept.{IsDurablyAt, IsEitherKept, Kept}
use Rattle.book.specs.Lives.{acknowledged, acknowledged_by, doubted_by, in_doubt, is_stopped}
use Rattle.book.proofs.CommandLists.{All, all_append, all_drop, all_of, all_take, each_of}
use Rattle.book.proofs.LifeLemmas.{clean_before, reaches}
use Rattle.book.proofs.Runs.{either_honest, one_honest}

-- a crash of the new book leaves an honest state, where the old book's was honest
abbrev pub LeavesHonest : {S : Type 0} → Ghosts S → Kept S → Kept S → Type 0
LeavesHonest g old new = (s : State) → IsDurablyAt g old s → Honest s → CrashLeaves (state g new.held) Honest

module _ {S : Type 0} (g : Ghosts S) where
  all_acknowledged : (calls : List Call) (old new : Kept S) → AreCalls g old calls new → All (acknowledged calls)
  all_acknowledged [] old new are = tt
  all_acknowledged (call ∷ calls) old new are =
      all_append (acknowledged_by call) (acknowledged calls) (all_take call.asked (length call.answers) (all_of call.asked are.1.made)) (all_acknowledged calls are.0 new are.2)

  all_in_doubt : (calls : List Call) (old new : Kept S) → AreCalls g old calls new → All (in_doubt calls)
  all_in_doubt [] old new are = tt
  all_in_doubt (call ∷ calls) old new are = elim (is_stopped call) as (λ b. All (cond b (doubted_by call) (in_doubt calls))) [
    | true ↦ all_take (drop (length call.answers) call.asked) 1 (all_drop call.asked (length call.answers) (all_of call.asked are.1.made))
    | false ↦ all_in_doubt calls are.0 new are.2
  ]

  module _ (calls : List Call) (old new : Kept S) (are : AreCalls g old calls new) (s : State) (at : IsDurablyAt g old s) (honest : Honest s) where
    honest_after : Sound s → (asked : List Asked) → All asked → Honest (Fold s asked)
    honest_after sound asked made = stays_honest keeps_sound keeps_honest s asked (each_of asked made) sound honest

    -- of a book that hadn't failed
    of_fresh : old.failed ≡ false → CrashLeaves (state g new.held) Honest
    of_fresh fresh = record {
      crash = λ clean trees may.
          let sound = (at.kept (clean_before g calls old new are clean)).sound in
          let first = all_acknowledged calls old new are in
          let one = honest_after sound (acknowledged calls) first in
          let other = honest_after sound (acknowledged calls ++ in_doubt calls) (all_append (acknowledged calls) (in_doubt calls) first (all_in_doubt calls old new are)) in
          (either_honest (state g new.held) _ _ (reaches g calls old new s fresh at are) one other).crash clean trees may;
    }

  pub calls_honest : (old new : Kept S) → IsAfterCalls g old new → (IsTrue old.failed → new ≡ old) → LeavesHonest g old new
  calls_honest old new (calls, are) shut s at honest = by old.failed refl
    where
      by : (b : Bool) → old.failed ≡ b → CrashLeaves (state g new.held) Honest
      by true failed = subst (λ (book : Kept S). CrashLeaves (state g book.held) Honest) (sym (shut failed)) (one_honest (state g old.held) s at.leaves honest)
      by false fresh = of_fresh calls old new are s at honest fresh
