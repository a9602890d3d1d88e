-- What one command does to a book: each fact as the clause of that name of `Book::ask`.
use Rattle.std.specs.Prelude.{◌≡◌, ◌≤◌, ◌||◌, ◌⊎◌, ◌↔◌, true, false, IsTrue}
use Rattle.std.specs.Prelude.{List, [], ◌∷◌, Result, Err, IfErr, IfOk, OnErr, OnOk}
use Rattle.sqlite_trees.specs.declared.store.Store.{Ghosts}
use Rattle.sqlite.specs.Held.{state}
use Rattle.command.specs.declared.exceedance.Reply.{Reply}
use Rattle.command.specs.declared.refusal.Refusal.{Refusal}
use Rattle.roster.specs.Folds.{Asked, Session, Stopped, answer_of, next}
use Rattle.roster.specs.Honest.{Honest}
use Rattle.roster.specs.Laws.{PassesChecks, is_assignment}
use Rattle.roster.specs.State.{State}
use Rattle.roster.specs.Steps.{step_of}
use Rattle.roster.specs.declared.change.Verdict.TheVariants.{Refuse}
use Rattle.state_rows.specs.declared.fault.StoreFault.{StoreFault}
use Rattle.state_rows.specs.declared.fault.StoreFault.TheVariants.{Store, Memory}
use Rattle.lookup.specs.Reads.{ChangesNothing}
use Rattle.writing.specs.Beside.{KeepOthers}
use Rattle.state_rows.specs.Outcomes.{CrashAddsOnly, CrashLeaves, CrashLeavesSome, StaysOpen}
use Rattle.book.specs.Headline.{BreaksNoLimit, IsAcceptance, IsHeld, IsRefusal, KeepsHeld}
use Rattle.book.specs.Headline.{MakesNoChange, SparesOthers, StaysHeld, Untouched}
use Rattle.book.specs.Kept.{IsCausedElsewhere, HasTablesOf, IsDurablyAt, IsClean, IsInDoubt, Kept}
use Rattle.book.specs.Kept.{StillHasTables, is_store_fault, result_of}
use Rattle.book.specs.Sessions.{IsAfter, count_of, fault_of}
use Rattle.book.specs.declared.answer.Answer.{Answer}
use Rattle.book.specs.declared.answer.Answer.TheVariants.{Accepted, Refused}

-- the book was asked a command under its key, and gave this result
pub record IsAnswered {S : Type 0} (g : Ghosts S) (old new : Kept S) (asked : Asked)
    (result : Result Answer StoreFault) : Type 0 where
  -- whether the book has failed: a book that has failed answers 90 and does nothing
  pub failed : new.failed ≡ (old.failed || is_store_fault result)
  pub shut : IsTrue old.failed → (result ≡ Err Store) × (new ≡ old)
  -- a disk that has returned what was written had done so before; a crash leaves something
  pub disk : IsClean g new → IsClean g old
  pub some_left : CrashLeavesSome (state g new.held)
  -- the answer, by the state that the tables mean, and the state after it
  pub reply : (s : State) → IsDurablyAt g old s → IsClean g new →
      IfOk result (λ a. result_of a ≡ answer_of (step_of s asked.0 asked.1))
  pub answered : (s : State) → IsDurablyAt g old s → OnOk result (IsDurablyAt g new (next s asked))
  pub shown : (s : State) → IsDurablyAt g old s → HasTablesOf g old s →
      OnOk result (HasTablesOf g new (next s asked))
  -- after out of memory (91) the state is the one before; after a fault of the store (90) it is the
  -- one before or the next
  pub memory : (s : State) → IsDurablyAt g old s → result ≡ Err Memory → IsDurablyAt g new s
  pub store : (s : State) → IsDurablyAt g old s → result ≡ Err Store →
      IsInDoubt g new s (next s asked)
  -- If the command makes no change, the tables are only read: then a fault of the store (90) has a
  -- cause. If it makes one, no cause of a fault of the commit is reported.
  pub caused : (s : State) → IsDurablyAt g old s → MakesNoChange s asked → old.failed ≡ false →
      IfErr result (IsCausedElsewhere (state g old.held) (state g new.held))
  -- a crash in any session, and what is still shown after a fault
  pub sessions : (s : State) (before : List Session) → IsDurablyAt g old (Stopped s before) →
      CrashLeaves (state g new.held)
      (IsAfter s before (asked ∷ []) (count_of result) (fault_of result))
  pub still_shown : (s : State) → IsDurablyAt g old s → HasTablesOf g old s →
      OnErr result (StillHasTables g new s)
  -- what is asked of a book first: it stays honest, accepts what breaks no limit, and does each
  -- command once
  pub honest : (s : State) → IsDurablyAt g old s → Honest s → CrashLeaves (state g new.held) Honest
  pub within_limits : (s : State) → IsDurablyAt g old s → IsClean g new →
      is_assignment asked.1 ≡ true → PassesChecks s asked.0 asked.1 →
      IfOk result (λ a. IsAcceptance a ↔ BreaksNoLimit s asked.1)
  pub repeats : (s : State) (reply : Reply) → IsDurablyAt g old s → IsClean g new →
      IsHeld s asked reply →
      ChangesNothing (state g old.held) (state g new.held) × IfOk result (λ a. a ≡ Accepted reply)
  pub turned_down : (s : State) (refusal : Refusal) → IsDurablyAt g old s → IsClean g new →
      step_of s asked.0 asked.1 ≡ Refuse refusal →
      ChangesNothing (state g old.held) (state g new.held) × IfOk result (λ a. a ≡ Refused refusal)
  pub holds : (s : State) (reply : Reply) → IsDurablyAt g old s →
      IfOk result (λ a. a ≡ Accepted reply → StaysHeld (state g new.held) asked reply)
  pub held : (s : State) → IsDurablyAt g old s → KeepsHeld (state g new.held) s
  pub refused : IfOk result (λ a. IsRefusal a → Untouched (state g old.held) (state g new.held))
  -- what becomes of the schema and of the tables that aren't the book's
  pub others_spared : OnOk result (Untouched (state g old.held) (state g new.held)
      ⊎ SparesOthers (state g old.held) (state g new.held))
  pub others_left : CrashAddsOnly (state g old.held) (state g new.held)
      (KeepOthers (state g old.held).now)
  -- the store's faults, the connection, and the limit of a statement's steps, if one is set
  pub faults : (state g old.held).faults ≤ (state g new.held).faults
  pub limit : (state g new.held).step_limit ≡ (state g old.held).step_limit
  pub still_open : result ≡ Err Memory → StaysOpen (state g old.held) (state g new.held)
