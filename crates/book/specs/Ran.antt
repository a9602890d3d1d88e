-- What a run of commands does to a book: each fact as the clause of that name of `Book::run`.
use Rattle.std.specs.Prelude.{◌≡◌, ◌≤◌, ◌<◌, ◌⊎◌, ◌||◌, false, IsSome, IsTrue}
use Rattle.std.specs.Prelude.{List, [], None, Some, length, map, take}
use Rattle.sqlite_trees.specs.declared.store.Store.{Ghosts}
use Rattle.sqlite.specs.Held.{state}
use Rattle.roster.specs.Folds.{Asked, Fold, Replies, Session, Stopped}
use Rattle.roster.specs.Honest.{Honest}
use Rattle.roster.specs.State.{State}
use Rattle.state_rows.specs.declared.fault.StoreFault.TheVariants.{Memory, Store}
use Rattle.writing.specs.Beside.{KeepOthers}
use Rattle.state_rows.specs.Outcomes.{CrashAddsOnly, CrashLeaves, CrashLeavesSome, StaysOpen}
use Rattle.book.specs.Headline.{KeepsHeld, SparesOthers, Untouched}
use Rattle.book.specs.Kept.{Ends, HasTablesOf, IsDurablyAt, IsClean, Kept}
use Rattle.book.specs.Kept.{StillHasTables, is_some_store_fault, result_of}
use Rattle.book.specs.Sessions.{IsAfter}
use Rattle.book.specs.declared.answer.Run.{Run}

-- the book was asked these commands in turn, up to the first fault, and gave these answers
pub record HasRun {S : Type 0} (g : Ghosts S) (old new : Kept S) (commands : List Asked)
    (run : Run) : Type 0 where
  -- how many answers there are: all, or those before the fault; no commands meet no fault
  pub count : length run.answers.items ≤ length commands
  pub whole : run.fault ≡ None → length run.answers.items ≡ length commands
  pub stopped : IsSome run.fault →
      (run.answers.items ≡ []) ⊎ (length run.answers.items < length commands)
  pub nothing : commands ≡ [] → old.failed ≡ false → run.fault ≡ None
  -- the answers are those of the state machine
  pub replies : (s : State) → IsDurablyAt g old s → IsClean g new →
      map result_of run.answers.items ≡ take (length run.answers.items) (Replies s commands)
  -- what a crash leaves
  pub outcome : (s : State) → IsDurablyAt g old s →
      Ends (state g new.held) s commands (length run.answers.items) run.fault
  pub sessions : (s : State) (before : List Session) → IsDurablyAt g old (Stopped s before) →
      CrashLeaves (state g new.held)
      (IsAfter s before commands (length run.answers.items) run.fault)
  pub held : (s : State) → IsDurablyAt g old s → KeepsHeld (state g new.held) s
  pub honest : (s : State) → IsDurablyAt g old s → Honest s → CrashLeaves (state g new.held) Honest
  pub some_left : CrashLeavesSome (state g new.held)
  -- what is shown
  pub shown : (s : State) → IsDurablyAt g old s → HasTablesOf g old s → run.fault ≡ None →
      HasTablesOf g new (Fold s commands)
  pub still_shown : (s : State) → IsDurablyAt g old s → HasTablesOf g old s → IsSome run.fault →
      StillHasTables g new (Fold s (take (length run.answers.items) commands))
  -- what becomes of the schema and of the tables that aren't the book's
  pub others_spared : run.fault ≡ None → (new ≡ old)
      ⊎ (Untouched (state g old.held) (state g new.held)
      ⊎ SparesOthers (state g old.held) (state g new.held))
  pub others_left : CrashAddsOnly (state g old.held) (state g new.held)
      (KeepOthers (state g old.held).now)
  -- after a fault
  pub failed : new.failed ≡ (old.failed || is_some_store_fault run.fault)
  pub shut : IsTrue old.failed →
      (run.fault ≡ Some Store) × (run.answers.items ≡ []) × (new ≡ old)
  -- the disk and the connection, and the limit of a statement's steps, if one is set
  pub disk : IsClean g new → IsClean g old
  pub limit : (state g new.held).step_limit ≡ (state g old.held).step_limit
  pub still_open : run.fault ≡ Some Memory → StaysOpen (state g old.held) (state g new.held)
