-- What a book makes of one request, as its functions say it to one another and to an exchange. No
-- public clause names these definitions.
use Rattle.std.specs.Prelude.{◌≡◌, ◌⊎◌, ◌||◌, ⊤, ℕ, Bool, true, false, ◌+◌, List, [], ◌++◌, codes}
use Rattle.std.specs.Prelude.{nat_lt, if◌then◌else◌, string_bytes, take, Result, Ok, Err, IfOk}
use Rattle.std.specs.Prelude.{IsTrue}
use Rattle.sqlite_trees.specs.declared.store.Store.{Ghosts}
use Rattle.sqlite.specs.Held.{state}
use Rattle.values.specs.declared.memory_fault.MemoryFault.{MemoryFault}
use Rattle.roster.specs.Folds.{Fold, ReplyOrRefusal}
use Rattle.roster.specs.Honest.{Honest}
use Rattle.roster.specs.State.{State}
use Rattle.writing.specs.Beside.{KeepOthers}
use Rattle.state_rows.specs.Outcomes.{CrashAddsOnly, CrashLeaves}
use Rattle.book.specs.Calls.{IsAfterCalls}
use Rattle.book.specs.Kept.{HasTablesOf, IsDurablyAt, IsClean, IsInDoubt, Kept}
use Rattle.http_exchange.specs.Handler.{StatusText, HandlerRequest}
use Rattle.http_exchange.specs.declared.handler.HandlerFault.{HandlerFault}
use Rattle.http_exchange.specs.declared.handler.HandlerFault.TheVariants.{Store, Memory}
use Rattle.asking.specs.Answers.{answer_json}
use Rattle.web.specs.declared.parts.PartsText.{PartsText}
use Rattle.web.specs.Acts.{Asks, Commands, IsAnswer, IsAnsweredShut}
use Rattle.web.specs.Serving.{IsBegun}

-- the result is a fault of the store
abbrev pub answers_store_fault : Result StatusText HandlerFault → Bool
answers_store_fault (Ok answer) = false
answers_store_fault (Err Store) = true
answers_store_fault (Err Memory) = false

module _ {S : Type 0} (g : Ghosts S) (old new : Kept S) where
  -- what the commands leave: all were done; or the store failed at one, of which it is in doubt
  -- whether it was done; or there was no memory for one, or for the answer
  abbrev pub IsLeftByCommands : State → Commands → Result StatusText HandlerFault → Type 0
  IsLeftByCommands s commands (Ok answer) =
      IsDurablyAt g new (Fold s commands)
      × (HasTablesOf g old s → HasTablesOf g new (Fold s commands))
  IsLeftByCommands s commands (Err Store) =
      (n : ℕ) × IsInDoubt g new (Fold s (take n commands)) (Fold s (take (n + 1) commands))
  IsLeftByCommands s commands (Err Memory) = IsBegun g s old new commands

  -- The request got its answer in this state, and its commands are done. Or what it asks was begun,
  -- or nothing was asked, and the result is a fault.
  abbrev pub IsDone : State → HandlerRequest → Result StatusText HandlerFault → Type 0
  IsDone s asked (Ok answer) =
      (IsClean g new → IsAnswer s asked answer)
      × ((commands : Commands) × Asks asked commands × IsLeftByCommands s commands (Ok answer))
  IsDone s asked (Err Store) =
      (commands : Commands) × Asks asked commands × IsLeftByCommands s commands (Err Store)
  IsDone s asked (Err Memory) =
      (new ≡ old)
      ⊎ ((commands : Commands) × Asks asked commands × IsLeftByCommands s commands (Err Memory))

  -- the clauses that hold of a book and a result whatever is asked
  pub record HoldsWhateverIsAsked (result : Result StatusText HandlerFault) : Type 0 where
    pub failed : new.failed ≡ (old.failed || answers_store_fault result)
    pub shut : IsTrue old.failed → new ≡ old
    pub disk : IsClean g new → IsClean g old
    pub honest : (s : State) → IsDurablyAt g old s → Honest s
        → CrashLeaves (state g new.held) Honest
    pub others_left : CrashAddsOnly (state g old.held) (state g new.held)
        (KeepOthers (state g old.held).now)
    pub calls : IsAfterCalls g old new

  -- the book was handed a request, and gave this result
  pub record IsHandled (asked : HandlerRequest) (result : Result StatusText HandlerFault)
      : Type 0 where
    pub kept : HoldsWhateverIsAsked result
    pub shut : IsTrue old.failed → IsAnsweredShut asked result
    pub done : (s : State) → IsDurablyAt g old s → IsDone s asked result

-- ---- the parts of an import

-- what a part adds to the text of an import's answer: its own answer, with a comma before it unless
-- the part is the first
abbrev pub part_text : ℕ → ReplyOrRefusal → List ℕ
part_text part answer = (if nat_lt 1 part then codes "," else []) ++ answer_json answer

-- the text of a part was added to an import's answer, if there was memory for the text
abbrev pub IsPartAdded : PartsText → PartsText → ℕ → ReplyOrRefusal → Result ⊤ MemoryFault → Type 0
IsPartAdded old new part answer result =
    IfOk result (λ _. string_bytes new.text ≡ string_bytes old.text ++ part_text part answer)
