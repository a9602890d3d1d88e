-- The calls of a book, each in one form: what the call asks, what it answered, and the fault that
-- ended it.
use Rattle.std.specs.Prelude.{◌≡◌, ◌||◌, IsTrue, List, [], ◌∷◌, length, map, take}
use Rattle.std.specs.Prelude.{Option, None, Result, Ok, Err}
use Rattle.sqlite_trees.specs.declared.store.Store.{Ghosts}
use Rattle.sqlite.specs.Held.{state}
use Rattle.command.specs.Instructions.{IsMade}
use Rattle.roster.specs.Folds.{Asked, Replies, ReplyOrRefusal}
use Rattle.roster.specs.Laws.{AreMade}
use Rattle.roster.specs.State.{State}
use Rattle.state_rows.specs.declared.fault.StoreFault.{StoreFault}
use Rattle.state_rows.specs.declared.fault.StoreFault.TheVariants.{Store}
use Rattle.lookup.specs.Reads.{ChangesNothing}
use Rattle.lookup.specs.declared.count.RequestCount.{RequestCount}
use Rattle.book.specs.Answered.{IsAnswered}
use Rattle.book.specs.Kept.{Ends, IsClean, IsDurablyAt, Kept}
use Rattle.book.specs.Kept.{is_some_store_fault, is_store_fault, result_of}
use Rattle.book.specs.Ran.{HasRun}
use Rattle.book.specs.Sessions.{fault_of}
use Rattle.book.specs.declared.answer.Answer.{Answer}
use Rattle.book.specs.declared.answer.Run.{Run}

-- A call of a book: the commands that it asks in turn, the answers to the first of them, and the
-- fault that ended it, if there was one. A call that keeps nothing asks no command.
pub record Call : Type 0 where
  pub asked : List Asked
  pub answers : List ReplyOrRefusal
  pub fault : Option StoreFault

-- the answers of a call that asks one command: one, or none if the call met a fault
abbrev pub answers_of : Result Answer StoreFault → List ReplyOrRefusal
answers_of (Ok answer) = result_of answer ∷ []
answers_of (Err fault) = []

-- the call that asks one command, as `Book::ask` and `Import::next` do
abbrev pub call_for_one : Asked → Result Answer StoreFault → Call
call_for_one asked result =
    record { asked = asked ∷ []; answers = answers_of result; fault = fault_of result }

-- the call that asks commands in turn, as `Book::run` does
abbrev pub call_for_many : List Asked → Run → Call
call_for_many commands run =
    record { asked = commands; answers = map result_of run.answers.items; fault = run.fault }

-- the call that keeps nothing, as `Book::show`, `Book::count` and `Book::check` answer it
abbrev pub call_for_reading : {A : Type 0} → Result A StoreFault → Call
call_for_reading result = record { asked = []; answers = []; fault = fault_of result }

module _ {S : Type 0} (g : Ghosts S) where
  -- the call was done to the old book, which is the new book then
  pub record IsCall (old : Kept S) (call : Call) (new : Kept S) : Type 0 where
    -- the commands were made without a fault, and all are answered if the call met none
    pub made : AreMade call.asked
    pub whole : call.fault ≡ None → length call.answers ≡ length call.asked
    -- whether the book has failed: one that has does nothing
    pub failed : new.failed ≡ (old.failed || is_some_store_fault call.fault)
    pub shut : IsTrue old.failed → (call.answers ≡ []) × (new ≡ old)
    -- a disk that has returned what was written had done so before
    pub disk : IsClean g new → IsClean g old
    -- the answers are those of the state machine
    pub replies : (s : State) → IsDurablyAt g old s → IsClean g new →
        call.answers ≡ take (length call.answers) (Replies s call.asked)
    -- what a crash leaves
    pub outcome : (s : State) → IsDurablyAt g old s →
        Ends (state g new.held) s call.asked (length call.answers) call.fault

  -- the calls were done in turn to the old book, which is the new book then
  abbrev pub AreCalls : Kept S → List Call → Kept S → Type 0
  AreCalls old [] new = new ≡ old
  AreCalls old (call ∷ calls) new = (next : Kept S) × IsCall old call next × AreCalls next calls new

  -- nothing but calls, some or none, was done to the old book, which is the new book then
  abbrev pub IsAfterCalls : Kept S → Kept S → Type 0
  IsAfterCalls old new = (calls : List Call) × AreCalls old calls new

  -- a book was only read: `failed`, `shut`, `unchanged` and `kept` say what these clauses of
  -- `Book::show`, `Book::count` and `Book::check` say
  pub record HasRead {A : Type 0} (old new : Kept S) (result : Result A StoreFault) : Type 0 where
    pub failed : new.failed ≡ (old.failed || is_store_fault result)
    pub shut : IsTrue old.failed → (result ≡ Err Store) × (new ≡ old)
    pub unchanged : ChangesNothing (state g old.held) (state g new.held)
    pub kept : (s : State) → IsDurablyAt g old s → IsDurablyAt g new s

  -- what the contracts of `Book::ask` and `Import::next`, of `Book::run`, of `Book::show`, of
  -- `Book::count` and of `Book::check` say of a book makes each of these a call
  pub record AnswersAreCalls : Type 0 where
    pub one : (old new : Kept S) (asked : Asked) (result : Result Answer StoreFault) →
        IsMade asked.1 → IsAnswered g old new asked result →
        IsCall old (call_for_one asked result) new
    pub many : (old new : Kept S) (commands : List Asked) (run : Run) →
        AreMade commands → HasRun g old new commands run →
        IsCall old (call_for_many commands run) new
    pub report : (old new : Kept S) (result : Result State StoreFault) →
        HasRead old new result → IsCall old (call_for_reading result) new
    pub count : (old new : Kept S) (result : Result RequestCount StoreFault) →
        HasRead old new result → IsCall old (call_for_reading result) new
    pub check : (old new : Kept S) (result : Result Answer StoreFault) →
        HasRead old new result → IsCall old (call_for_reading result) new
