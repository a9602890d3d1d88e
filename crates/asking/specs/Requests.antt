-- What becomes of a request: its command is asked of a book, and what the book answers is reported.
use Rattle.std.specs.Prelude.{◌≡◌, ◌⊎◌, ℕ, List, [], ◌∷◌, Result, Ok, Err, IfOk, OnOk}
use Rattle.sqlite_trees.specs.declared.store.Store.{Ghosts}
use Rattle.command.specs.declared.instruction.Instruction.{Instruction}
use Rattle.stored_json.specs.declared.fault.CodecFault.{CodecFault}
use Rattle.codec.specs.Requests.{read_request}
use Rattle.roster.specs.Folds.{Asked, answer_of}
use Rattle.roster.specs.State.{State}
use Rattle.roster.specs.Steps.{step_of}
use Rattle.state_rows.specs.declared.fault.StoreFault.{StoreFault}
use Rattle.book.specs.Answered.{IsAnswered}
use Rattle.book.specs.Calls.{HasRead}
use Rattle.book.specs.Kept.{HasTablesOf, IsClean, IsDurablyAt, Kept, result_of}
use Rattle.book.specs.declared.answer.Answer.{Answer}
use Rattle.asking.specs.Answers.{Reports, ReportsUnread}
use Rattle.asking.specs.declared.answers.AskFault.{AskFault}
use Rattle.asking.specs.declared.answers.AskFault.TheVariants.{Memory}
use Rattle.asking.specs.declared.answers.JsonAnswer.{JsonAnswer}

-- a request as `codec` reads it: a number and a command, or why it isn't read
abbrev pub ReadRequest : Type 0
ReadRequest = Result (ℕ × Instruction) CodecFault

-- the command of a request, under part 0 of its number
abbrev pub asked_as : ℕ × Instruction → Asked
asked_as (number, instruction) = (record { number = number; part = 0 }, instruction)

-- `Takes old new asked result`: a book was asked this command, and gave this result.
module _ {S : Type 0} (Takes : Kept S → Kept S → Asked → Result Answer StoreFault → Type 0) where
  -- a book was asked these commands in turn, and gave these answers, one to each
  abbrev pub AreAnswered : Kept S → List Asked → List Answer → Kept S → Type 0
  AreAnswered old [] [] new = new ≡ old
  AreAnswered old (asked ∷ more) (answer ∷ answers) new =
      (next : Kept S) × Takes old next asked (Ok answer) × AreAnswered next more answers new
  AreAnswered old [] (answer ∷ answers) new = ⊥
  AreAnswered old (asked ∷ more) [] new = ⊥

module _ {S : Type 0} (g : Ghosts S) (old new : Kept S) where
  -- a book was asked a command, and what it answered is reported
  pub record IsCommandAsked (asked : Asked) (result : Result JsonAnswer AskFault) : Type 0 where
    pub answer : Result Answer StoreFault
    pub answered : IsAnswered g old new asked answer
    pub reported : Reports answer result

  -- A book was asked how it would answer a command now, with the clauses that `Book::check` has.
  -- The answer is that of the state that the tables mean, and nothing is kept.
  pub record HasChecked (asked : Asked) (answer : Result Answer StoreFault) : Type 0 where
    pub call : HasRead g old new answer
    pub reply : (s : State) → IsDurablyAt g old s → IsClean g new →
        IfOk answer (λ a. result_of a ≡ answer_of (step_of s asked.0 asked.1))
    pub tables : (s : State) → IsDurablyAt g old s → HasTablesOf g old s →
        OnOk answer (HasTablesOf g new s)

  -- a book was asked how it would answer a command now, and what it answered is reported
  pub record IsCommandChecked (asked : Asked) (result : Result JsonAnswer AskFault) : Type 0 where
    pub answer : Result Answer StoreFault
    pub checked : HasChecked asked answer
    pub reported : Reports answer result

  -- a book was asked the command of a request; or the request isn't read, the book was asked
  -- nothing, and why is reported
  abbrev pub IsDoneAsRead : ReadRequest → Result JsonAnswer AskFault → Type 0
  IsDoneAsRead (Ok asked) result = IsCommandAsked (asked_as asked) result
  IsDoneAsRead (Err fault) result = (new ≡ old) × ReportsUnread fault result

  -- a book was asked the request of a body; or there was no memory to read the body, and the book
  -- was asked nothing
  abbrev pub IsRequestAsked : List ℕ → Result JsonAnswer AskFault → Type 0
  IsRequestAsked body result =
      IsDoneAsRead (read_request body) result ⊎ ((new ≡ old) × (result ≡ Err Memory))

  -- a book was asked how it would answer the command of a request; or the request isn't read, the
  -- book was asked nothing, and why is reported
  abbrev pub IsCheckedAsRead : ReadRequest → Result JsonAnswer AskFault → Type 0
  IsCheckedAsRead (Ok asked) result = IsCommandChecked (asked_as asked) result
  IsCheckedAsRead (Err fault) result = (new ≡ old) × ReportsUnread fault result

  -- a book was asked how it would answer the request of a body; or there was no memory to read the
  -- body, and the book was asked nothing
  abbrev pub IsRequestChecked : List ℕ → Result JsonAnswer AskFault → Type 0
  IsRequestChecked body result =
      IsCheckedAsRead (read_request body) result ⊎ ((new ≡ old) × (result ≡ Err Memory))
