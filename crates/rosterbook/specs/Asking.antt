-- What `do` and `import` do with what a reader has, and with a book.
use Rattle.std.specs.Prelude.{◌≡◌, ◌⊎◌, ◌≤◌, ◌<◌, ⊤, ℕ, ◌+◌, List, [], ◌∷◌, ◌++◌, length, take}
use Rattle.std.specs.Prelude.{codes, Result, Ok, Err, OnOk, IsTrue, string_bytes}
use Rattle.std.specs.Fmt.{decimal}
use Rattle.std.specs.List.{fold}
use Rattle.std.specs.Io.KnownBytes.{Appends}
use Rattle.sqlite_trees.specs.declared.store.Store.{Ghosts}
use Rattle.duty.specs.Plans.{Plan}
use Rattle.command.specs.Texts.{refusal_text}
use Rattle.codec.specs.Schedule.{IsAtFault, IsSchedule}
use Rattle.roster.specs.Folds.{Asked, Fold, Replies, ReplyOrRefusal, import, next}
use Rattle.roster.specs.State.{State}
use Rattle.codec.specs.Requests.{read_request}
use Rattle.codec.specs.RefusalText as json
use Rattle.state_rows.specs.declared.fault.StoreFault.{StoreFault}
use Rattle.state_rows.specs.declared.fault.StoreFault.TheVariants.{Store}
use Rattle.book.specs.Kept.{IsDurablyAt, IsClean, IsInDoubt, Kept}
use Rattle.asking.specs.Answers.{answer_json}
use Rattle.asking.specs.Lines.{asked_by_request}
use Rattle.asking.specs.Requests.{ReadRequest, asked_as}
use Rattle.asking.specs.declared.answers.AnswerKind.{AnswerKind}
use Rattle.asking.specs.declared.answers.AnswerKind.TheVariants as kind
use Rattle.asking.specs.declared.answers.AskFault.{AskFault}
use Rattle.asking.specs.declared.answers.AskFault.TheVariants as ask
use Rattle.asking.specs.declared.answers.JsonAnswer.{JsonAnswer}
use Rattle.http_exchange.specs.Exchange.{ChannelBytes}
use Rattle.rosterbook.specs.Streams.{IsOfChannel, Prints, ReadsInput, line_end, refused_line}
use Rattle.rosterbook.specs.declared.import_command.PartLines.{PartLines}
use Rattle.rosterbook.specs.declared.status.Status.{Status}
use Rattle.rosterbook.specs.declared.status.Status.TheVariants.{Done, Refused}
use Rattle.rosterbook.specs.declared.stop.Stop.{Stop}
use Rattle.rosterbook.specs.declared.stop.Stop.TheVariants.{Book, Memory}

-- the status with which the program ends after this answer
abbrev pub status_of_answer : ReplyOrRefusal → Status
status_of_answer (Ok reply) = Done
status_of_answer (Err refusal) = Refused

-- the status with which the program ends after an answer of this kind
abbrev pub exit_status_of_kind : AnswerKind → Status
exit_status_of_kind kind.Accepted = Done
exit_status_of_kind kind.Refused = Refused
exit_status_of_kind kind.Unfit = Refused

-- ---- Where the program stops

-- how the program stops if a book has no answer because of this fault
abbrev pub stop_of : AskFault → Stop
stop_of (ask.Book fault) = Book fault
stop_of ask.Memory = Memory

-- the program stopped because the book met a fault: of its store (90), or out of memory (91)
abbrev pub IsBookFault : Stop → Type 0
IsBookFault stop = (fault : StoreFault) × (stop ≡ Book fault)

module _ {S : Type 0} (g : Ghosts S) where
  -- the state that is left where this many commands were answered; after a fault of the store (90)
  -- it is in doubt whether the command after them was done
  abbrev pub IsLeftAfterAnswers : Kept S → State → List Asked → ℕ → Stop → Type 0
  IsLeftAfterAnswers new s asked n (Book Store) =
      IsInDoubt g new (Fold s (take n asked)) (Fold s (take (n + 1) asked))
  IsLeftAfterAnswers new s asked n stop = IsDurablyAt g new (Fold s (take n asked))

  -- A book was asked these commands in turn, and gave these answers before the program stopped.
  pub record IsStoppedIn (old new : Kept S) (asked : List Asked) (answers : List ReplyOrRefusal)
      (stop : Stop) : Type 0 where
    pub told : IsBookFault stop ⊎ IsOfChannel stop
    pub few : length answers ≤ length asked
    pub unanswered : IsBookFault stop → length answers < length asked
    pub failed : stop ≡ Book Store → IsTrue new.failed
    pub disk : IsClean g new → IsClean g old
    pub answered : (s : State) → IsDurablyAt g old s → IsClean g new
        → answers ≡ take (length answers) (Replies s asked)
    pub left : (s : State) → IsDurablyAt g old s
        → IsLeftAfterAnswers new s asked (length answers) stop

-- the program stopped before a book was asked anything or a line was written
pub record IsUnasked {S : Type 0} (old new : Kept S) (out out' : ChannelBytes) (stop : Stop)
    : Type 0 where
  pub unchanged : new ≡ old
  pub silent : out' ≡ out
  pub told : IsOfChannel stop

-- ---- `do`

-- what `do` reports of a request: why it isn't read, or its answer
abbrev pub told_json : ReadRequest → ReplyOrRefusal → Status × List ℕ
told_json (Ok asked) answer = (status_of_answer answer, answer_json answer)
told_json (Err fault) answer = (Refused, json.fault_reply fault)

-- a request was read from the input, and its answer, or why it isn't read, was printed
pub record IsRequestReadAndTold (held out out' : ChannelBytes) (status : Status) (input : List ℕ)
    (answer : ReplyOrRefusal) : Type 0 where
  pub read : ReadsInput held input
  pub printed : Prints (told_json (read_request input) answer) status out out'

-- the state gives this answer to a request; of a request that isn't read nothing is said
abbrev pub Answers : State → ReadRequest → ReplyOrRefusal → Type 0
Answers s (Ok asked) answer = answer ∷ [] ≡ Replies s (asked_as asked ∷ [])
Answers s (Err fault) answer = ⊤

-- the state after a request; a request that isn't read changes nothing
abbrev pub left_by_request : State → ReadRequest → State
left_by_request s (Ok asked) = next s (asked_as asked)
left_by_request s (Err fault) = s

-- the state after a request that is only checked is the state before it
abbrev pub left_by_check : State → ReadRequest → State
left_by_check s request = s

-- A request was read and its answer printed. Where the state of the book is known, the answer is
-- that of the state, and `left_by` gives the state that is left.
pub record IsRequestAnswered {S : Type 0} (g : Ghosts S) (left_by : State → ReadRequest → State)
    (old new : Kept S) (held out out' : ChannelBytes) (status : Status) : Type 0 where
  pub input : List ℕ
  pub answer : ReplyOrRefusal
  pub told : IsRequestReadAndTold held out out' status input answer
  pub answered : (s : State) → IsDurablyAt g old s → IsClean g new
      → Answers s (read_request input) answer
  pub left : (s : State) → IsDurablyAt g old s → IsDurablyAt g new (left_by s (read_request input))

-- The program stopped before it asked a book anything, or after it asked the command of a request.
-- If the command has no answer, nothing was printed.
abbrev pub IsAskStopped : {S : Type 0} → Ghosts S → Kept S → Kept S → ChannelBytes → ChannelBytes
    → ChannelBytes → Stop → Type 0
IsAskStopped g old new held out out' stop =
    IsUnasked old new out out' stop
    ⊎ ((input : List ℕ) × (answers : List ReplyOrRefusal) × ReadsInput held input
    × IsStoppedIn g old new (asked_by_request (read_request input)) answers stop
    × (length answers < length (asked_by_request (read_request input)) → out' ≡ out))

-- ---- A body that was read

-- `Asks result`: a book was asked what this body asks, and gave this result.
module _ (Asks : Result JsonAnswer AskFault → Type 0) (out out' : ChannelBytes) where
  -- a body has an answer, and the line of the answer was written
  pub record IsBodyTold (status : Status) : Type 0 where
    pub answer : JsonAnswer
    pub asked : Asks (Ok answer)
    pub ends : status ≡ exit_status_of_kind answer.kind
    pub printed : Appends out out' (string_bytes answer.text ++ line_end)

  -- a body has no answer, and nothing was written; or the line of its answer could not be written
  abbrev pub IsBodyUntold : Stop → Type 0
  IsBodyUntold stop =
      ((fault : AskFault) × Asks (Err fault) × (stop ≡ stop_of fault) × (out' ≡ out))
      ⊎ ((answer : JsonAnswer) × Asks (Ok answer) × IsOfChannel stop)

-- ---- `import`

-- the line that `import` prints for the answer to a part
abbrev pub answered_part : ℕ → ReplyOrRefusal → List ℕ
answered_part part (Ok reply) = decimal part ++ codes " accepted" ++ line_end
answered_part part (Err refusal) =
    decimal part ++ codes " refused " ++ refusal_text refusal ++ line_end

-- the lines that `import` prints for answers in turn, the first as that to this part
abbrev pub answered_parts : ℕ → List ReplyOrRefusal → List ℕ
answered_parts part [] = []
answered_parts part (answer ∷ answers) =
    answered_part part answer ++ answered_parts (part + 1) answers

-- the status after one more answer: refused if the answer is a refusal, else as it was
abbrev pub status_with : Status → ReplyOrRefusal → Status
status_with status (Ok reply) = status
status_with status (Err refusal) = Refused

-- The line of a part was written by the same writer, and the answer counts in the status with which
-- the program ends; or the line could not be written.
abbrev pub IsPartTold : {O F : Type 0} → (O → ChannelBytes) → PartLines O → PartLines O → ℕ
    → ReplyOrRefusal → Result ⊤ F → Type 0
IsPartTold contents old new part answer result = OnOk result
    ((new.out.ghost_name ≡ old.out.ghost_name)
    × Appends (contents old.out.now) (contents new.out.now) (answered_part part answer)
    × (new.status ≡ status_with old.status answer))

-- the status with which the program ends after these answers of an import
abbrev pub status_of_all : List ReplyOrRefusal → Status
status_of_all answers = fold status_with Done answers

-- the answers to these pairings were printed, one line for each
pub record AreTold (plans : List Plan) (answers : List ReplyOrRefusal) (status : Status)
    (out out' : ChannelBytes) : Type 0 where
  pub each : length answers ≡ length plans
  pub printed : Appends out out' (answered_parts 1 answers)
  pub ends : status ≡ status_of_all answers

-- These pairings were added and their answers printed. Where the state of the book is known, the
-- answers are those of the state, and what is left is the state after the pairings.
pub record AreAddedAndTold {S : Type 0} (g : Ghosts S) (old new : Kept S) (number : ℕ)
    (plans : List Plan) (status : Status) (out out' : ChannelBytes) : Type 0 where
  pub answers : List ReplyOrRefusal
  pub told : AreTold plans answers status out out'
  pub answered : (s : State) → IsDurablyAt g old s → IsClean g new
      → answers ≡ Replies s (import number plans)
  pub left : (s : State) → IsDurablyAt g old s → IsDurablyAt g new (Fold s (import number plans))

-- the text is no schedule, and the number of the record at fault was printed on standard error
pub record IsNoSchedule (text : List ℕ) (status : Status) (out out' err err' : ChannelBytes)
    : Type 0 where
  pub line : ℕ
  pub at_fault : IsAtFault text line
  pub ends : status ≡ Refused
  pub prints : out' ≡ out
  pub complains : Appends err err' (refused_line (codes "30 BadCsv " ++ decimal line))

-- a schedule was read, and the answers to its pairings were printed; or the text is no schedule,
-- and why was printed
pub record IsImportTold (held out out' err err' : ChannelBytes) (status : Status) : Type 0 where
  pub text : List ℕ
  pub read : ReadsInput held text
  pub told : IsNoSchedule text status out out' err err'
      ⊎ ((plans : List Plan) × (answers : List ReplyOrRefusal) × IsSchedule text plans
      × AreTold plans answers status out out' × (err' ≡ err))

-- a schedule was read, its pairings were added to a book, and their answers printed; or the text is
-- no schedule, and the book is as it was
pub record IsImported {S : Type 0} (g : Ghosts S) (old new : Kept S) (number : ℕ)
    (held out out' err err' : ChannelBytes) (status : Status) : Type 0 where
  pub text : List ℕ
  pub read : ReadsInput held text
  pub done : (IsNoSchedule text status out out' err err' × (new ≡ old))
      ⊎ ((plans : List Plan) × IsSchedule text plans
      × AreAddedAndTold g old new number plans status out out' × (err' ≡ err))

-- The program stopped while it added these pairings. At a fault of the book (90, 91) it had printed
-- the lines of the answers that it got, and no other.
pub record AreStopped {S : Type 0} (g : Ghosts S) (old new : Kept S) (number : ℕ)
    (plans : List Plan) (out out' : ChannelBytes) (stop : Stop) : Type 0 where
  pub answers : List ReplyOrRefusal
  pub asked : IsStoppedIn g old new (import number plans) answers stop
  pub printed : IsBookFault stop → Appends out out' (answered_parts 1 answers)

-- the program stopped before it added any pairing, or while it added the pairings of the schedule
-- that it read
abbrev pub IsImportStopped : {S : Type 0} → Ghosts S → Kept S → Kept S → ℕ → ChannelBytes
    → ChannelBytes → ChannelBytes → ChannelBytes → ChannelBytes → Stop → Type 0
IsImportStopped g old new number held out out' err err' stop =
    IsUnasked old new out out' stop
    ⊎ ((text : List ℕ) × (plans : List Plan) × ReadsInput held text × IsSchedule text plans
    × AreStopped g old new number plans out out' stop
    × (err' ≡ err))
