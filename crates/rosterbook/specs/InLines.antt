-- What `do --lines` does with the lines that a reader has, and with a book: there is one request on
-- each line, which with `--dry-run` is only checked.
use Rattle.std.specs.Prelude.{◌≡◌, ◌⊎◌, ◌≤◌, ◌<◌, ⊤, ℕ, ◌+◌, List, ◌++◌, length, take, flat_map}
use Rattle.std.specs.Prelude.{Some, None, Ok, Err}
use Rattle.std.specs.List.{fold}
use Rattle.std.specs.Io.KnownBytes.{Appends}
use Rattle.sqlite_trees.specs.declared.store.Store.{Ghosts}
use Rattle.roster.specs.Folds.{Fold, Replies, ReplyOrRefusal}
use Rattle.roster.specs.State.{State}
use Rattle.book.specs.Kept.{IsClean, IsDurablyAt, Kept}
use Rattle.asking.specs.Lines.{Told, answers_in, commands_in, input_lines, requests_of, told_of}
use Rattle.asking.specs.Lines.{told_text}
use Rattle.asking.specs.Requests.{ReadRequest}
use Rattle.http_exchange.specs.Exchange.{ChannelBytes}
use Rattle.rosterbook.specs.Asking.{IsStoppedIn, status_of_answer}
use Rattle.rosterbook.specs.Showing.{IsShowStopped}
use Rattle.rosterbook.specs.Streams.{IsOfChannel, line_end}
use Rattle.rosterbook.specs.declared.status.Status.{Status}
use Rattle.rosterbook.specs.declared.status.Status.TheVariants.{Done, Refused}
use Rattle.rosterbook.specs.declared.stop.Stop.{Stop}

-- ---- What is read

-- all lines that a reader has were read; if its bytes aren't known, these may be any lines
abbrev pub ReadsLines : ChannelBytes → List (List ℕ) → Type 0
ReadsLines None lines = ⊤
ReadsLines (Some bytes) lines = lines ≡ input_lines bytes

-- the first lines that a reader has were read, however many; if its bytes aren't known, these may
-- be any lines
abbrev pub ReadsFirstLines : ChannelBytes → List (List ℕ) → Type 0
ReadsFirstLines None lines = ⊤
ReadsFirstLines (Some bytes) lines = lines ≡ take (length lines) (input_lines bytes)

-- ---- What is printed

-- the lines that are printed, one for each request of which something is told
abbrev pub printed_of : List Told → List ℕ
printed_of told = flat_map (λ one. told_text one ++ line_end) told

-- the status of what is told of a request
abbrev pub told_status : Told → Status
told_status (Ok answer) = status_of_answer answer
told_status (Err fault) = Refused

-- the status after one more request: refused if that request was refused, else as it was
abbrev pub status_after : Status → Status → Status
status_after status Refused = Refused
status_after status other = status

-- the status with which the program ends after all that it told
abbrev pub status_of_told : List Told → Status
status_of_told told = fold (λ status one. status_after status (told_status one)) Done told

-- the answers to the commands of these requests were printed, one line for each request
pub record AreRequestsTold (requests : List ReadRequest) (answers : List ReplyOrRefusal)
    (status : Status) (out out' : ChannelBytes) : Type 0 where
  pub each : length answers ≡ length (commands_in requests)
  pub printed : Appends out out' (printed_of (told_of requests answers))
  pub ends : status ≡ status_of_told (told_of requests answers)

-- ---- Of a book

module _ {S : Type 0} (g : Ghosts S) (old new : Kept S) where
  -- The commands of these requests were asked in turn, and the answers printed. Where the state of
  -- the book is known, the answers are those of the state.
  pub record AreRequestsAnswered (out out' : ChannelBytes) (requests : List ReadRequest)
      (status : Status) : Type 0 where
    pub answers : List ReplyOrRefusal
    pub told : AreRequestsTold requests answers status out out'
    pub answered : (s : State) → IsDurablyAt g old s → IsClean g new →
        answers ≡ Replies s (commands_in requests)
    pub left : (s : State) → IsDurablyAt g old s →
        IsDurablyAt g new (Fold s (commands_in requests))

  -- For each of these requests it was printed how the book would answer it in its state. Where the
  -- state is known, the answers are those of the state, and nothing was done.
  pub record AreRequestsChecked (out out' : ChannelBytes) (requests : List ReadRequest)
      (status : Status) : Type 0 where
    pub answers : List ReplyOrRefusal
    pub told : AreRequestsTold requests answers status out out'
    pub answered : (s : State) → IsDurablyAt g old s → IsClean g new →
        answers ≡ answers_in s (commands_in requests)
    pub left : (s : State) → IsDurablyAt g old s → IsDurablyAt g new s

  -- The program stopped at the last of these requests. All commands before the last one were
  -- answered. If the last command has no answer, the lines of the requests before it were printed,
  -- and no other.
  pub record AreStoppedAtLast (out out' : ChannelBytes) (requests : List ReadRequest)
      (stop : Stop) : Type 0 where
    pub answers : List ReplyOrRefusal
    pub asked : IsStoppedIn g old new (commands_in requests) answers stop
    pub at_last : length (commands_in requests) ≤ length answers + 1
    pub printed : length answers < length (commands_in requests) →
        Appends out out' (printed_of (told_of requests answers))

  -- all lines that a reader has were read, and their requests answered
  abbrev pub AreLinesAnswered : ChannelBytes → ChannelBytes → ChannelBytes → Status → Type 0
  AreLinesAnswered held out out' status = (lines : List (List ℕ)) × ReadsLines held lines
      × AreRequestsAnswered out out' (requests_of lines) status

  -- no line could be read after these requests, which were answered; or the program stopped at the
  -- last of these requests
  abbrev pub IsStoppedAfter : ChannelBytes → ChannelBytes → List ReadRequest → Stop → Type 0
  IsStoppedAfter out out' requests stop =
      (IsOfChannel stop × ((status : Status) × AreRequestsAnswered out out' requests status))
      ⊎ AreStoppedAtLast out out' requests stop

  -- the first lines that a reader has were read, and the program stopped after them, or at the last
  -- of them
  abbrev pub AreLinesStopped : ChannelBytes → ChannelBytes → ChannelBytes → Stop → Type 0
  AreLinesStopped held out out' stop = (lines : List (List ℕ)) × ReadsFirstLines held lines
      × IsStoppedAfter out out' (requests_of lines) stop

module _ {S : Type 0} (g : Ghosts S) (old new : Kept S) where
  -- all lines that a reader has were read, and their requests checked
  abbrev pub AreLinesChecked : ChannelBytes → ChannelBytes → ChannelBytes → Status → Type 0
  AreLinesChecked held out out' status = (lines : List (List ℕ)) × ReadsLines held lines
      × AreRequestsChecked g old new out out' (requests_of lines) status

  -- the first lines that a reader has were read, and their requests checked; then the program
  -- stopped, and by a fault of the book nothing more was printed
  abbrev pub AreChecksStopped : ChannelBytes → ChannelBytes → ChannelBytes → Stop → Type 0
  AreChecksStopped held out out' stop = (lines : List (List ℕ)) × ReadsFirstLines held lines
      × ((book : Kept S) × (printed : ChannelBytes) × (status : Status)
      × AreRequestsChecked g old book out printed (requests_of lines) status
      × IsShowStopped new printed out' stop)
