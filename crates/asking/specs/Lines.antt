-- What becomes of lines, of which each is the body of a request: a book is asked their commands in
-- turn, and what it answered is told of each.
use Rattle.std.specs.Prelude.{◌≡◌, ◌==◌, ℕ, Bool, true, false, List, [], ◌∷◌, ◌++◌, codes, length}
use Rattle.std.specs.Prelude.{filter, flat_map, map, slice_get, string_bytes, take, Some, String}
use Rattle.std.specs.Prelude.{Result, Ok, Err, if◌then◌else◌}
use Rattle.std.specs.Global.{Global}
use Rattle.std.specs.List.{slice_split}
use Rattle.sqlite_trees.specs.declared.store.Store.{Ghosts}
use Rattle.stored_json.specs.declared.fault.CodecFault.{CodecFault}
use Rattle.codec.specs.RefusalText.{fault_reply}
use Rattle.codec.specs.Requests.{read_request}
use Rattle.roster.specs.Folds.{Asked, ReplyOrRefusal, answer_of}
use Rattle.roster.specs.State.{State}
use Rattle.roster.specs.Steps.{step_of}
use Rattle.state_rows.specs.declared.fault.StoreFault.{StoreFault}
use Rattle.book.specs.Answered.{IsAnswered}
use Rattle.book.specs.Kept.{Kept, result_of}
use Rattle.book.specs.declared.answer.Answer.{Answer}
use Rattle.asking.specs.Answers.{answer_json, with_commas}
use Rattle.asking.specs.Requests.{HasChecked, AreAnswered, ReadRequest, asked_as}
use Rattle.asking.specs.declared.answers.AskFault.{AskFault}
use Rattle.asking.specs.declared.answers.AskFault.TheVariants.{Book, Memory}
use Rattle.asking.specs.declared.answers_text.AnswersText.{AnswersText}

-- ---- What the lines are

-- whether a line has a byte
abbrev pub has_bytes : List ℕ → Bool
has_bytes [] = false
has_bytes (byte ∷ line) = true

-- the lines that aren't empty
abbrev pub not_empty : List (List ℕ) → List (List ℕ)
not_empty lines = filter has_bytes lines

-- the lines of some bytes, without the line feeds (10) that end them; what stands after the last
-- line feed is a line too
abbrev pub all_lines : List ℕ → List (List ℕ)
all_lines bytes = slice_split (λ byte. byte == 10) bytes

-- the same without the empty lines
abbrev pub input_lines : List ℕ → List (List ℕ)
input_lines bytes = not_empty (all_lines bytes)

-- the requests of these lines: each line is the body of one
abbrev pub requests_of : List (List ℕ) → List ReadRequest
requests_of lines = map read_request lines

-- the requests of a body's lines
abbrev pub requests_in : List ℕ → List ReadRequest
requests_in body = requests_of (input_lines body)

-- the commands that a request asks: one, or none if the request isn't read
abbrev pub asked_by_request : ReadRequest → List Asked
asked_by_request (Ok asked) = asked_as asked ∷ []
asked_by_request (Err fault) = []

-- the commands of requests: a request that isn't read has none
abbrev pub commands_in : List ReadRequest → List Asked
commands_in requests = flat_map asked_by_request requests

-- ---- What is told of each

-- what is told of a request: the answer to its command, or why it isn't read
abbrev pub Told : Type 0
Told = Result ReplyOrRefusal CodecFault

-- What is told of requests, in turn, where their commands got these answers. Of a request that
-- isn't read it is told why. From the first command without an answer on nothing is told.
abbrev pub told_of : List ReadRequest → List ReplyOrRefusal → List Told
told_of [] answers = []
told_of (Err fault ∷ requests) answers = Err fault ∷ told_of requests answers
told_of (Ok asked ∷ requests) [] = []
told_of (Ok asked ∷ requests) (answer ∷ answers) = Ok answer ∷ told_of requests answers

-- the text of what is told of a request, in JSON
abbrev pub told_text : Told → List ℕ
told_text (Ok answer) = answer_json answer
told_text (Err fault) = fault_reply fault

-- what is told of requests, as one text
abbrev pub answers_text : List Told → List ℕ
answers_text told = codes "{\"answers\":[" ++ with_commas (map told_text told) ++ codes "]}"

-- how a state answers each of these commands, if it is asked that command alone
abbrev pub answers_in : State → List Asked → List ReplyOrRefusal
answers_in s asked = map (λ one. answer_of (step_of s one.0 one.1)) asked

-- ---- Of a book

-- `Takes old new asked result`: a book was asked this command, and gave this result.
module _ {S : Type 0} (Takes : Kept S → Kept S → Asked → Result Answer StoreFault → Type 0) where
  -- How taking requests to a book ended, where the book was `now` after these answers. All commands
  -- were answered, and what is told of the requests is the text; or the book met a fault at the
  -- next command; or there was no memory for a line or for the text, and the book is so.
  abbrev pub EndsTelling : List ReadRequest → List Answer → Kept S → Kept S →
      Result (String Global) AskFault → Type 0
  EndsTelling requests answers now new (Ok text) =
      (length answers ≡ length (commands_in requests)) × (new ≡ now)
      × (string_bytes text ≡ answers_text (told_of requests (map result_of answers)))
  EndsTelling requests answers now new (Err (Book fault)) =
      (asked : Asked) × (slice_get (commands_in requests) (length answers) ≡ Some asked)
      × Takes now new asked (Err fault)
  EndsTelling requests answers now new (Err Memory) = new ≡ now

  -- the commands of these requests were taken to a book in turn, up to the end
  pub record AreTaken (old new : Kept S) (requests : List ReadRequest)
      (result : Result (String Global) AskFault) : Type 0 where
    pub answers : List Answer
    pub now : Kept S
    pub taken : AreAnswered Takes old (take (length answers) (commands_in requests)) answers now
    pub ends : EndsTelling requests answers now new result

-- a book was asked each command of the lines of a body in turn
abbrev pub IsEachAsked : {S : Type 0} → Ghosts S → Kept S → Kept S → List ℕ →
    Result (String Global) AskFault → Type 0
IsEachAsked g old new body result =
    AreTaken (IsAnswered g) old new (requests_in body) result

-- a book was asked in turn how it would answer each command of the lines of a body
abbrev pub IsEachChecked : {S : Type 0} → Ghosts S → Kept S → Kept S → List ℕ →
    Result (String Global) AskFault → Type 0
IsEachChecked g old new body result =
    AreTaken (HasChecked g) old new (requests_in body) result

-- ---- as the program makes the text

-- a text that tells of one more request, with a comma before it unless it is the first
abbrev pub IsToldAlso : AnswersText → AnswersText → List ℕ → Type 0
IsToldAlso old new text =
    (string_bytes new.text ≡ string_bytes old.text
    ++ ((if old.has_some then codes "," else []) ++ text))
    × (new.has_some ≡ true)
