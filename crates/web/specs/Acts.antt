-- What a request comes to in a book: the commands that it asks, and its answer.
use Rattle.std.specs.Prelude.{◌≡◌, ◌⊎◌, ◌<◌, ⊤, ℕ, List, [], ◌∷◌, length, Result, Ok, Err}
use Rattle.duty.specs.Plans.{Plan}
use Rattle.command.specs.declared.instruction.Instruction.{Instruction}
use Rattle.stored_json.specs.declared.fault.CodecFault.{CodecFault}
use Rattle.stored_json.specs.declared.fault.CodecFault.TheVariants.{BadCsv}
use Rattle.codec.specs.Requests.{read_request}
use Rattle.codec.specs.Schedule.{IsAtFault, IsSchedule}
use Rattle.roster.specs.Folds as folds
use Rattle.roster.specs.Folds.{Replies, import}
use Rattle.roster.specs.State.{State}
use Rattle.roster.specs.Steps.{step_of}
use Rattle.part.specs.Shown.{Absence}
use Rattle.http_message.specs.declared.plan.Submission.TheVariants.{Command, Check, Import}
use Rattle.http_message.specs.declared.plan.Submission.TheVariants.{Lines, LineChecks}
use Rattle.http_exchange.specs.Handler as http
use Rattle.http_exchange.specs.Handler.{StatusText, submit}
use Rattle.http_exchange.specs.declared.handler.HandlerFault.{HandlerFault}
use Rattle.http_exchange.specs.declared.handler.HandlerFault.TheVariants as fault
use Rattle.asking.specs.Count.{IsCountText}
use Rattle.asking.specs.Lines.{answers_in, commands_in, requests_in, told_of}
use Rattle.asking.specs.Reports.{IsShownAs}
use Rattle.asking.specs.Requests.{ReadRequest, asked_as}
use Rattle.web.specs.Answers.{command_answer, count_answer, desk_answer, fault_answer}
use Rattle.web.specs.Answers.{lines_answer, parts_answer, report_answer}

-- commands, each under its key
abbrev pub Commands : Type 0
Commands = List folds.Asked

-- the commands of a body: one if the body is read, and none if it isn't
abbrev pub commands_of_body : Result (ℕ × Instruction) CodecFault → Commands
commands_of_body (Ok read) = asked_as read ∷ []
commands_of_body (Err fault) = []

-- The commands that a request asks: the command of a body that is read, those of the lines that are
-- read, or the parts of a schedule. What isn't read, what is only checked, a report, the count of
-- requests and the page of the desk ask none.
abbrev pub Asks : http.HandlerRequest → Commands → Type 0
Asks (submit Command body) commands = commands ≡ commands_of_body (read_request body)
Asks (submit Check body) commands = commands ≡ []
Asks (submit Lines body) commands = commands ≡ commands_in (requests_in body)
Asks (submit LineChecks body) commands = commands ≡ []
Asks (submit (Import number) body) commands =
    ((plans : List Plan) × IsSchedule body plans × (commands ≡ import number plans))
    ⊎ ((line : ℕ) × IsAtFault body line × (commands ≡ []))
Asks (http.show what form) commands = commands ≡ []
Asks http.show_desk commands = commands ≡ []
Asks http.show_count commands = commands ≡ []

module _ (s : State) where
  -- the answer to a body: the book's answer to its command, or, if it isn't read, why it isn't
  abbrev pub request_answer : Result (ℕ × Instruction) CodecFault → StatusText
  request_answer (Ok (number, instruction)) =
      command_answer
      (folds.answer_of (step_of s (record { number = number; part = 0 }) instruction))
  request_answer (Err fault) = fault_answer fault

  -- the answer to lines, each by the state that those before it leave
  abbrev pub answer_to_lines : List ReadRequest → StatusText
  answer_to_lines requests = lines_answer (told_of requests (Replies s (commands_in requests)))

  -- the answer to lines, each as if it were asked alone
  abbrev pub answer_to_checks : List ReadRequest → StatusText
  answer_to_checks requests = lines_answer (told_of requests (answers_in s (commands_in requests)))

  -- the answer to a request in this state
  abbrev pub IsAnswer : http.HandlerRequest → StatusText → Type 0
  IsAnswer (submit Command body) answer = answer ≡ request_answer (read_request body)
  IsAnswer (submit Check body) answer = answer ≡ request_answer (read_request body)
  IsAnswer (submit Lines body) answer = answer ≡ answer_to_lines (requests_in body)
  IsAnswer (submit LineChecks body) answer = answer ≡ answer_to_checks (requests_in body)
  IsAnswer (submit (Import number) body) answer =
      ((plans : List Plan) × IsSchedule body plans
      × (answer ≡ parts_answer (Replies s (import number plans))))
      ⊎ ((line : ℕ) × IsAtFault body line × (answer ≡ fault_answer (BadCsv line)))
  IsAnswer (http.show what form) answer =
      (shown : Result (List ℕ) Absence) × IsShownAs form s what shown
      × (answer ≡ report_answer form shown)
  IsAnswer http.show_desk answer = answer ≡ desk_answer
  IsAnswer http.show_count answer =
      (text : List ℕ) × IsCountText s text × (answer ≡ count_answer text)

-- ---- a book that has failed

-- the body is no command, and the answer says why
abbrev pub IsNoCommand : List ℕ → StatusText → Type 0
IsNoCommand body answer =
    (fault : CodecFault) × (read_request body ≡ Err fault) × (answer ≡ fault_answer fault)

-- the body is a command
abbrev pub IsCommandBody : List ℕ → Type 0
IsCommandBody body =
    (number : ℕ) × (instruction : Instruction) × (read_request body ≡ Ok (number, instruction))

-- no line of the body is a command, and the answer says of each why
abbrev pub AreNoCommands : List ℕ → StatusText → Type 0
AreNoCommands body answer =
    (commands_in (requests_in body) ≡ []) × (answer ≡ lines_answer (told_of (requests_in body) []))

-- a line of the body is a command
abbrev pub HasCommandLine : List ℕ → Type 0
HasCommandLine body = 0 < length (commands_in (requests_in body))

-- what is sent isn't read, and the answer says why, or the page of the desk is shown, in whichever
-- state the book is
abbrev pub IsToldUnread : http.HandlerRequest → StatusText → Type 0
IsToldUnread (submit Command body) answer = IsNoCommand body answer
IsToldUnread (submit Check body) answer = IsNoCommand body answer
IsToldUnread (submit Lines body) answer = AreNoCommands body answer
IsToldUnread (submit LineChecks body) answer = AreNoCommands body answer
IsToldUnread (submit (Import number) body) answer =
    (line : ℕ) × IsAtFault body line × (answer ≡ fault_answer (BadCsv line))
IsToldUnread (http.show what form) answer = ⊥
IsToldUnread http.show_desk answer = answer ≡ desk_answer
IsToldUnread http.show_count answer = ⊥

-- the request is a command, lines of which one is a command, or a schedule, or it is a report, or
-- the count of requests
abbrev pub IsRead : http.HandlerRequest → Type 0
IsRead (submit Command body) = IsCommandBody body
IsRead (submit Check body) = IsCommandBody body
IsRead (submit Lines body) = HasCommandLine body
IsRead (submit LineChecks body) = HasCommandLine body
IsRead (submit (Import number) body) = (plans : List Plan) × IsSchedule body plans
IsRead (http.show what form) = ⊤
IsRead http.show_desk = ⊥
IsRead http.show_count = ⊤

-- what a book that has failed answers: why nothing of a body is read, or the page of the desk; to a
-- request that is read, that its store failed; or that there was no memory
abbrev pub IsAnsweredShut : http.HandlerRequest → Result StatusText HandlerFault → Type 0
IsAnsweredShut asked (Ok answer) = IsToldUnread asked answer
IsAnsweredShut asked (Err fault.Store) = IsRead asked
IsAnsweredShut asked (Err fault.Memory) = ⊤
