-- What the program answers: its exit status, and what it writes to standard output and standard
-- error.
use Rattle.std.specs.Prelude.{◌≡◌, ◌⊎◌, ℕ, Bool, true, false, List, [], ◌++◌, codes, map}
use Rattle.std.specs.Prelude.{string_bytes, Result, Ok, Err}
use Rattle.std.specs.Io.KnownBytes.{Appends}
use Rattle.time117.specs.Local.{is_zone_text}
use Rattle.roster.specs.Folds.{ReplyOrRefusal}
use Rattle.rosterbook.specs.Asking.{IsImportTold, IsRequestReadAndTold}
use Rattle.rosterbook.specs.InLines.{AreRequestsTold, ReadsLines}
use Rattle.asking.specs.Lines.{requests_of}
use Rattle.rosterbook.specs.Serving.{IsServeTold}
use Rattle.rosterbook.specs.Showing.{IsToldOf}
use Rattle.roster.specs.State.{State}
use Rattle.request.specs.Subjects.{subject_bytes}
use Rattle.period_verdict.specs.FaultText.{line_fault_text}
use Rattle.http_exchange.specs.Exchange.{ChannelBytes}
pub use Rattle.rosterbook.specs.Streams.{line_end, refused_line}
use Rattle.writing.specs.Faults.{create_text}
use Rattle.writing.specs.declared.fault.CreateFault.{CreateFault}
use Rattle.period_verdict.specs.Verdict.{VerdictLine, line_of}
use Rattle.console.specs.declared.actions.Action.{Action}
use Rattle.console.specs.declared.actions.Action.TheVariants.{Duty, Init, Do, Import, Report, Serve}
use Rattle.period_verdict.specs.declared.fault.LineFault.{LineFault}
use Rattle.period_verdict.specs.declared.fault.LineFault.TheVariants.{Zone, Memory}
use Rattle.rosterbook.specs.declared.status.Status.{Status}
use Rattle.rosterbook.specs.declared.status.Status.TheVariants.{Done, Refused, Usage, Failed}

-- the exit status of each end of the program
abbrev pub exit_status : Status → ℕ
exit_status Done = 0
exit_status Refused = 1
exit_status Usage = 2
exit_status Failed = 3

-- a status, and the bytes of standard output and standard error
pub record ProgramOutput : Type 0 where
  pub status : Status
  pub out : List ℕ
  pub err : List ℕ

-- a flight duty period that exceeds a table ends the program as a refusal does
abbrev pub verdict_status : Bool → Status
verdict_status true = Done
verdict_status false = Refused

-- the line of a refusal of `duty` or `init`, by its fault
abbrev pub refusal_line : LineFault → List ℕ
refusal_line fault = refused_line (line_fault_text fault)

-- what `duty` answers: the line, or the refusal
abbrev pub duty_answer : Result VerdictLine LineFault → ProgramOutput
duty_answer (Ok line) =
    record { status = verdict_status line.1; out = line.0 ++ line_end; err = [] }
duty_answer (Err fault) = record { status = Refused; out = []; err = refusal_line fault }

-- the answer where the program is out of memory (91) before anything was written
abbrev pub memory_answer : ProgramOutput
memory_answer = record { status = Failed; out = []; err = refusal_line Memory }

-- what `init` answers when a book was made
abbrev pub ready : ProgramOutput
ready = record { status = Done; out = codes "ready" ++ line_end; err = [] }

-- what `init` answers when no book was made, by the fault
abbrev pub unmade : CreateFault → ProgramOutput
unmade fault = record { status = Failed; out = []; err = refused_line (create_text fault) }

-- what `init` answers without a fault, by whether the text is a zone's
abbrev pub init_answer : Bool → ProgramOutput
init_answer true = ready
init_answer false = record { status = Refused; out = []; err = refusal_line Zone }

-- the answer was given whole: its status, and its bytes at the end of what the two writers held
pub record Gives (answer : ProgramOutput) (status : Status) (out out' err err' : ChannelBytes)
    : Type 0 where
  pub ends : status ≡ answer.status
  pub prints : Appends out out' answer.out
  pub complains : Appends err err' answer.err

-- `init` made no book: there was no memory to read the zone, or the text is a zone's and the book
-- was refused
abbrev pub IsUnmade : Bool → Status → ChannelBytes → ChannelBytes → ChannelBytes → ChannelBytes
    → Type 0
IsUnmade is_zone status out out' err err' =
    Gives memory_answer status out out' err err'
    ⊎ ((is_zone ≡ true) × ((fault : CreateFault) × Gives (unmade fault) status out out' err err'))

-- what `do` prints, by whether there is a command on each line: the answer to one request, or to
-- each
abbrev pub IsDoTold : (lines : Bool) → ChannelBytes → ChannelBytes → ChannelBytes → Status → Type 0
IsDoTold false held out out' status =
    (input : List ℕ) × (answer : ReplyOrRefusal)
    × IsRequestReadAndTold held out out' status input answer
IsDoTold true held out out' status =
    (lines : List (List ℕ)) × (answers : List ReplyOrRefusal) × ReadsLines held lines
    × AreRequestsTold (requests_of lines) answers status out out'

-- the action was answered whole, by what a reader has
abbrev pub PerformsAction : Action → Status → ChannelBytes → ChannelBytes → ChannelBytes
    → ChannelBytes → ChannelBytes → Type 0
PerformsAction (Duty zone report times) status held out out' err err' =
    Gives
    (duty_answer
    (line_of (string_bytes zone) (string_bytes report) (map string_bytes times.items)))
    status out out' err err'
PerformsAction (Init file zone) status held out out' err err' =
    Gives (init_answer (is_zone_text (string_bytes zone))) status out out' err err'
PerformsAction (Do file dry_run lines) status held out out' err err' =
    IsDoTold lines held out out' status × (err' ≡ err)
PerformsAction (Import file number) status held out out' err err' =
    IsImportTold held out out' err err' status
PerformsAction (Report file subject form) status held out out' err err' =
    (s : State) × IsToldOf s (subject_bytes subject) form status out out' err err'
PerformsAction (Serve file port connections) status held out out' err err' =
    IsServeTold port connections out out' err err' status

-- the action was answered whole, by what a reader has, and the program ended with this exit status
abbrev pub IsPerformed : Action → ℕ → ChannelBytes → ChannelBytes → ChannelBytes → ChannelBytes
    → ChannelBytes → Type 0
IsPerformed action code held out out' err err' =
    (status : Status) × (code ≡ exit_status status)
    × PerformsAction action status held out out' err err'
