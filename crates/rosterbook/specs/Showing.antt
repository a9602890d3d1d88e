-- What a subcommand for a report prints, and where it stops.
use Rattle.std.specs.Prelude.{◌≡◌, ◌⊎◌, IsTrue, ℕ, List, Result, Ok, Err}
use Rattle.std.specs.Io.KnownBytes.{Appends}
use Rattle.roster.specs.State.{State}
use Rattle.state_rows.specs.declared.fault.StoreFault.TheVariants.{Store}
use Rattle.report.specs.Faults.{report_fault_text}
use Rattle.report.specs.declared.fault.ReportFault.TheVariants.{NoSuchCrew, NoSuchPairing}
use Rattle.book.specs.Kept.{Kept}
use Rattle.part.specs.Shown.{Absence, no_crew, no_pairing}
use Rattle.request.specs.declared.form.Form.{Form}
use Rattle.request.specs.declared.subject.Subject.{Subject}
use Rattle.asking.specs.Reports.{IsShownAs, text_shown}
use Rattle.asking.specs.declared.reports.Shown.{Shown}
use Rattle.http_exchange.specs.Exchange.{ChannelBytes}
use Rattle.rosterbook.specs.Streams.{IsOfChannel, refused_line}
use Rattle.rosterbook.specs.Asking.{IsBookFault}
use Rattle.rosterbook.specs.declared.status.Status.{Status}
use Rattle.rosterbook.specs.declared.status.Status.TheVariants.{Done, Refused}
use Rattle.rosterbook.specs.declared.stop.Stop.{Stop}
use Rattle.rosterbook.specs.declared.stop.Stop.TheVariants.{Book}

-- the text that reports that the member or the pairing isn't there
abbrev pub absence_text : Absence → List ℕ
absence_text no_crew = report_fault_text NoSuchCrew
absence_text no_pairing = report_fault_text NoSuchPairing

-- a text is printed on standard output; if there is none, why is printed on standard error
abbrev pub PrintsText : Result (List ℕ) Absence → Status → ChannelBytes → ChannelBytes →
    ChannelBytes → ChannelBytes → Type 0
PrintsText (Ok text) status out out' err err' =
    (status ≡ Done) × Appends out out' text × (err' ≡ err)
PrintsText (Err absence) status out out' err err' =
    (status ≡ Refused) × (out' ≡ out) × Appends err err' (refused_line (absence_text absence))

-- a state's report on this subject was printed in this form
pub record IsToldOf (s : State) (subject : Subject (List ℕ) (List ℕ)) (form : Form)
    (status : Status) (out out' err err' : ChannelBytes) : Type 0 where
  pub shown : Result (List ℕ) Absence
  pub is : IsShownAs form s subject shown
  pub told : PrintsText shown status out out' err err'

-- the program stopped while it showed a book; at a fault of the book nothing was printed
pub record IsShowStopped {S : Type 0} (new : Kept S) (out out' : ChannelBytes) (stop : Stop) :
    Type 0 where
  pub told : IsBookFault stop ⊎ IsOfChannel stop
  pub silent : IsBookFault stop → out' ≡ out
  pub failed : stop ≡ Book Store → IsTrue new.failed

-- ---- As the program makes it

-- what is shown is printed: a text, or that the member or the pairing isn't there
abbrev pub PrintsShown : Shown → Status → ChannelBytes → ChannelBytes →
    ChannelBytes → ChannelBytes → Type 0
PrintsShown shown = PrintsText (text_shown shown)
