-- What becomes of a call for a report: a book shows what it is asked for, and what it shows is
-- reported.
use Rattle.std.specs.Prelude.{◌≡◌, ◌⊎◌, ◌↔◌, ℕ, List, string_bytes}
use Rattle.std.specs.Prelude.{Result, Ok, Err, IfOk, OnOk, String}
use Rattle.std.specs.Global.{Global}
use Rattle.sqlite_trees.specs.declared.store.Store.{Ghosts}
use Rattle.values.specs.declared.memory_fault.MemoryFault.{MemoryFault}
use Rattle.request.specs.declared.form.Form.{Form}
use Rattle.request.specs.declared.form.Form.TheVariants as form
use Rattle.request.specs.declared.subject.Subject.{Subject}
use Rattle.report.specs.declared.fault.ReportFault.{ReportFault}
use Rattle.report.specs.declared.fault.ReportFault.TheVariants as report
use Rattle.roster.specs.State.{State}
use Rattle.part.specs.Shown.{Absence, no_crew, no_pairing, IsShown, shown_part}
use Rattle.part_json.specs.ShownJson.{IsShownJson}
use Rattle.state_rows.specs.declared.fault.StoreFault.{StoreFault}
use Rattle.book.specs.Calls.{HasRead}
use Rattle.book.specs.Kept.{HasTablesOf, IsDurablyAt, IsClean, Kept}
use Rattle.asking.specs.declared.answers.AskFault.{AskFault}
use Rattle.asking.specs.declared.answers.AskFault.TheVariants.{Book, Memory}
use Rattle.asking.specs.declared.reports.Shown.{Shown}
use Rattle.asking.specs.declared.reports.Shown.TheVariants.{Text, NoSuchCrew, NoSuchPairing}

-- what is shown of a state in a form: a report in text or in JSON, or why there is none
abbrev pub IsShownAs : Form → State → Subject (List ℕ) (List ℕ) → Result (List ℕ) Absence → Type 0
IsShownAs form.Text s what shown = IsShown s what shown
IsShownAs form.Json s what shown = IsShownJson s what shown

-- what is shown: a text, or that the member or the pairing isn't there
abbrev pub text_shown : Shown → Result (List ℕ) Absence
text_shown (Text text) = Ok (string_bytes text)
text_shown NoSuchCrew = Err no_crew
text_shown NoSuchPairing = Err no_pairing

-- what is shown is that of a state in a form; or there is no memory for the text
abbrev pub ShowsOf : State → Subject (List ℕ) (List ℕ) → Form → Result Shown AskFault → Type 0
ShowsOf s what form (Ok shown) = IsShownAs form s what (text_shown shown)
ShowsOf s what form (Err fault) = fault ≡ Memory

-- what a book shows is reported in a form, or a fault that the book met
abbrev pub ReportsShown :
    Result State StoreFault → Subject (List ℕ) (List ℕ) → Form → Result Shown AskFault → Type 0
ReportsShown (Ok roster) what form result = ShowsOf roster what form result
ReportsShown (Err fault) what form result = result ≡ Err (Book fault)

module _ {S : Type 0} (g : Ghosts S) (old new : Kept S) (what : Subject (List ℕ) (List ℕ)) where
  -- A book was asked to show `what`, and gave this roster or fault, as `Book::show` says. What is
  -- shown of the roster in each form is that of the state that the tables mean, and the roster is
  -- the part of that state which the report needs.
  pub record HasGivenRoster (shown : Result State StoreFault) : Type 0 where
    pub call : HasRead g old new shown
    pub text : (s : State) → IsDurablyAt g old s → IsClean g new →
        IfOk shown (λ roster. (form : Form) (text : Result (List ℕ) Absence) →
        IsShownAs form roster what text ↔ IsShownAs form s what text)
    pub part : (s : State) → IsDurablyAt g old s → IsClean g new →
        IfOk shown (λ roster. roster ≡ shown_part s what)
    pub tables : (s : State) → IsDurablyAt g old s → HasTablesOf g old s →
        OnOk shown (HasTablesOf g new s)

  -- a book was asked to show `what`, and what it shows is reported in a form
  pub record IsShowAsked (form : Form) (result : Result Shown AskFault) : Type 0 where
    pub shown : Result State StoreFault
    pub has_shown : HasGivenRoster shown
    pub reported : ReportsShown shown what form result

  -- a book was asked for a report in a form; or there was no memory to name what the report shows,
  -- and the book was asked nothing
  abbrev pub IsReportAsked : Form → Result Shown AskFault → Type 0
  IsReportAsked form result = IsShowAsked form result ⊎ ((new ≡ old) × (result ≡ Err Memory))

-- ---- as the program makes it

-- what is shown: a text, or why there is none
abbrev pub shown_of : Result (String Global) ReportFault → Result Shown AskFault
shown_of (Ok text) = Ok (Text text)
shown_of (Err report.NoSuchCrew) = Ok NoSuchCrew
shown_of (Err report.NoSuchPairing) = Ok NoSuchPairing
shown_of (Err report.Memory) = Err Memory

-- a text is that of a state in a form, or there is none for this reason
abbrev pub IsReportText :
    State → Subject (List ℕ) (List ℕ) → Form → Result (String Global) ReportFault → Type 0
IsReportText s what form text = ShowsOf s what form (shown_of text)

-- the text of a list is that of the report, or there was no memory for it
abbrev pub IsListed : Result (String Global) MemoryFault → Result (String Global) ReportFault
    → Type 0
IsListed (Ok text) result = result ≡ Ok text
IsListed (Err fault) result = result ≡ Err report.Memory
