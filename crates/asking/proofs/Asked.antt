-- What was asked of a book, from what was read of it.
use Rattle.std.proofs.Common.{◌≡◌, ◌||◌, ◌↔◌, inl, refl, subst, sym, ℕ, List, Result, Ok, Err, IfOk, OnOk, IsTrue}
use Rattle.sqlite_trees.specs.declared.store.Store.{Ghosts}
use Rattle.sqlite.specs.Held.{state}
use Rattle.command.specs.Keys.{KeyParts}
use Rattle.command.specs.declared.instruction.Instruction.{Instruction}
use Rattle.stored_json.specs.declared.fault.CodecFault.{CodecFault}
use Rattle.codec.specs.Requests.{read_request}
use Rattle.request.specs.declared.form.Form.{Form}
use Rattle.request.specs.declared.form.Form.TheVariants as form
use Rattle.request.specs.declared.subject.Subject.{Subject}
use Rattle.roster.specs.State.{State}
use Rattle.part.specs.Shown.{Absence, IsShown, shown_part}
use Rattle.part_json.specs.ShownJson.{IsShownJson}
use Rattle.part_json.proofs.Alike.{part_is_shown_alike_json}
use Rattle.state_rows.specs.declared.fault.StoreFault.{StoreFault}
use Rattle.state_rows.specs.declared.fault.StoreFault.TheVariants.{Store}
use Rattle.lookup.specs.Reads.{ChangesNothing}
use Rattle.book.specs.Kept.{HasTablesOf, IsDurablyAt, IsClean, Kept, is_store_fault}
use Rattle.asking.specs.Answers.{ReportsUnread}
use Rattle.asking.specs.Reports.{HasGivenRoster, IsReportAsked, IsShowAsked, IsShownAs}
use Rattle.asking.specs.Requests.{IsCheckedAsRead, IsCommandAsked, IsCommandChecked, IsDoneAsRead, IsRequestAsked, IsRequestChecked}
use Rattle.asking.specs.declared.answers.AskFault.{AskFault}
use Rattle.asking.specs.declared.answers.JsonAnswer.{JsonAnswer}
use Rattle.asking.specs.declared.reports.Shown.{Shown}

-- ---- Requests

pub request_read : {S : Type 0} (g : Ghosts S) (old new : Kept S) (body : List ℕ) (number : ℕ) (instruction : Instruction) (key : KeyParts) (result : Result JsonAnswer AskFault)
    → read_request body ≡ Ok (number, instruction) → key ≡ record { number = number; part = 0 }
    → IsCommandAsked g old new (key, instruction) result → IsRequestAsked g old new body result
request_read g old new body number instruction key result is under asked =
    inl (subst (λ r. IsDoneAsRead g old new r result) (sym is) (subst (λ k. IsCommandAsked g old new (k, instruction) result) under asked))

pub request_unread : {S : Type 0} (g : Ghosts S) (book : Kept S) (body : List ℕ) (fault : CodecFault) (result : Result JsonAnswer AskFault)
    → read_request body ≡ Err fault → ReportsUnread fault result → IsRequestAsked g book book body result
request_unread g book body fault result is reported = inl (subst (λ r. IsDoneAsRead g book book r result) (sym is) (refl, reported))

-- the same of one that is only checked
pub check_read : {S : Type 0} (g : Ghosts S) (old new : Kept S) (body : List ℕ) (number : ℕ) (instruction : Instruction) (key : KeyParts) (result : Result JsonAnswer AskFault)
    → read_request body ≡ Ok (number, instruction) → key ≡ record { number = number; part = 0 }
    → IsCommandChecked g old new (key, instruction) result → IsRequestChecked g old new body result
check_read g old new body number instruction key result is under checked =
    inl (subst (λ r. IsCheckedAsRead g old new r result) (sym is) (subst (λ k. IsCommandChecked g old new (k, instruction) result) under checked))

pub check_unread : {S : Type 0} (g : Ghosts S) (book : Kept S) (body : List ℕ) (fault : CodecFault) (result : Result JsonAnswer AskFault)
    → read_request body ≡ Err fault → ReportsUnread fault result → IsRequestChecked g book book body result
check_unread g book body fault result is reported = inl (subst (λ r. IsCheckedAsRead g book book r result) (sym is) (refl, reported))

-- ---- Reports

module _ {S : Type 0} (g : Ghosts S) (old new : Kept S) (what : Subject (List ℕ) (List ℕ)) where
  -- what is shown of the part of a state in each form is what is shown of the state
  in_each_form : (s roster : State) → roster ≡ shown_part s what → ((text : Result (List ℕ) Absence) → IsShown roster what text ↔ IsShown s what text)
      → (asked : Form) (text : Result (List ℕ) Absence) → IsShownAs asked roster what text ↔ IsShownAs asked s what text
  in_each_form s roster part alike form.Text text = alike text
  in_each_form s roster part alike form.Json text = subst (λ r. IsShownJson r what text ↔ IsShownJson s what text) (sym part) (part_is_shown_alike_json s what text)

  given_in_each : (s : State) (shown : Result State StoreFault) → IfOk shown (λ roster. (text : Result (List ℕ) Absence) → IsShown roster what text ↔ IsShown s what text)
      → IfOk shown (λ roster. roster ≡ shown_part s what)
      → IfOk shown (λ roster. (asked : Form) (text : Result (List ℕ) Absence) → IsShownAs asked roster what text ↔ IsShownAs asked s what text)
  given_in_each s (Ok roster) alike part = in_each_form s roster part alike
  given_in_each s (Err fault) alike part = tt

  pub has_shown : (shown : Result State StoreFault) → new.failed ≡ (old.failed || is_store_fault shown)
      → (IsTrue old.failed → (shown ≡ Err Store) × (new ≡ old))
      → ChangesNothing (state g old.held) (state g new.held)
      → ((s : State) → IsDurablyAt g old s → IsDurablyAt g new s)
      → ((s : State) → IsDurablyAt g old s → IsClean g new → IfOk shown (λ roster. (text : Result (List ℕ) Absence) → IsShown roster what text ↔ IsShown s what text))
      → ((s : State) → IsDurablyAt g old s → IsClean g new → IfOk shown (λ roster. roster ≡ shown_part s what))
      → ((s : State) → IsDurablyAt g old s → HasTablesOf g old s → OnOk shown (HasTablesOf g new s))
      → HasGivenRoster g old new what shown
  has_shown shown failed shut unchanged kept text part tables = record {
    call = record { failed = failed; shut = shut; unchanged = unchanged; kept = kept };
    text = λ s at clean. given_in_each s shown (text s at clean) (part s at clean);
    part = part;
    tables = tables;
  }

  pub report_shown : (wanted : Subject (List ℕ) (List ℕ)) (asked : Form) (result : Result Shown AskFault) → what ≡ wanted → IsShowAsked g old new what asked result
      → IsReportAsked g old new wanted asked result
  report_shown wanted asked result is shown = inl (subst (λ w. IsShowAsked g old new w asked result) is shown)
