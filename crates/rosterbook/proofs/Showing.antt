-- What is reported of a book that is shown.
use Rattle.std.proofs.Common.{◌≡◌, inl, inr, refl, ap, sym, subst, ℕ, List, Result, Ok, Err}
use Rattle.sqlite_trees.specs.declared.store.Store.{Ghosts}
use Rattle.roster.specs.State.{State}
use Rattle.state_rows.specs.declared.fault.StoreFault.{StoreFault}
use Rattle.request.specs.declared.form.Form.{Form}
use Rattle.request.specs.declared.subject.Subject.{Subject}
use Rattle.book.specs.Kept.{IsDurablyAt, IsClean, Kept}
use Rattle.asking.specs.Reports.{HasGivenRoster, IsReportAsked, ReportsShown, ShowsOf, text_shown}
use Rattle.asking.specs.declared.answers.AskFault.{AskFault}
use Rattle.asking.specs.declared.answers.AskFault.TheVariants as ask
use Rattle.asking.specs.declared.reports.Shown.{Shown}
use Rattle.http_exchange.specs.Exchange.{ChannelBytes}
use Rattle.rosterbook.specs.Asking.{stop_of}
use Rattle.rosterbook.specs.Showing.{IsShowStopped, IsToldOf, PrintsShown}
use Rattle.rosterbook.specs.Streams.{IsOfChannel}
use Rattle.rosterbook.specs.declared.status.Status.{Status}
use Rattle.rosterbook.specs.declared.stop.Stop.{Stop}
use Rattle.rosterbook.specs.declared.stop.Stop.TheVariants as stops
use Rattle.rosterbook.proofs.Stopping.{has_failed, no_fault_of_book}

-- ---- Where it stops

-- a writer failed, or there was no memory beside the book
pub not_of_book : {S : Type 0} (new : Kept S) (out out' : ChannelBytes) (stop : Stop) → IsOfChannel stop → IsShowStopped new out out' stop
not_of_book new out out' stop (inl is) = subst (IsShowStopped new out out') (sym is) (record {
  told = inr (inl refl);
  silent = λ no. absurd (no_fault_of_book stops.Memory (inl refl) no);
  failed = λ no. absurd (cc);
})
not_of_book new out out' stop (inr is) = subst (IsShowStopped new out out') (sym is) (record {
  told = inr (inr refl);
  silent = λ no. absurd (no_fault_of_book stops.Channel (inr refl) no);
  failed = λ no. absurd (cc);
})

-- ---- What is printed

-- what is shown of a state is reported of it
shown_told : (s : State) (subject : Subject (List ℕ) (List ℕ)) (form : Form) (it : Shown) (status : Status) (out out' err err' : ChannelBytes) → ShowsOf s subject form (Ok it) → PrintsShown it status out out' err err'
    → IsToldOf s subject form status out out' err err'
shown_told s subject form it status out out' err err' is prints = record { shown = text_shown it; is = is; told = prints }

module _ {S : Type 0} (g : Ghosts S) (old new : Kept S) (subject : Subject (List ℕ) (List ℕ)) (form : Form) where
  -- ---- What was shown is reported

  module _ (it : Shown) (status : Status) (out out' err err' : ChannelBytes) (prints : PrintsShown it status out out' err err') where
    some_shown : (r : Result State StoreFault) → ReportsShown r subject form (Ok it) → (s : State) × IsToldOf s subject form status out out' err err'
    some_shown (Ok roster) is = (roster, shown_told roster subject form it status out out' err err' is prints)
    some_shown (Err fault) is = absurd (cc)

    pub some_told : IsReportAsked g old new subject form (Ok it) → (s : State) × IsToldOf s subject form status out out' err err'
    some_told (inl asked) = some_shown asked.shown asked.reported
    some_told (inr (same, is)) = absurd (cc)

    state_shown : (s : State) → IsDurablyAt g old s → IsClean g new → (r : Result State StoreFault) → HasGivenRoster g old new subject r → ReportsShown r subject form (Ok it)
        → IsToldOf s subject form status out out' err err'
    state_shown s at clean (Ok roster) has is =
        shown_told s subject form it status out out' err err' ((has.text s at clean form (text_shown it)).0 is) prints
    state_shown s at clean (Err fault) has is = absurd (cc)

    pub state_told : (s : State) → IsDurablyAt g old s → IsClean g new → IsReportAsked g old new subject form (Ok it) → IsToldOf s subject form status out out' err err'
    state_told s at clean (inl asked) = state_shown s at clean asked.shown asked.has_shown asked.reported
    state_told s at clean (inr (same, is)) = absurd (cc)

  -- the book is as it was
  pub report_kept : (r : Result Shown AskFault) → IsReportAsked g old new subject form r → (s : State) → IsDurablyAt g old s → IsDurablyAt g new s
  report_kept r (inl asked) s at = asked.has_shown.call.kept s at
  report_kept r (inr (same, is)) s at = subst (λ (b : Kept S). IsDurablyAt g b s) (sym same) at

  -- ---- Where it stops

  unshown : (out : ChannelBytes) (fault : AskFault) (r : Result State StoreFault) → HasGivenRoster g old new subject r → ReportsShown r subject form (Err fault) → IsShowStopped new out out (stop_of fault)
  unshown out fault (Ok roster) has memory = not_of_book new out out (stop_of fault) (inl (ap stop_of memory))
  unshown out fault (Err met) has is =
      let at_book : fault ≡ ask.Book met = cc in
      subst (λ f. IsShowStopped new out out (stop_of f)) (sym at_book) (record {
        told = inl (met, refl);
        silent = λ _. refl;
        failed = has_failed State met old.failed new.failed has.call.failed;
      })

  pub report_stopped : (out : ChannelBytes) (fault : AskFault) → IsReportAsked g old new subject form (Err fault) → IsShowStopped new out out (stop_of fault)
  report_stopped out fault (inl asked) = unshown out fault asked.shown asked.has_shown asked.reported
  report_stopped out fault (inr (same, is)) = let memory : fault ≡ ask.Memory = cc in not_of_book new out out (stop_of fault) (inl (ap stop_of memory))
