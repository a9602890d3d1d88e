-- What a book did with a command that it had judged, or could not judge.
use Rattle.std.proofs.Common.{◌≡◌, ◌∙◌, ◌⊎◌, inl, inr, ap, false, Result, Err, IfErr, IfOk, OnOk}
use Rattle.sqlite_trees.specs.declared.store.Store.{Ghosts}
use Rattle.sqlite.specs.Held.{Held, state}
use Rattle.sqlite.specs.State as conn
use Rattle.sqlite.specs.State.{HasCleanDisk}
use Rattle.command.specs.declared.exceedance.Reply.{Reply}
use Rattle.command.specs.declared.refusal.Refusal.{Refusal}
use Rattle.roster.specs.Folds.{Asked, answer_of, next}
use Rattle.roster.specs.State.{State}
use Rattle.roster.specs.Steps.{step_of}
use Rattle.roster.specs.declared.change.Verdict.{Verdict}
use Rattle.roster.specs.declared.change.Verdict.TheVariants.{Refuse, Repeat}
use Rattle.state_rows.specs.declared.fault.StoreFault.{StoreFault}
use Rattle.lookup.specs.Reads.{ChangesNothing, IsOpen, IsReadFault, Shows}
use Rattle.state_rows.specs.Outcomes.{CrashLeavesSome}
use Rattle.book.specs.Asking.{StepOutcome}
use Rattle.book.specs.Headline.{IsRefusal, MakesNoChange, SparesOthers, Untouched}
use Rattle.book.specs.Kept.{IsCausedElsewhere, Keeps, StillHolds, is_store_fault, result_of}
use Rattle.book.specs.declared.answer.Answer.{Answer}
use Rattle.book.specs.declared.answer.Answer.TheVariants.{Accepted, Refused}
use Rattle.book.proofs.Asked.{did_after, did_not_read, elsewhere, no_fault, reply_as, shown_on, shows_it}
use Rattle.book.proofs.Sparing.{spares_after}
use Rattle.book.proofs.States.{still_keeps}
use Rattle.book.proofs.Untouched.{if_ok, on_ok, read_only, untouched}

-- what was done from the state that the tables meant, and what it was answered
pub record Decided (old new : conn.State) (s : State) (asked : Asked) (result : Result Answer StoreFault) : Type 0 where
  pub did : StepOutcome old new s (next s asked) result
  pub reply : HasCleanDisk new → IfOk result (λ a. result_of a ≡ answer_of (step_of s asked.0 asked.1))
  pub repeated : (reply : Reply) → HasCleanDisk new → step_of s asked.0 asked.1 ≡ Repeat reply → ChangesNothing old new × IfOk result (λ a. a ≡ Accepted reply)
  pub turned_down : (refusal : Refusal) → HasCleanDisk new → step_of s asked.0 asked.1 ≡ Refuse refusal → ChangesNothing old new × IfOk result (λ a. a ≡ Refused refusal)
  pub refused : IfOk result (λ a. IsRefusal a → Untouched old new)
  pub caused : MakesNoChange s asked → IfErr result (IsCausedElsewhere old new)
  pub others_spared : OnOk result (Untouched old new ⊎ SparesOthers old new)

-- the verdict could not be read
pub not_judged : (old mid : conn.State) (s : State) (asked : Asked) → ChangesNothing old mid → CrashLeavesSome mid → Keeps old s → StillHolds old s →
    (fault : StoreFault) → IsReadFault old mid fault → Decided old mid s asked (Err fault)
not_judged old mid s asked read some keeps shown fault caused = record {
  did = did_not_read old mid s (next s asked) fault read some keeps shown;
  reply = λ clean. tt;
  repeated = λ reply clean is. (read, tt);
  turned_down = λ refusal clean is. (read, tt);
  refused = tt;
  caused = λ change clean is. let was = read.nothing_new.disk clean in elsewhere old mid s keeps shown was (caused s (shows_it old s keeps shown was) clean is);
  others_spared = tt;
}

-- what the verdict accepts was kept in the store
module _ {S : Type 0} (g : Ghosts S) (old mid new : Held S) (s : State) (asked : Asked) (read : ChangesNothing (state g old) (state g mid)) (some : CrashLeavesSome (state g mid))
    (keeps : Keeps (state g old) s) (shown : StillHolds (state g old) s) (opened : IsOpen (state g mid)) (verdict : Verdict)
    (told : (t : State) → Shows (state g old) t → HasCleanDisk (state g mid) → verdict ≡ step_of t asked.0 asked.1)
    (disk : HasCleanDisk (state g new) → HasCleanDisk (state g mid)) where
  verdict_is : HasCleanDisk (state g mid) → verdict ≡ step_of s asked.0 asked.1
  verdict_is clean = told s (shows_it (state g old) s keeps shown (read.nothing_new.disk clean)) clean

  keeps_mid : Keeps (state g mid) s
  keeps_mid = still_keeps _ _ s read.nothing_new some keeps

  pub judged : (result : Result Answer StoreFault) →
      ((t : State) (a : Asked) → Keeps (state g mid) t → StillHolds (state g mid) t → (HasCleanDisk (state g mid) → verdict ≡ step_of t a.0 a.1) →
      StepOutcome (state g mid) (state g new) t (next t a) result) →
      IfOk result (λ a. result_of a ≡ answer_of verdict) →
      ((reply : Reply) → verdict ≡ Repeat reply → (new ≡ mid) × (is_store_fault result ≡ false) × IfOk result (λ a. a ≡ Accepted reply)) →
      ((refusal : Refusal) → verdict ≡ Refuse refusal → (new ≡ mid) × (is_store_fault result ≡ false) × IfOk result (λ a. a ≡ Refused refusal)) →
      IfOk result (λ a. IsRefusal a → new ≡ mid) →
      ((t : State) (a : Asked) → Keeps (state g mid) t → (HasCleanDisk (state g mid) → verdict ≡ step_of t a.0 a.1) →
      OnOk result ((new ≡ mid) ⊎ SparesOthers (state g mid) (state g new))) →
      Decided (state g old) (state g new) s asked result
  judged result did reply repeated turned_down refused spared = record {
    did = did_after (state g old) (state g mid) (state g new) s (next s asked) read opened result
        (did s asked keeps_mid (shown_on (state g old) (state g mid) s read.nothing_new.disk read.still_shown shown) verdict_is);
    reply = λ clean. reply_as result _ _ _ reply (ap answer_of (verdict_is (disk clean)));
    repeated = λ kept clean is.
        let it = repeated kept (verdict_is (disk clean) ∙ is) in
        (read_only g old mid new read it.0, it.2);
    turned_down = λ refusal clean is.
        let it = turned_down refusal (verdict_is (disk clean) ∙ is) in
        (read_only g old mid new read it.0, it.2);
    refused = if_ok result refused (λ a same refusal. untouched g old mid new read opened (same refusal));
    caused = λ change. no_fault (state g old) (state g new) result (λ clean.
        let same = verdict_is (disk clean) in
        elim change [
          | inl repeat ↦ (repeated repeat.0 (same ∙ repeat.1)).1
          | inr refuse ↦ (turned_down refuse.0 (same ∙ refuse.1)).1
        ]);
    others_spared = on_ok result (spared s asked keeps_mid verdict_is) (elim [
      | inl same ↦ inl (untouched g old mid new read opened same)
      | inr spares ↦ inr (spares_after (state g old) (state g mid) (state g new) disk read opened spares)
    ]);
  }
