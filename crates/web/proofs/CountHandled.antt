-- From the count of requests that was asked for to the response.
use Rattle.std.proofs.Common.{refl, inr, sym, subst, [], string_bytes, Result, Ok, Err}
use Rattle.std.specs.Global.{Global}
use Rattle.std.specs.Prelude.{String}
use Rattle.sqlite.specs.Held.{state}
use Rattle.sqlite_trees.specs.declared.store.Store.{Ghosts}
use Rattle.state_rows.specs.declared.fault.StoreFault.{StoreFault}
use Rattle.state_rows.specs.declared.fault.StoreFault.TheVariants as fault
use Rattle.lookup.specs.declared.count.RequestCount.{RequestCount}
use Rattle.book.specs.Calls.{IsAfterCalls}
use Rattle.book.specs.Kept.{Kept}
use Rattle.book.proofs.States.{one_of_either}
use Rattle.asking.specs.Count.{HasGivenCount, IsCountAsked, ReportsCount, TellsCount}
use Rattle.asking.specs.declared.answers.AskFault.{AskFault}
use Rattle.asking.specs.declared.answers.AskFault.TheVariants as ask
use Rattle.http_exchange.specs.Handler as http
use Rattle.http_exchange.specs.declared.handler.HandlerFault.TheVariants.{Store, Memory}
use Rattle.web.specs.Answers.{count_answer, response_to_count}
use Rattle.web.specs.Handling.{IsHandled}
use Rattle.web.proofs.Handled.{kept_so, none_answered, shows, still_means}

module _ {S : Type 0} (g : Ghosts S) (old new : Kept S) (calls : IsAfterCalls g old new) where
  abbrev IsShownSo : Result (String Global) AskFault → Type 0
  IsShownSo r = IsHandled g old new http.show_count (response_to_count r)

  -- the text is that of what the book counted
  counted : (count : RequestCount) (r : Result (String Global) AskFault) → TellsCount count r → HasGivenCount g old new (Ok count) → IsShownSo r
  counted count (Ok text) tells it = record {
    kept = kept_so g old new calls (Ok count) it.call (Ok (count_answer (string_bytes text))) refl;
    shut = λ f. none_answered count (it.call.shut f).0;
    done = λ s at. (
      (λ c. (string_bytes text, (count, it.counted s at c, tells), refl)),
      ([], refl, (it.call.kept s at, λ has. it.tables s at has)),
    );
  }
  counted count (Err f) tells it = subst (λ (f : AskFault). IsShownSo (Err f)) (sym tells) (record {
    kept = kept_so g old new calls (Ok count) it.call (Err Memory) refl;
    shut = λ _. tt;
    done = λ s at. inr ([], refl, (0, it.call.kept s at, λ has. still_means g old new s (it.tables s at has)));
  })

  -- the book met a fault
  at_fault : (f : StoreFault) → HasGivenCount g old new (Err f) → IsShownSo (Err (ask.Book f))
  at_fault fault.Store it =
      let met : Result RequestCount StoreFault = Err fault.Store in
      record {
        kept = kept_so g old new calls met it.call (Err Store) refl;
        shut = λ _. tt;
        done = λ s at. ([], refl, (0, one_of_either (state g new.held) s s (it.call.kept s at)));
      }
  at_fault fault.Memory it =
      let met : Result RequestCount StoreFault = Err fault.Memory in
      record {
        kept = kept_so g old new calls met it.call (Err Memory) refl;
        shut = λ _. tt;
        done = λ s at. inr ([], refl, (0, it.call.kept s at, λ has. (shows g old new calls met it.call s has, it.call.unchanged.still_open)));
      }

  reported : (count : Result RequestCount StoreFault) (r : Result (String Global) AskFault) → ReportsCount count r → HasGivenCount g old new count → IsShownSo r
  reported (Ok count) r tells it = counted count r tells it
  reported (Err f) r is it = subst (λ (r : Result (String Global) AskFault). IsShownSo r) (sym is) (at_fault f it)

  pub count_handled : (r : Result (String Global) AskFault) → IsCountAsked g old new r → IsShownSo r
  count_handled r it = reported it.count r it.reported it.has_counted
