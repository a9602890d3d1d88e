-- From an exchange over a handler to one with a book.
use Rattle.std.proofs.Common.{◌≡◌, ◌∙◌, ◌<◌, ◌⊎◌, ◌||◌, ap, sym, subst, refl, inl, inr, arith, ℕ, Bool, true, false, IsTrue, List, [], length, drop, take, Some, None, Result, Ok, Err, IfOk, IfErr}
use Rattle.std.proofs.lemmas.List.{take_all}
use Rattle.sqlite.specs.Held.{state}
use Rattle.sqlite_trees.specs.declared.store.Store.{Ghosts}
use Rattle.httparse.specs.Grammar.{RequestHead}
use Rattle.roster.specs.Folds.{Fold}
use Rattle.roster.specs.Honest.{Honest}
use Rattle.roster.specs.State.{State}
use Rattle.writing.specs.Beside.{KeepOthers}
use Rattle.state_rows.specs.Outcomes.{CrashAddsOnly, CrashLeaves}
use Rattle.book.specs.Calls.{IsAfterCalls}
use Rattle.book.specs.Kept.{HasTablesOf, IsDurablyAt, IsClean, Kept}
use Rattle.http_message.specs.Heading.{heading}
use Rattle.http_message.specs.Plan.{Planned, plan_for_head}
use Rattle.http_message.specs.Reading.{HasHead, HasNoHead}
use Rattle.http_message.specs.declared.refusals.RequestFault.{RequestFault}
use Rattle.http_message.specs.declared.refusals.RequestFault.TheVariants.{NoHead}
use Rattle.http_exchange.specs.Exchange as exchange
use Rattle.http_exchange.specs.Exchange.{ChannelBytes, asks, interim, unread}
use Rattle.http_exchange.specs.Final.{IsAnswerTold, IsSent, IsFinalTold, of_answer, of_fault, of_no_memory}
use Rattle.http_exchange.specs.Handler.{StatusText, HandlerRequest}
use Rattle.http_exchange.specs.declared.exchanges.Served.{Served}
use Rattle.http_exchange.specs.declared.exchanges.Served.TheVariants.{Answered, Nothing}
use Rattle.http_exchange.specs.declared.handler.HandlerFault.{HandlerFault}
use Rattle.http_exchange.specs.declared.handler.HandlerFault.TheVariants.{Store, Memory}
use Rattle.http_exchange.specs.declared.sending.ChannelFault.{ChannelFault}
use Rattle.http_exchange.specs.declared.sending.ChannelFault.TheVariants.{Reader, Writer}
use Rattle.web.specs.Acts.{Asks, Commands, IsAnsweredShut}
use Rattle.web.specs.Handling.{IsDone, IsHandled}
use Rattle.web.specs.Response.{IsFinal, WholeResponse, no_head}
use Rattle.web.specs.Serving.{AsksOnce, IsBegun, IsBegunOf, IsBrokenOff, IsGiven, IsLeftBy, IsMemoryTold, IsRequestFor, IsServed, IsServedShut, IsStoreTold, StillMeans}
use Rattle.web.proofs.Handled.{or_false, still_honest, still_means}

or_true : (b : Bool) → IsTrue (b || true)
or_true true = refl
or_true false = refl

module _ {S : Type 0} (g : Ghosts S) where
  abbrev handles : Kept S → Kept S → HandlerRequest → Result StatusText HandlerFault → Type 0
  handles old new asked result = IsHandled g old new asked result

  has_failed : (old new : Kept S) (asked : HandlerRequest) → handles old new asked (Err Store) → IsTrue new.failed
  has_failed old new asked it = subst IsTrue (sym it.kept.failed) (or_true old.failed)

  module _ (s : State) (old new : Kept S) (at : IsDurablyAt g old s) where
    all_done : (commands : Commands) → IsDurablyAt g new (Fold s commands) → (HasTablesOf g old s → HasTablesOf g new (Fold s commands)) → IsBegun g s old new commands
    all_done commands done tables =
        let all : take (length commands) commands ≡ commands = take_all (length commands) commands (omega arith) in (
          length commands,
          subst (λ l. IsDurablyAt g new (Fold s l)) (sym all) done,
          λ t. subst (λ l. StillMeans g old new (Fold s l)) (sym all) (still_means g old new (Fold s commands) (tables t)),
        )

    -- ---- what is left by a request, whatever was answered

    left_by : (asked : HandlerRequest) (answer : Result StatusText HandlerFault) → handles old new asked answer → (new ≡ old) ⊎ ((commands : Commands) × Asks asked commands × IsLeftBy g s old new commands)
    left_by asked (Ok a) it =
        let did = it.done s at in
        inr (did.1.0, did.1.1, inl (all_done did.1.0 did.1.2.0 did.1.2.1))
    left_by asked (Err Store) it =
        let did = it.done s at in
        inr (did.0, did.1, inr (has_failed old new asked it, did.2))
    left_by asked (Err Memory) it = go (it.done s at)
      where
        go : IsDone g old new s asked (Err Memory) → (new ≡ old) ⊎ ((commands : Commands) × Asks asked commands × IsLeftBy g s old new commands)
        go (inl same) = inl same
        go (inr did) = inr (did.0, did.1, inl did.2)

    -- ---- one exchange

    module _ (input : List ℕ) (left out out' : ChannelBytes) (code : ℕ) where
      abbrev Ends : Type 0
      Ends = IsGiven g s input left out out' old new code ⊎ (IsStoreTold g s input left out out' new code ⊎ IsMemoryTold g s input left out out' old new code)

      not_failed : new ≡ old → new.failed ≡ old.failed
      not_failed same = ap (λ b. b.failed) same

      -- there was no memory, and nothing was asked
      at_once : 0 < length input → HasNoHead input ⊎ (left ≡ Some (drop 1 input)) → new ≡ old → IsSent [] out out' code (of_no_memory false) → Ends
      at_once some why same sent = inr (inr (record { some = some; status = sent.0; failed = not_failed same; told = inl (why, same, sent.1) }))

      unchanged : (P : Kept S → Type 0) → new ≡ old → P old → P new
      unchanged P same it = subst P (sym same) it

      without_head : 0 < length input → HasNoHead input → exchange.IsSettled handles (Err NoHead) [] false out out' old new code → Ends
      without_head some none (same, inl sent) = inl (record {
        response = no_head;
        is = (some, inl (none, refl));
        status = sent.0;
        written = sent.1;
        left_is = tt;
        failed = not_failed same;
        state = unchanged (λ b. IsDurablyAt g b s) same at;
        tables = λ has. unchanged (λ b. HasTablesOf g b s) same has;
      })
      without_head some none (same, inr sent) = at_once some (inl none) same sent

      module _ (some : 0 < length input) (h : RequestHead) (rest : List ℕ) (head : HasHead input h rest) where
        abbrev p : Planned
        p = plan_for_head (heading h)

        abbrev given : HandlerRequest → StatusText → Commands → WholeResponse
        given asked a commands = record { interim = interim p.step; final = of_answer (Ok a) p.is_head; commands = commands; unread = Some (unread p.step rest) }

        at_head : new ≡ old → left ≡ Some rest → IsSent [] out out' code (of_no_memory p.is_head) → Ends
        at_head same left_is sent = inr (inr (record { some = some; status = sent.0; failed = not_failed same; told = inr (h, rest, head, inl (left_is, same, sent.1)) }))

        at_end : new.failed ≡ old.failed → left ≡ Some (unread p.step rest) → IsSent (interim p.step) out out' code (of_no_memory p.is_head) → IsBegunOf g s input p rest old new → Ends
        at_end failed left_is sent begun = inr (inr (record { some = some; status = sent.0; failed = failed; told = inr (h, rest, head, inr (left_is, sent.1, begun)) }))

        request : (asked : HandlerRequest) (commands : Commands) → asks p.step rest ≡ Ok asked → Asks asked commands → IsRequestFor input p rest asked commands
        request asked commands is listed = record { h = h; head = head; planned = refl; whole = is; listed = listed }

        refused : (fault : RequestFault) → asks p.step rest ≡ Err fault → left ≡ Some (unread p.step rest) → new ≡ old
            → IsFinalTold (interim p.step) out out' code (of_fault fault p.is_head) p.is_head → Ends
        refused fault is left_is same (inl sent) = inl (record {
          response = record { interim = interim p.step; final = of_fault fault p.is_head; commands = []; unread = Some (unread p.step rest) };
          is = (
            some,
            inr (
              h,
              rest,
              head,
              record {
                interim_is = refl;
                final_is = subst (λ a. IsFinal s a p.is_head [] (of_fault fault p.is_head)) (sym is) (refl, refl);
                unread_is = refl;
              },
            ),
          );
          status = sent.0;
          written = sent.1;
          left_is = left_is;
          failed = not_failed same;
          state = unchanged (λ b. IsDurablyAt g b s) same at;
          tables = λ has. unchanged (λ b. HasTablesOf g b s) same has;
        })
        refused fault is left_is same (inr sent) = at_end (not_failed same) left_is sent (inl same)

        answered : IsClean g new → (asked : HandlerRequest) (answer : Result StatusText HandlerFault) → asks p.step rest ≡ Ok asked → left ≡ Some (unread p.step rest)
            → handles old new asked answer → IsAnswerTold (interim p.step) out out' code answer p.is_head → Ends
        answered clean asked (Ok a) is left_is it (inl sent) =
            let did = it.done s at in
            inl (record {
              response = given asked a did.1.0;
              is = (
                some,
                inr (
                  h,
                  rest,
                  head,
                  record {
                    interim_is = refl;
                    final_is = subst (λ q. IsFinal s q p.is_head did.1.0 (of_answer (Ok a) p.is_head)) (sym is) (did.1.1, (a, did.0 clean, refl));
                    unread_is = refl;
                  },
                ),
              );
              status = sent.0;
              written = sent.1;
              left_is = left_is;
              failed = it.kept.failed ∙ sym (or_false old.failed);
              state = did.1.2.0;
              tables = did.1.2.1;
            })
        answered clean asked (Ok a) is left_is it (inr sent) =
            let did = it.done s at in
            at_end (it.kept.failed ∙ sym (or_false old.failed)) left_is sent (inr (asked, did.1.0, request asked did.1.0 is did.1.1, all_done did.1.0 did.1.2.0 did.1.2.1))
        answered clean asked (Err Store) is left_is it sent =
            let did = it.done s at in
            inr (inl (record {
              p = p;
              rest = rest;
              asked = asked;
              commands = did.0;
              request = request asked did.0 is did.1;
              status = sent.0;
              written = sent.1;
              left_is = left_is;
              failed = has_failed old new asked it;
              state = did.2;
            }))
        answered clean asked (Err Memory) is left_is it sent = at_end (it.kept.failed ∙ sym (or_false old.failed)) left_is sent (begun (it.done s at))
          where
            begun : IsDone g old new s asked (Err Memory) → IsBegunOf g s input p rest old new
            begun (inl same) = inl same
            begun (inr did) = inr (asked, did.0, request asked did.0 is did.1, did.2)

        settled : IsClean g new → (a : Result HandlerRequest RequestFault) → asks p.step rest ≡ a → left ≡ Some (unread p.step rest)
            → exchange.IsSettled handles a (interim p.step) p.is_head out out' old new code → Ends
        settled clean (Err fault) is left_is it = refused fault is left_is it.0 it.1
        settled clean (Ok asked) is left_is it = answered clean asked it.0 is left_is it.1 it.2

        with_head : IsClean g new → exchange.Responds handles p (Some rest) left out out' old new code → Ends
        with_head clean (inl it) = settled clean (asks p.step rest) refl it.left_is it.settled
        with_head clean (inr it) = at_head it.unasked it.left_is it.sent

      ends : IsClean g new → exchange.IsExchangeServedOf handles input left out out' old new (Answered code) → Ends
      ends clean (some, inl it) = without_head some it.0 it.1
      ends clean (some, inr (inl it)) = with_head some it.0 it.1 it.2 clean it.3
      ends clean (some, inr (inr it)) = at_once some (inr it.left_is) it.unasked it.sent

    served_so : IsClean g new → (had left out out' : ChannelBytes) (it : Served) → exchange.IsExchangeServed handles had left out out' old new it → IsServed g s had left out out' old new it
    served_so clean None left out out' it said = tt
    served_so clean (Some input) left out out' Nothing said = said
    served_so clean (Some input) left out out' (Answered code) said = ends input left out out' code clean said

    pub served : IsClean g new → (had left out out' : ChannelBytes) (r : Result Served ChannelFault) → IfOk r (λ it. exchange.IsExchangeServed handles had left out out' old new it)
        → IfOk r (λ it. IsServed g s had left out out' old new it)
    served clean had left out out' (Ok it) said = served_so clean had left out out' it said
    served clean had left out out' (Err fault) said = tt

    -- ---- a channel that failed

    broken_at : (input : List ℕ) (out out' : ChannelBytes) → exchange.IsExchangeBrokenOff handles (Some input) out out' old new Writer → IsBrokenOff g s (Some input) out out' old new Writer
    broken_at input out out' (inl same) = inl same
    broken_at input out out' (inr (h, rest, head, may)) = go (asks (plan_for_head (heading h)).step rest) refl may
      where
        go : (a : Result HandlerRequest RequestFault) → asks (plan_for_head (heading h)).step rest ≡ a → exchange.MayHaveAsked handles a old new → IsBrokenOff g s (Some input) out out' old new Writer
        go (Err fault) is same = inl same
        go (Ok asked) is (inl same) = inl same
        go (Ok asked) is (inr (answer, it)) = by (left_by asked answer it)
          where
            by : (new ≡ old) ⊎ ((commands : Commands) × Asks asked commands × IsLeftBy g s old new commands) → IsBrokenOff g s (Some input) out out' old new Writer
            by (inl same) = inl same
            by (inr did) = inr (
              plan_for_head (heading h),
              rest,
              asked,
              did.0,
              record { h = h; head = head; planned = refl; whole = is; listed = did.1 },
              did.2,
            )

    broken_so : (had out out' : ChannelBytes) (fault : ChannelFault) → exchange.IsExchangeBrokenOff handles had out out' old new fault → IsBrokenOff g s had out out' old new fault
    broken_so had out out' Reader said = said
    broken_so None out out' Writer said = tt
    broken_so (Some input) out out' Writer said = broken_at input out out' said

    pub broken_off : (had out out' : ChannelBytes) (r : Result Served ChannelFault) → IfErr r (λ fault. exchange.IsExchangeBrokenOff handles had out out' old new fault)
        → IfErr r (λ fault. IsBrokenOff g s had out out' old new fault)
    broken_off had out out' (Ok it) said = tt
    broken_off had out out' (Err fault) said = broken_so had out out' fault said

    -- ---- whatever the input is

    pub once : exchange.AsksHandlerOnce handles old new → AsksOnce g s old new
    once (inl same) = inl same
    once (inr (asked, (answer, it))) = by (left_by asked answer it)
      where
        by : (new ≡ old) ⊎ ((commands : Commands) × Asks asked commands × IsLeftBy g s old new commands) → AsksOnce g s old new
        by (inl same) = inl same
        by (inr did) = inr (asked, did.0, did.1, did.2)

    pub honest : exchange.AsksHandlerOnce handles old new → Honest s → CrashLeaves (state g new.held) Honest
    honest (inl same) fair = subst (λ b. CrashLeaves (state g b.held) Honest) (sym same) (still_honest g old s at fair)
    honest (inr (asked, (answer, it))) fair = it.kept.honest s at fair

  module _ (old new : Kept S) where
    pub unchanged_if_shut : exchange.AsksHandlerOnce handles old new → IsTrue old.failed → new ≡ old
    unchanged_if_shut (inl same) failed = same
    unchanged_if_shut (inr (asked, (answer, it))) failed = it.kept.shut failed

    -- ---- what a book that has failed answers

    module _ (failed : IsTrue old.failed) where
      abbrev shut : Kept S → Kept S → HandlerRequest → Result StatusText HandlerFault → Type 0
      shut was now asked answer = IsAnsweredShut asked answer

      settled_shut : (a : Result HandlerRequest RequestFault) (front : List ℕ) (is_head : Bool) (out out' : ChannelBytes) (code : ℕ)
          → exchange.IsSettled handles a front is_head out out' old new code → exchange.IsSettled shut a front is_head out out' old new code
      settled_shut (Err fault) front is_head out out' code it = it
      settled_shut (Ok asked) front is_head out out' code (answer, it, told) = (answer, it.shut failed, told)

      short_shut : (rest : List ℕ) (is_head : Bool) (left out out' : ChannelBytes) (code : ℕ)
          → exchange.IsShort handles rest is_head left out out' old new code → exchange.IsShort shut rest is_head left out out' old new code
      short_shut rest is_head left out out' code it = record { left_is = it.left_is; unasked = it.unasked; sent = it.sent }

      responds_shut : (p : Planned) (rest : List ℕ) (left out out' : ChannelBytes) (code : ℕ)
          → exchange.Responds handles p (Some rest) left out out' old new code → exchange.Responds shut p (Some rest) left out out' old new code
      responds_shut p rest left out out' code (inl it) =
          inl (record { left_is = it.left_is; settled = settled_shut (asks p.step rest) (interim p.step) p.is_head out out' code it.settled })
      responds_shut p rest left out out' code (inr it) = inr (short_shut rest p.is_head left out out' code it)

      input_shut : (input : List ℕ) (left out out' : ChannelBytes) (it : Served)
          → exchange.IsExchangeServedOf handles input left out out' old new it → exchange.IsExchangeServedOf shut input left out out' old new it
      input_shut input left out out' Nothing said = said
      input_shut input left out out' (Answered code) (some, inl (none, told)) = (some, inl (none, settled_shut (Err NoHead) [] false out out' code told))
      input_shut input left out out' (Answered code) (some, inr (inl (h, rest, head, it))) =
          (some, inr (inl (h, rest, head, responds_shut (plan_for_head (heading h)) rest left out out' code it)))
      input_shut input left out out' (Answered code) (some, inr (inr it)) = (some, inr (inr (short_shut (drop 1 input) false left out out' code it)))

      served_shut_so : (had left out out' : ChannelBytes) (it : Served) → exchange.IsExchangeServed handles had left out out' old new it → IsServedShut had left out out' old new it
      served_shut_so None left out out' it said = tt
      served_shut_so (Some input) left out out' it said = input_shut input left out out' it said

      pub served_shut : (had left out out' : ChannelBytes) (r : Result Served ChannelFault) → IfOk r (λ it. exchange.IsExchangeServed handles had left out out' old new it)
          → IfOk r (λ it. IsServedShut had left out out' old new it)
      served_shut had left out out' (Ok it) said = served_shut_so had left out out' it said
      served_shut had left out out' (Err fault) said = tt

    pub clean : exchange.AsksHandlerOnce handles old new → IsClean g new → IsClean g old
    clean (inl same) now = subst (λ b. IsClean g b) same now
    clean (inr (asked, (answer, it))) now = it.kept.disk now

    pub calls : exchange.AsksHandlerOnce handles old new → IsAfterCalls g old new
    calls (inl same) = ([], same)
    calls (inr (asked, (answer, it))) = it.kept.calls

    pub others : exchange.AsksHandlerOnce handles old new → CrashAddsOnly (state g old.held) (state g new.held) (KeepOthers (state g old.held).now)
    others (inl same) = subst (λ b. CrashAddsOnly (state g old.held) (state g b.held) (KeepOthers (state g old.held).now)) (sym same) (record { crash = λ clean trees may. inl may })
    others (inr (asked, (answer, it))) = it.kept.others_left
