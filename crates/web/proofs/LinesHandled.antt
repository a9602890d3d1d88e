-- From the lines that were asked in turn to the response.
use Rattle.std.proofs.Common.{◌≡◌, ◌<◌, ◌∙◌, ap, sym, subst, refl, inl, inr, arith, ℕ, List, [], ◌∷◌, length, map, take, string_bytes, Option, Some, None, Result, Ok, Err}
use Rattle.std.proofs.lemmas.List.{take_all}
use Rattle.std.proofs.lemmas.Option.{slice_get_within}
use Rattle.std.specs.Global.{Global}
use Rattle.std.specs.Prelude.{String}
use Rattle.sqlite.specs.Held.{state}
use Rattle.sqlite_trees.specs.declared.store.Store.{Ghosts}
use Rattle.roster.specs.Folds.{Asked, Fold, Replies, ReplyOrRefusal}
use Rattle.roster.specs.State.{State}
use Rattle.state_rows.specs.declared.fault.StoreFault.{StoreFault}
use Rattle.state_rows.specs.declared.fault.StoreFault.TheVariants as fault
use Rattle.book.specs.Answered.{IsAnswered}
use Rattle.book.specs.Calls.{HasRead, IsAfterCalls}
use Rattle.book.specs.Kept.{Kept, result_of}
use Rattle.book.specs.declared.answer.Answer.{Answer}
use Rattle.book.proofs.States.{one_of_either}
use Rattle.asking.proofs.Chains.{AreAskedUpTo, all_lines, length-replies, lines_to_fault, lines_untold}
use Rattle.asking.proofs.ChecksTaken.{AreAllChecked, all_checks, checks_to_fault, checks_untold}
use Rattle.asking.specs.Lines.{IsEachAsked, IsEachChecked, AreTaken, answers_in, answers_text, commands_in, requests_in, told_of}
use Rattle.asking.specs.Requests.{HasChecked, ReadRequest}
use Rattle.asking.specs.declared.answers.AskFault.{AskFault}
use Rattle.asking.specs.declared.answers.AskFault.TheVariants as ask
use Rattle.http_message.specs.declared.plan.Submission.TheVariants.{Lines, LineChecks}
use Rattle.http_exchange.specs.Handler.{StatusText, submit}
use Rattle.http_exchange.specs.declared.handler.HandlerFault.{HandlerFault}
use Rattle.http_exchange.specs.declared.handler.HandlerFault.TheVariants.{Store, Memory}
use Rattle.web.specs.Answers.{json, lines_answer, response_to_lines}
use Rattle.web.specs.Handling.{HoldsWhateverIsAsked, IsHandled, answers_store_fault}
use Rattle.web.proofs.Handled.{kept_so, no_memory, none_answered, shows, still_means, unasked_kept}

nothing_in : {A : Type 0} (l : List A) → length l ≡ 0 → l ≡ []
nothing_in [] none = refl
nothing_in (a ∷ l) none = absurd (omega (arith, none))

module _ {S : Type 0} (g : Ghosts S) (old new : Kept S) (calls : IsAfterCalls g old new) (body : List ℕ) where
  abbrev requests : List ReadRequest
  requests = requests_in body

  abbrev commands : List Asked
  commands = commands_in requests

  -- the text of what is told
  text_is : (text : String Global) (answers : List Answer) (told : List ReplyOrRefusal) → string_bytes text ≡ answers_text (told_of requests (map result_of answers)) → map result_of answers ≡ told
      → json 200 (string_bytes text) ≡ lines_answer (told_of requests told)
  text_is text answers told is same = ap (json 200) is ∙ ap (λ l. lines_answer (told_of requests l)) same

  -- ---- Lines that are done

  pub lines_handled : (r : Result (String Global) AskFault) → IsEachAsked g old new body r → IsHandled g old new (submit Lines body) (response_to_lines r)
  lines_handled (Ok text) it =
      let up = all_lines g old new calls requests text it in
      record {
        kept = record { failed = up.failed; shut = λ f. (up.shut f).1; disk = up.disk; honest = up.honest; others_left = up.others_left; calls = calls };
        shut = λ f.
            let none = (up.shut f).0 in
            (nothing_in commands (sym it.ends.0 ∙ ap (λ (l : List Answer). length l) none), text_is text it.answers [] it.ends.2 (ap (map result_of) none));
        done = λ s at.
            let whole : length it.answers ≡ length (Replies s commands) = it.ends.0 ∙ sym (length-replies s commands) in
            let all : take (length it.answers) (Replies s commands) ≡ Replies s commands = ap (λ n. take n (Replies s commands)) whole ∙ take_all (length (Replies s commands)) (Replies s commands) (omega arith) in
            ((λ c. text_is text it.answers (Replies s commands) it.ends.2 (up.replies s at c ∙ all)), (commands, refl, (up.outcome s at, λ has. up.shown s at has refl)));
      }
  lines_handled (Err (ask.Book fault.Store)) it =
      let up = lines_to_fault g old new calls requests fault.Store it in
      record {
        kept = record { failed = up.failed; shut = λ f. (up.shut f).1; disk = up.disk; honest = up.honest; others_left = up.others_left; calls = calls };
        shut = λ _. omega (arith, up.stopped refl);
        done = λ s at. (commands, refl, (length it.answers, up.outcome s at));
      }
  lines_handled (Err (ask.Book fault.Memory)) it =
      let up = lines_to_fault g old new calls requests fault.Memory it in
      record {
        kept = record { failed = up.failed; shut = λ f. (up.shut f).1; disk = up.disk; honest = up.honest; others_left = up.others_left; calls = calls };
        shut = λ _. tt;
        done = λ s at. inr (commands, refl, (length it.answers, up.outcome s at, λ has. (up.still_shown s at has refl, up.still_open refl)));
      }
  lines_handled (Err ask.Memory) it =
      let up = lines_untold g old new calls requests it in
      record {
        kept = record { failed = up.failed; shut = λ f. (up.shut f).1; disk = up.disk; honest = up.honest; others_left = up.others_left; calls = calls };
        shut = λ _. tt;
        done = λ s at. inr (commands, refl, (length it.answers, up.outcome s at, λ has. still_means g old new (Fold s (take (length it.answers) commands)) (up.shown s at has refl)));
      }

  -- ---- Lines that are only checked

  -- one or more were answered
  all_told : (text : String Global) (answers : List Answer) → string_bytes text ≡ answers_text (told_of requests (map result_of answers)) → AreAllChecked g old new commands answers
      → IsHandled g old new (submit LineChecks body) (Ok (json 200 (string_bytes text)))
  all_told text answers is it = record {
    kept = kept_so g old new calls (Ok answers) it.call (Ok (json 200 (string_bytes text))) refl;
    shut = λ f. none_answered answers (it.call.shut f).0;
    done = λ s at. ((λ c. text_is text answers (answers_in s commands) is (it.replies s at c)), ([], refl, (it.call.kept s at, λ has. it.tables s at has)));
  }

  -- none was asked
  none_told : (text : String Global) (answers : List Answer) → string_bytes text ≡ answers_text (told_of requests (map result_of answers)) → commands ≡ [] → answers ≡ []
      → IsHandled g old old (submit LineChecks body) (Ok (json 200 (string_bytes text)))
  none_told text answers is none unanswered =
      let tells = text_is text answers [] is (ap (map result_of) unanswered) in
      record {
        kept = unasked_kept g old (Ok (json 200 (string_bytes text))) refl;
        shut = λ _. (none, tells);
        done = λ s at. ((λ _. tells ∙ ap (λ (l : List Asked). lines_answer (told_of requests (answers_in s l))) (sym none)), ([], refl, (at, λ has. has)));
      }

  -- there was no memory to tell of them
  all_untold : (asked : List Asked) (answers : List Answer) → AreAllChecked g old new asked answers → IsHandled g old new (submit LineChecks body) (Err Memory)
  all_untold asked answers it = record {
    kept = kept_so g old new calls (Ok answers) it.call (Err Memory) refl;
    shut = λ _. tt;
    done = λ s at. inr ([], refl, (0, it.call.kept s at, λ has. still_means g old new s (it.tables s at has)));
  }

  pub checks_handled : (r : Result (String Global) AskFault) → IsEachChecked g old new body r → IsHandled g old new (submit LineChecks body) (response_to_lines r)
  checks_handled (Ok text) it = elim (all_checks g old new requests text it) [
    | inl (same, none, unanswered) ↦ subst (λ (b : Kept S). IsHandled g old b (submit LineChecks body) (Ok (json 200 (string_bytes text)))) (sym same) (none_told text it.answers it.ends.2 none unanswered)
    | inr all ↦ all_told text it.answers it.ends.2 all
  ]
  checks_handled (Err (ask.Book fault.Store)) it =
      let call = checks_to_fault g old new requests fault.Store it in
      let met : Result Answer StoreFault = Err fault.Store in
      record {
        kept = kept_so g old new calls met call (Err Store) refl;
        shut = λ _. omega (arith, slice_get_within commands (length it.answers) it.ends.0 it.ends.1);
        done = λ s at. ([], refl, (0, one_of_either (state g new.held) s s (call.kept s at)));
      }
  checks_handled (Err (ask.Book fault.Memory)) it =
      let call = checks_to_fault g old new requests fault.Memory it in
      let met : Result Answer StoreFault = Err fault.Memory in
      record {
        kept = kept_so g old new calls met call (Err Memory) refl;
        shut = λ _. tt;
        done = λ s at. inr ([], refl, (0, call.kept s at, λ has. (shows g old new calls met call s has, call.unchanged.still_open)));
      }
  checks_handled (Err ask.Memory) it = elim (checks_untold g old new requests it) [
    | inl (same, none, unanswered) ↦ subst (λ (b : Kept S). IsHandled g old b (submit LineChecks body) (Err Memory)) (sym same) (no_memory g old (submit LineChecks body))
    | inr all ↦ all_untold _ it.answers all
  ]
