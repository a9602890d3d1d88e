-- What the calls of a book say, as calls in one form.
use Rattle.std.proofs.Common.{◌≡◌, refl, sym, ap, subst, ◌∙◌, ◌||◌, List, [], ◌∷◌, ◌++◌, length, map, take, None, Result, Ok, Err}
use Rattle.std.proofs.lemmas.List.{length-map}
use Rattle.sqlite.specs.Held.{state}
use Rattle.sqlite_trees.specs.declared.store.Store.{Ghosts}
use Rattle.command.specs.Instructions.{IsMade}
use Rattle.roster.specs.Folds.{Asked, Replies, ReplyOrRefusal}
use Rattle.roster.specs.Laws.{AreMade}
use Rattle.roster.specs.State.{State}
use Rattle.state_rows.specs.declared.fault.StoreFault.{StoreFault}
use Rattle.state_rows.specs.declared.fault.StoreFault.TheVariants.{Store, Memory}
use Rattle.book.specs.Answered.{IsAnswered}
use Rattle.book.specs.Calls.{AnswersAreCalls, AreCalls, Call, HasRead, IsAfterCalls, IsCall, call_for_many, call_for_one, call_for_reading}
use Rattle.book.specs.Kept.{Ends, IsClean, IsDurablyAt, Kept, is_store_fault, is_some_store_fault, result_of}
use Rattle.book.specs.Ran.{HasRun}
use Rattle.book.specs.Sessions.{fault_of}
use Rattle.book.specs.declared.answer.Answer.{Answer}
use Rattle.book.specs.declared.answer.Run.{Run}
use Rattle.book.proofs.CommandLists.{each_of}
use Rattle.book.proofs.States.{one_of_either}

same_fault : {A : Type 0} (result : Result A StoreFault) → is_store_fault result ≡ is_some_store_fault (fault_of result)
same_fault (Ok a) = refl
same_fault (Err Store) = refl
same_fault (Err Memory) = refl

module _ {S : Type 0} (g : Ghosts S) where
  -- one command
  one_whole : (asked : Asked) (result : Result Answer StoreFault) → (call_for_one asked result).fault ≡ None → length (call_for_one asked result).answers ≡ 1
  one_whole asked (Ok answer) none = refl
  one_whole asked (Err fault) none = absurd (cc)

  one_shut : (old new : Kept S) (asked : Asked) (result : Result Answer StoreFault) → result ≡ Err Store → new ≡ old → ((call_for_one asked result).answers ≡ []) × (new ≡ old)
  one_shut old new asked (Ok answer) is same = absurd (cc)
  one_shut old new asked (Err fault) is same = (refl, same)

  one_replies : (old new : Kept S) (asked : Asked) (result : Result Answer StoreFault) → IsAnswered g old new asked result → (s : State) → IsDurablyAt g old s → IsClean g new →
      (call_for_one asked result).answers ≡ take (length (call_for_one asked result).answers) (Replies s (asked ∷ []))
  one_replies old new (key, instruction) (Ok answer) is s at clean = ap (λ (r : ReplyOrRefusal). r ∷ []) (is.reply s at clean)
  one_replies old new asked (Err fault) is s at clean = refl

  one_ends : (old new : Kept S) (asked : Asked) (result : Result Answer StoreFault) → IsAnswered g old new asked result → (s : State) → IsDurablyAt g old s →
      Ends (state g new.held) s (asked ∷ []) (length (call_for_one asked result).answers) (fault_of result)
  one_ends old new asked (Ok answer) is s at = is.answered s at
  one_ends old new asked (Err Memory) is s at = is.memory s at refl
  one_ends old new asked (Err Store) is s at = is.store s at refl

  pub is_one_call : {old new : Kept S} (asked : Asked) (result : Result Answer StoreFault) → IsMade asked.1 → IsAnswered g old new asked result → IsCall g old (call_for_one asked result) new
  is_one_call {old} {new} asked result made is = record {
    made = each_of (asked ∷ []) (made, tt);
    whole = one_whole asked result;
    failed = is.failed ∙ ap (λ b. old.failed || b) (same_fault result);
    shut = λ shut. let it = is.shut shut in one_shut old new asked result it.0 it.1;
    disk = is.disk;
    replies = one_replies old new asked result is;
    outcome = one_ends old new asked result is;
  }

  -- commands in turn
  pub is_run_call : {old new : Kept S} (commands : List Asked) (run : Run) → AreMade commands → HasRun g old new commands run → IsCall g old (call_for_many commands run) new
  is_run_call {old} {new} commands run made is =
      let many : length (map result_of run.answers.items) ≡ length run.answers.items = length-map run.answers.items result_of in
      record {
        made = made;
        whole = λ none. many ∙ is.whole none;
        failed = is.failed;
        shut = λ shut. let it = is.shut shut in (ap (map result_of) it.1, it.2);
        disk = is.disk;
        replies = λ s at clean. is.replies s at clean ∙ ap (λ n. take n (Replies s commands)) (sym many);
        outcome = λ s at. subst (λ n. Ends (state g new.held) s commands n run.fault) (sym many) (is.outcome s at);
      }

  -- a call that keeps nothing
  reading_ends : {A : Type 0} (new : Kept S) (s : State) (result : Result A StoreFault) → IsDurablyAt g new s → Ends (state g new.held) s [] 0 (fault_of result)
  reading_ends new s (Ok a) at = at
  reading_ends new s (Err Memory) at = at
  reading_ends new s (Err Store) at = one_of_either (state g new.held) s s at

  pub is_reading_call : {A : Type 0} {old new : Kept S} (result : Result A StoreFault) → HasRead g old new result → IsCall g old (call_for_reading result) new
  is_reading_call {A} {old} {new} result is = record {
    made = each_of [] tt;
    whole = λ _. refl;
    failed = is.failed ∙ ap (λ b. old.failed || b) (same_fault result);
    shut = λ it. (refl, (is.shut it).1);
    disk = is.unchanged.nothing_new.disk;
    replies = λ _ _ _. refl;
    outcome = λ s at. reading_ends new s result (is.kept s at);
  }

  pub answers_are_calls : AnswersAreCalls g
  answers_are_calls = record {
    one = λ old new asked result made is. is_one_call asked result made is;
    many = λ old new commands run made is. is_run_call commands run made is;
    report = λ old new result is. is_reading_call result is;
    count = λ old new result is. is_reading_call result is;
    check = λ old new result is. is_reading_call result is;
  }

  -- calls in turn
  pub no_calls : {old new : Kept S} → new ≡ old → IsAfterCalls g old new
  no_calls same = ([], same)

  pub one_call : {old new : Kept S} (call : Call) → IsCall g old call new → IsAfterCalls g old new
  one_call {old} {new} call is = (call ∷ [], (new, is, refl))

  join_calls : (calls more : List Call) (old mid new : Kept S) → AreCalls g old calls mid → AreCalls g mid more new → AreCalls g old (calls ++ more) new
  join_calls [] more old mid new same are = subst (λ (b : Kept S). AreCalls g b more new) same are
  join_calls (call ∷ calls) more old mid new first are = (first.0, first.1, join_calls calls more first.0 mid new first.2 are)

  pub then_calls : {old mid new : Kept S} → IsAfterCalls g old mid → IsAfterCalls g mid new → IsAfterCalls g old new
  then_calls {old} {mid} {new} first then = (first.0 ++ then.0, join_calls first.0 then.0 old mid new first.1 then.1)
