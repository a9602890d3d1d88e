-- From the parts of a schedule that were asked in turn to the response.
use Rattle.std.proofs.Common.{◌≡◌, ◌<◌, ◌∙◌, ◌+◌, ◌||◌, if◌then◌else◌, ap, sym, subst, refl, inl, inr, arith, ℕ, suc, Bool, true, false, List, [], ◌∷◌, ◌++◌, append-nil, length, map, nat_lt, take, string_bytes, codes, Option, Some, None, Result, Ok, Err}
use Rattle.std.proofs.lemmas.Bool.Decides.{nat_tests}
use Rattle.std.proofs.lemmas.List.{append_assoc, take_all}
use Rattle.std.specs.Bool.{⊤}
use Rattle.std.specs.List.{flat_map}
use Rattle.sqlite.specs.Held.{state}
use Rattle.sqlite_trees.specs.declared.store.Store.{Ghosts}
use Rattle.values.specs.declared.memory_fault.MemoryFault.{MemoryFault}
use Rattle.duty.specs.Plans.{Plan}
use Rattle.stored_json.specs.declared.fault.CodecFault.{CodecFault}
use Rattle.stored_json.specs.declared.fault.CodecFault.TheVariants.{BadCsv}
use Rattle.roster.specs.Folds.{Asked, Fold, Replies, ReplyOrRefusal, import, next}
use Rattle.roster.specs.State.{State}
use Rattle.state_rows.specs.declared.fault.StoreFault.{StoreFault}
use Rattle.state_rows.specs.declared.fault.StoreFault.TheVariants as fault
use Rattle.book.specs.Calls.{IsAfterCalls}
use Rattle.book.specs.Kept.{IsDurablyAt, IsInDoubt, Kept, result_of}
use Rattle.book.specs.declared.answer.Answer.{Answer}
use Rattle.book.proofs.States.{one_of_either}
use Rattle.asking.proofs.Chains.{AreAskedUpTo, all_parts, parts_heard, parts_to_fault}
use Rattle.asking.proofs.Parts.{schedule_made}
use Rattle.asking.specs.Answers.{answer_json, with_commas}
use Rattle.asking.specs.Schedules.{HasHeard, IsScheduleAsked}
use Rattle.asking.specs.declared.schedules.NotAllAsked.{NotAllAsked}
use Rattle.asking.specs.declared.schedules.NotAllAsked.TheVariants.{Unread, Ask, Unheard}
use Rattle.asking.specs.declared.answers.AskFault.{AskFault}
use Rattle.asking.specs.declared.answers.AskFault.TheVariants as ask
use Rattle.http_message.specs.declared.plan.Submission.TheVariants.{Import}
use Rattle.http_exchange.specs.Handler.{StatusText, submit}
use Rattle.http_exchange.specs.declared.handler.HandlerFault.{HandlerFault}
use Rattle.http_exchange.specs.declared.handler.HandlerFault.TheVariants.{Store, Memory}
use Rattle.web.specs.Answers.{TellsAnswer, fault_answer, handler_fault_of, json, parts_answer, parts_text}
use Rattle.web.specs.Handling.{HoldsWhateverIsAsked, IsHandled, IsPartAdded, answers_store_fault}
use Rattle.web.specs.Serving.{StillMeans}
use Rattle.web.specs.declared.parts.PartsText.{PartsText}
use Rattle.web.proofs.Handled.{AreAdded, no_memory, schedule_read, schedule_unread, still_means}

-- ---- what was heard

-- the parts from the second on, each after a comma
others_heard : (part : ℕ) (answers : List Answer) (old new : PartsText) → 1 < part → HasHeard IsPartAdded old part answers new
    → string_bytes new.text ≡ string_bytes old.text ++ flat_map (λ t. codes "," ++ t) (map answer_json (map result_of answers))
others_heard part [] old new past same = ap (λ (p : PartsText). string_bytes p.text) same ∙ sym (append-nil (string_bytes old.text))
others_heard part (answer ∷ answers) old new past (mid, added, rest) =
    let text = codes "," ++ answer_json (result_of answer) in
    let others = flat_map (λ t. codes "," ++ t) (map answer_json (map result_of answers)) in
    let later : nat_lt 1 part ≡ true = grind (arith, nat_tests) in
    let with_comma = subst (λ b. string_bytes mid.text ≡ string_bytes old.text ++ ((if b then codes "," else []) ++ answer_json (result_of answer))) later added in
    others_heard (part + 1) answers mid new (omega (arith, past)) rest
    ∙ ap (λ t. t ++ others) with_comma
    ∙ append_assoc (string_bytes old.text) text others

all_heard : (answers : List Answer) (old new : PartsText) → HasHeard IsPartAdded old 1 answers new
    → string_bytes new.text ≡ string_bytes old.text ++ with_commas (map answer_json (map result_of answers))
all_heard [] old new same = ap (λ (p : PartsText). string_bytes p.text) same ∙ sym (append-nil (string_bytes old.text))
all_heard (answer ∷ answers) old new (mid, added, rest) =
    let text = answer_json (result_of answer) in
    let others = flat_map (λ t. codes "," ++ t) (map answer_json (map result_of answers)) in
    others_heard 2 answers mid new (omega arith) rest
    ∙ ap (λ t. t ++ others) added
    ∙ append_assoc (string_bytes old.text) text others

-- the whole text
whole_text : (old new : PartsText) (answers : List ReplyOrRefusal) → string_bytes old.text ≡ codes "{\"parts\":[" → string_bytes new.text ≡ string_bytes old.text ++ with_commas (map answer_json answers)
    → string_bytes new.text ++ codes "]}" ≡ parts_text answers
whole_text old new answers begun heard =
    ap (λ t. t ++ codes "]}") (heard ∙ ap (λ t. t ++ with_commas (map answer_json answers)) begun)
    ∙ append_assoc (codes "{\"parts\":[") (with_commas (map answer_json answers)) (codes "]}")

-- ---- what became of the parts

length-replies : (s : State) (l : List Asked) → length (Replies s l) ≡ length l
length-replies s [] = refl
length-replies s ((key, instruction) ∷ l) = ap suc (length-replies (next s (key, instruction)) l)

or_true : (b : Bool) → (b || true) ≡ true
or_true true = refl
or_true false = refl

module _ {S : Type 0} (g : Ghosts S) (old new : Kept S) (calls : IsAfterCalls g old new) (number : ℕ) (plans : List Plan) where
  abbrev parts : List Asked
  parts = import number plans

  all_taken : take (length parts) parts ≡ parts
  all_taken = take_all (length parts) parts (omega arith)

  -- what is said whatever is asked
  kept : {commands : List Asked} {answers : List Answer} {f : Option StoreFault} (told : Result StatusText HandlerFault) → AreAskedUpTo g old new commands answers f
      → new.failed ≡ (old.failed || answers_store_fault told) → HoldsWhateverIsAsked g old new told
  kept told it failed = record {
    failed = failed;
    shut = λ shut. (it.shut shut).1;
    disk = it.disk;
    honest = it.honest;
    others_left = it.others_left;
    calls = calls;
  }

  -- all were answered, and their answers are reported
  told_all : (answers : List Answer) (answer : StatusText) → new.failed ≡ false → answer ≡ parts_answer (map result_of answers) → AreAskedUpTo g old new parts answers None
      → AreAdded g old new number plans (Ok answer)
  told_all answers answer unfailed tells it = record {
    kept = kept (Ok answer) it it.failed;
    shut = λ shut. absurd (let never : false ≡ true = sym unfailed ∙ it.failed ∙ ap (λ b. b || false) shut in cc);
    done = λ s at.
        let whole : length answers ≡ length (Replies s parts) = it.whole refl ∙ sym (length-replies s parts) in
        let all : take (length answers) (Replies s parts) ≡ Replies s parts = ap (λ n. take n (Replies s parts)) whole ∙ take_all (length (Replies s parts)) (Replies s parts) (omega arith) in
        ((λ c. tells ∙ ap parts_answer (it.replies s at c ∙ all)), (it.outcome s at, λ has. it.shown s at has refl));
  }

  -- there was no memory to report them
  untold : (answers : List Answer) → AreAskedUpTo g old new parts answers None → AreAdded g old new number plans (Err Memory)
  untold answers it = record {
    kept = kept (Err Memory) it it.failed;
    shut = λ _. tt;
    done = λ s at. (
      length parts,
      subst (λ (l : List Asked). IsDurablyAt g new (Fold s l)) (sym all_taken) (it.outcome s at),
      λ has. subst (λ (l : List Asked). StillMeans g old new (Fold s l)) (sym all_taken) (still_means g old new (Fold s parts) (it.shown s at has refl)),
    );
  }

  -- the book had failed before
  of_failed : (answers : List Answer) → new.failed ≡ true → AreAskedUpTo g old new parts answers None → AreAdded g old new number plans (Err Store)
  of_failed answers failed it = record {
    kept = kept (Err Store) it (failed ∙ sym (or_true old.failed));
    shut = λ _. tt;
    done = λ s at. (
      length parts,
      subst (λ (l : List Asked). IsInDoubt g new (Fold s l) (Fold s (take (length parts + 1) parts))) (sym all_taken)
          (one_of_either (state g new.held) (Fold s parts) (Fold s (take (length parts + 1) parts)) (it.outcome s at)),
    );
  }

  -- the book met a fault at one
  at_fault : (answers : List Answer) (f : StoreFault) → AreAskedUpTo g old new parts answers (Some f) → AreAdded g old new number plans (Err (handler_fault_of (ask.Book f)))
  at_fault answers fault.Store it = record {
    kept = kept (Err Store) it it.failed;
    shut = λ _. tt;
    done = λ s at. (length answers, it.outcome s at);
  }
  at_fault answers fault.Memory it = record {
    kept = kept (Err Memory) it it.failed;
    shut = λ _. tt;
    done = λ s at. (length answers, it.outcome s at, λ has. (it.still_shown s at has refl, it.still_open refl));
  }

  -- this many were answered, and there was no memory to report the last answer
  unheard_at : (n : ℕ) (answers : List Answer) → AreAskedUpTo g old new (take n parts) answers None → AreAdded g old new number plans (Err Memory)
  unheard_at n answers it = record {
    kept = kept (Err Memory) it it.failed;
    shut = λ _. tt;
    done = λ s at. (n, it.outcome s at, λ has. still_means g old new (Fold s (take n parts)) (it.shown s at has refl));
  }

-- ---- what became of a schedule

module _ {S : Type 0} (g : Ghosts S) (old new : Kept S) (calls : IsAfterCalls g old new) (begun heard : PartsText) (number : ℕ) (body : List ℕ) where
  abbrev Asked_so : Result ⊤ (NotAllAsked MemoryFault) → Type 0
  Asked_so result = IsScheduleAsked g IsPartAdded old new begun heard number body result

  abbrev Handled_so : Result StatusText HandlerFault → Type 0
  Handled_so told = IsHandled g old new (submit (Import number) body) told

  -- all parts were answered, and are reported
  pub added : string_bytes begun.text ≡ codes "{\"parts\":[" → new.failed ≡ false → (told : Result StatusText HandlerFault) → TellsAnswer (json 200 (string_bytes heard.text ++ codes "]}")) told → Asked_so (Ok tt) → Handled_so told
  added begins unfailed told tells (inl (inl (line, at_fault, never), same, still)) = absurd (cc)
  added begins unfailed told tells (inl (inr never, same, still)) = absurd (cc)
  added begins unfailed (Ok answer) tells (inr (plans, is, it)) =
      let asked = all_parts g IsPartAdded old new begun heard (import number plans) (schedule_made number body plans is) tt it in
      let text = all_heard it.answers begun heard (subst (λ (p : PartsText). HasHeard IsPartAdded begun 1 it.answers p) (sym it.ends.2) it.all_heard) in
      schedule_read g old new number body plans (Ok answer) is
      (told_all g old new calls number plans it.answers answer unfailed (tells ∙ ap (json 200) (whole_text begun heard (map result_of it.answers) begins text)) asked)
  added begins unfailed (Err Store) never (inr asked) = absurd never
  added begins unfailed (Err Memory) tells (inr (plans, is, it)) =
      schedule_read g old new number body plans (Err Memory) is
      (untold g old new calls number plans it.answers (all_parts g IsPartAdded old new begun heard (import number plans) (schedule_made number body plans is) tt it))

  -- or the book had failed
  pub added_by_failed : new.failed ≡ true → Asked_so (Ok tt) → Handled_so (Err Store)
  added_by_failed failed (inl (inl (line, at_fault, never), same, still)) = absurd (cc)
  added_by_failed failed (inl (inr never, same, still)) = absurd (cc)
  added_by_failed failed (inr (plans, is, it)) =
      schedule_read g old new number body plans (Err Store) is
      (of_failed g old new calls number plans it.answers failed (all_parts g IsPartAdded old new begun heard (import number plans) (schedule_made number body plans is) tt it))

  -- a record was at fault
  pub not_read : (f : CodecFault) (told : Result StatusText HandlerFault) → TellsAnswer (fault_answer f) told → Asked_so (Err (Unread f)) → Handled_so told
  not_read f told tells (inl (inl (line, at_fault, is), same, still)) =
      let bad : f ≡ BadCsv line = cc in
      subst (λ (b : Kept S). IsHandled g old b (submit (Import number) body) told) (sym same) (schedule_unread g old number body f line told bad at_fault tells)
  not_read f told tells (inl (inr never, same, still)) = absurd (cc)
  not_read f told tells (inr (plans, is, it)) = absurd it.ends

  -- the book met a fault at a part, or there was no memory to read the schedule
  pub stopped : (f : AskFault) → Asked_so (Err (Ask f)) → Handled_so (Err (handler_fault_of f))
  stopped f (inl (inl (line, at_fault, never), same, still)) = absurd (cc)
  stopped f (inl (inr is, same, still)) =
      let memory : f ≡ ask.Memory = cc in
      subst (λ (f : AskFault). Handled_so (Err (handler_fault_of f))) (sym memory)
      (subst (λ (b : Kept S). IsHandled g old b (submit (Import number) body) (Err Memory)) (sym same) (no_memory g old (submit (Import number) body)))
  stopped ask.Memory (inr (plans, is, it)) = absurd it.ends
  stopped (ask.Book f) (inr (plans, is, it)) =
      schedule_read g old new number body plans (Err (handler_fault_of (ask.Book f))) is
      (at_fault g old new calls number plans it.answers f (parts_to_fault g IsPartAdded old new begun heard (import number plans) (schedule_made number body plans is) f it))

  -- there was no memory to report what a part was answered
  pub unheard : (f : MemoryFault) → Asked_so (Err (Unheard f)) → Handled_so (Err Memory)
  unheard f (inl (inl (line, at_fault, never), same, still)) = absurd (cc)
  unheard f (inl (inr never, same, still)) = absurd (cc)
  unheard f (inr (plans, is, it)) =
      schedule_read g old new number body plans (Err Memory) is
      (unheard_at g old new calls number plans (length it.answers + 1) (it.answers ++ it.ends.2 ∷ []) (parts_heard g IsPartAdded old new begun heard (import number plans) (schedule_made number body plans is) f it).1)
