-- What a chain of answers comes to: the answers of the state machine, and what is left of the book.
use Rattle.std.proofs.Common.{◌≡◌, ◌≤◌, ◌<◌, ◌||◌, ◌∙◌, inl, ap, sym, subst, refl, arith, ℕ, suc, ◌+◌, Bool, true, false, IsTrue, List, [], ◌∷◌, ◌++◌, append-nil, append_assoc, length, length-append, map, take, slice_get, Option, Some, None, IsSome, Result, Ok, Err, add-one}
use Rattle.std.specs.Bool.{⊤}
use Rattle.std.proofs.lemmas.List.{map-append, take_all}
use Rattle.std.proofs.lemmas.Option.{get_or_from_slice_get, slice_get_within}
use Rattle.sqlite.specs.Held.{state}
use Rattle.sqlite_trees.specs.declared.store.Store.{Ghosts}
use Rattle.roster.specs.Folds.{Asked, Fold, Replies, ReplyOrRefusal, next}
use Rattle.roster.specs.Honest.{Honest}
use Rattle.roster.specs.Laws.{AreMade}
use Rattle.roster.specs.State.{State}
use Rattle.roster.proofs.KeepsHonest.{keeps_honest}
use Rattle.roster.proofs.MadeByCommands.{stays_honest}
use Rattle.roster.proofs.Sound.{keeps_sound}
use Rattle.state_rows.specs.declared.fault.StoreFault.{StoreFault}
use Rattle.state_rows.specs.declared.fault.StoreFault.TheVariants.{Store, Memory}
use Rattle.writing.specs.Beside.{KeepOthers}
use Rattle.state_rows.specs.Outcomes.{CrashAddsOnly, CrashLeaves, StaysOpen}
use Rattle.book.specs.Answered.{IsAnswered}
use Rattle.book.specs.Calls.{IsAfterCalls}
use Rattle.book.specs.Kept.{Ends, HasTablesOf, IsDurablyAt, IsClean, Kept, StillHasTables, is_store_fault, is_some_store_fault, result_of}
use Rattle.book.specs.declared.answer.Answer.{Answer}
use Rattle.book.proofs.CommandLists.{all_of, all_take, each_of, fold_append, replies_append, replies_take}
use Rattle.book.proofs.Runs.{fold_more, one_honest}
use Rattle.book.proofs.Sparing.{SameOrSpares, adds_then, spared_adds, spared_open, spared_then}
use Rattle.asking.specs.Lines.{AreTaken, commands_in}
use Rattle.asking.specs.Requests.{AreAnswered, ReadRequest}
use Rattle.asking.specs.Schedules.{ArePartsAsked}
use Rattle.asking.specs.declared.answers.AskFault.TheVariants as ask
use Rattle.asking.specs.declared.answers.AskFault.TheVariants.{Book}
use Rattle.asking.specs.declared.schedules.NotAllAsked.TheVariants.{Ask, Unheard}
use Rattle.asking.proofs.CallsHonest.{LeavesHonest, calls_honest}
use Rattle.asking.proofs.LinesTaken.{one_in_turn}
use Rattle.asking.proofs.Parts.{taken_more}

or_false : (b : Bool) → (b || false) ≡ b
or_false true = refl
or_false false = refl

pub length-replies : (s : State) (l : List Asked) → length (Replies s l) ≡ length l
length-replies s [] = refl
length-replies s ((key, instruction) ∷ l) = ap suc (length-replies (next s (key, instruction)) l)

same_fault : (fault : StoreFault) → is_store_fault {A = Answer} (Err fault) ≡ is_some_store_fault (Some fault)
same_fault Store = refl
same_fault Memory = refl

made_taken : (asked : List Asked) (n : ℕ) → AreMade asked → AreMade (take n asked)
made_taken asked n made = each_of (take n asked) (all_take asked n (all_of asked made))

module _ {S : Type 0} (g : Ghosts S) where
  -- ---- Commands that were all answered

  record IsChain (start now : Kept S) (asked : List Asked) (answers : List Answer) : Type 0 where
    pub each : length answers ≡ length asked
    pub failed : now.failed ≡ start.failed
    pub shut : IsTrue start.failed → (answers ≡ []) × (now ≡ start)
    pub disk : IsClean g now → IsClean g start
    pub spared : SameOrSpares g start now
    pub faults : (state g start.held).faults ≤ (state g now.held).faults
    pub replies : (s : State) → IsDurablyAt g start s → IsClean g now → map result_of answers ≡ Replies s asked
    pub left : (s : State) → IsDurablyAt g start s → IsDurablyAt g now (Fold s asked)
    pub tables : (s : State) → IsDurablyAt g start s → HasTablesOf g start s → HasTablesOf g now (Fold s asked)

  no_chain : (book : Kept S) → IsChain book book [] []
  no_chain book = record {
    each = refl;
    failed = refl;
    shut = λ _. (refl, refl);
    disk = λ clean. clean;
    spared = inl refl;
    faults = omega arith;
    replies = λ s at clean. refl;
    left = λ s at. at;
    tables = λ s at has. has;
  }

  one_chained : (start now new : Kept S) (asked : List Asked) (answers : List Answer) (a : Asked) (answer : Answer)
      → IsChain start now asked answers → IsAnswered g now new a (Ok answer) → IsChain start new (asked ++ a ∷ []) (answers ++ answer ∷ [])
  one_chained start now new asked answers (key, instruction) answer was is =
      let a : Asked = (key, instruction) in
      record {
        each = length-append answers (answer ∷ []) ∙ ap (λ n. n + 1) was.each ∙ sym (length-append asked (a ∷ []));
        failed = is.failed ∙ or_false now.failed ∙ was.failed;
        shut = λ shut. let no = (is.shut (subst IsTrue (sym was.failed) shut)).0 in absurd (cc);
        disk = λ clean. was.disk (is.disk clean);
        spared = spared_then g start now new is.disk was.spared is.others_spared;
        faults = omega (arith, was.faults, is.faults);
        replies = λ s at clean.
            map-append result_of answers (answer ∷ [])
            ∙ ap (λ t. t ++ result_of answer ∷ []) (was.replies s at (is.disk clean))
            ∙ ap (λ (r : ReplyOrRefusal). Replies s asked ++ r ∷ []) (is.reply (Fold s asked) (was.left s at) clean)
            ∙ sym (replies_append s asked (a ∷ []));
        left = λ s at. subst (IsDurablyAt g new) (sym (fold_append s asked (a ∷ []))) (is.answered (Fold s asked) (was.left s at));
        tables = λ s at has. subst (HasTablesOf g new) (sym (fold_append s asked (a ∷ []))) (is.shown (Fold s asked) (was.left s at) (was.tables s at has));
      }

  chain_from : (start now new : Kept S) (asked more : List Asked) (answers others : List Answer)
      → IsChain start now asked answers → AreAnswered (IsAnswered g) now more others new → IsChain start new (asked ++ more) (answers ++ others)
  chain_from start now new asked [] answers [] was same =
      subst (λ l. IsChain start new l (answers ++ [])) (sym (append-nil asked))
      (subst (λ l. IsChain start new asked l) (sym (append-nil answers)) (subst (λ b. IsChain start b asked answers) (sym same) was))
  chain_from start now new asked [] answers (x ∷ others) was none = absurd none
  chain_from start now new asked (a ∷ more) answers [] was none = absurd none
  chain_from start now new asked (a ∷ more) answers (x ∷ others) was first =
      let it = chain_from start first.0 new (asked ++ a ∷ []) more (answers ++ x ∷ []) others (one_chained start now first.0 asked answers a x was first.1) first.2 in
      subst (λ l. IsChain start new l (answers ++ x ∷ others)) (append_assoc asked (a ∷ []) more)
      (subst (λ l. IsChain start new ((asked ++ a ∷ []) ++ more) l) (append_assoc answers (x ∷ []) others) it)

  chain : (old new : Kept S) (asked : List Asked) (answers : List Answer) → AreAnswered (IsAnswered g) old asked answers new → IsChain old new asked answers
  chain old new asked answers are = chain_from old old new [] asked [] answers (no_chain old) are

  -- ---- Commands up to a fault, if there was one

  -- these commands were asked in turn, up to this fault, and got these answers
  pub record AreAskedUpTo (old new : Kept S) (asked : List Asked) (answers : List Answer) (fault : Option StoreFault) : Type 0 where
    pub count : length answers ≤ length asked
    pub whole : fault ≡ None → length answers ≡ length asked
    pub stopped : IsSome fault → length answers < length asked
    pub failed : new.failed ≡ (old.failed || is_some_store_fault fault)
    pub shut : IsTrue old.failed → (answers ≡ []) × (new ≡ old)
    pub disk : IsClean g new → IsClean g old
    pub replies : (s : State) → IsDurablyAt g old s → IsClean g new → map result_of answers ≡ take (length answers) (Replies s asked)
    pub outcome : (s : State) → IsDurablyAt g old s → Ends (state g new.held) s asked (length answers) fault
    pub shown : (s : State) → IsDurablyAt g old s → HasTablesOf g old s → fault ≡ None → HasTablesOf g new (Fold s asked)
    pub still_shown : (s : State) → IsDurablyAt g old s → HasTablesOf g old s → IsSome fault → StillHasTables g new (Fold s (take (length answers) asked))
    pub honest : (s : State) → IsDurablyAt g old s → Honest s → CrashLeaves (state g new.held) Honest
    pub others_left : CrashAddsOnly (state g old.held) (state g new.held) (KeepOthers (state g old.held).now)
    pub still_open : fault ≡ Some Memory → StaysOpen (state g old.held) (state g new.held)

  -- all were answered
  all_honest : (old new : Kept S) (asked : List Asked) (answers : List Answer) → AreMade asked → IsChain old new asked answers → LeavesHonest g old new
  all_honest old new asked answers made are s at honest = record {
    crash = λ clean trees may.
        let sound = (at.kept (are.disk clean)).sound in
        (one_honest (state g new.held) (Fold s asked) (are.left s at).leaves (stays_honest keeps_sound keeps_honest s asked made sound honest)).crash clean trees may;
  }

  all_answered : (old new : Kept S) (asked : List Asked) (answers : List Answer) → LeavesHonest g old new → IsChain old new asked answers → AreAskedUpTo old new asked answers None
  all_answered old new asked answers honest are = record {
    count = omega (arith, are.each);
    whole = λ _. are.each;
    stopped = λ no. absurd (cc);
    failed = are.failed ∙ sym (or_false old.failed);
    shut = are.shut;
    disk = are.disk;
    replies = λ s at clean. are.replies s at clean ∙ sym (take_all (length answers) (Replies s asked) (omega (arith, are.each, length-replies s asked)));
    outcome = are.left;
    shown = λ s at has _. are.tables s at has;
    still_shown = λ s at has no. absurd (cc);
    honest = honest;
    others_left = spared_adds g old new are.spared;
    still_open = λ no. absurd (cc);
  }

  -- the next met a fault
  module _ (old now new : Kept S) (asked : List Asked) (answers : List Answer) (a : Asked) (fault : StoreFault) (at_place : slice_get asked (length answers) ≡ Some a) where
    within : length answers < length asked
    within = slice_get_within asked (length answers) a at_place

    more : (s : State) → Fold s (take (length answers + 1) asked) ≡ next (Fold s (take (length answers) asked)) a
    more s = rw (get_or_from_slice_get asked (length answers) a a at_place) at (fold_more s asked (length answers) a within)

    ends : (fault : StoreFault) (s : State) → IsDurablyAt g now (Fold s (take (length answers) asked)) → IsAnswered g now new a (Err fault)
        → Ends (state g new.held) s asked (length answers) (Some fault)
    ends Memory s at is = is.memory (Fold s (take (length answers) asked)) at refl
    ends Store s at is = rw (more s) (is.store (Fold s (take (length answers) asked)) at refl)

    fault_honest : AreMade asked → IsChain old now (take (length answers) asked) answers → IsAnswered g now new a (Err fault) → LeavesHonest g old new
    fault_honest made was is s at honest = record {
      crash = λ clean trees may.
          let sound = (at.kept (was.disk (is.disk clean))).sound in
          (is.honest (Fold s (take (length answers) asked)) (was.left s at) (stays_honest keeps_sound keeps_honest s (take (length answers) asked) (made_taken asked (length answers) made) sound honest)).crash clean trees may;
    }

    fault_shut : IsChain old now (take (length answers) asked) answers → IsAnswered g now new a (Err fault) → IsTrue old.failed → new ≡ old
    fault_shut was is shut = (is.shut (subst IsTrue (sym was.failed) shut)).1 ∙ (was.shut shut).1

    one_at_fault : LeavesHonest g old new → IsChain old now (take (length answers) asked) answers → IsAnswered g now new a (Err fault) → AreAskedUpTo old new asked answers (Some fault)
    one_at_fault honest was is = record {
      count = omega (arith, within);
      whole = λ no. absurd (cc);
      stopped = λ _. within;
      failed = is.failed ∙ ap (λ b. b || is_store_fault {A = Answer} (Err fault)) was.failed ∙ ap (λ b. old.failed || b) (same_fault fault);
      shut = λ shut. ((was.shut shut).0, fault_shut was is shut);
      disk = λ clean. was.disk (is.disk clean);
      replies = λ s at clean. was.replies s at (is.disk clean) ∙ sym (replies_take s asked (length answers));
      outcome = λ s at. ends fault s (was.left s at) is;
      shown = λ s at has no. absurd (cc);
      still_shown = λ s at has _. is.still_shown (Fold s (take (length answers) asked)) (was.left s at) (was.tables s at has);
      honest = honest;
      others_left = adds_then g old now new is.disk was.spared is.others_left;
      still_open = λ is_memory. spared_open g old now new is.disk was.faults was.spared (is.still_open (let same : fault ≡ Memory = cc in ap Err same));
    }

  -- ---- The parts of a schedule

  module _ {L F : Type 0} (hears : L → L → ℕ → ReplyOrRefusal → Result ⊤ F → Type 0) (old new : Kept S) (listener listener' : L) (parts : List Asked) (made : AreMade parts) where
    -- all were asked
    pub all_parts : (done : ⊤) (it : ArePartsAsked g hears old new listener listener' parts (Ok done)) → AreAskedUpTo old new parts it.answers None
    all_parts done it =
        let all : take (length it.answers) parts ≡ parts = take_all (length it.answers) parts (omega (arith, it.ends.0)) in
        let are = subst (λ l. AreAnswered (IsAnswered g) old l it.answers it.now) all it.answered in
        let are_new = subst (λ b. IsChain old b parts it.answers) (sym it.ends.1) (chain old it.now parts it.answers are) in
        all_answered old new parts it.answers (all_honest old new parts it.answers made are_new) are_new

    -- the book met a fault at one
    pub parts_to_fault : (fault : StoreFault) (it : ArePartsAsked g hears old new listener listener' parts (Err (Ask (Book fault)))) → AreAskedUpTo old new parts it.answers (Some fault)
    parts_to_fault fault it =
        let was = chain old it.now (take (length it.answers) parts) it.answers it.answered in
        one_at_fault old it.now new parts it.answers it.ends.0 fault it.ends.1 (fault_honest old it.now new parts it.answers it.ends.0 fault it.ends.1 made was it.ends.2) was it.ends.2

    -- the listener failed at one: those up to it were asked
    pub parts_heard : (fault : F) (it : ArePartsAsked g hears old new listener listener' parts (Err (Unheard fault)))
        → (length it.answers < length parts)
        × AreAskedUpTo old new (take (length it.answers + 1) parts) (it.answers ++ it.ends.2 ∷ []) None
    parts_heard fault it =
        let n = length it.answers in
        let taken : take (n + 1) parts ≡ take n parts ++ it.ends.0 ∷ [] = ap (λ k. take k parts) (add-one n) ∙ taken_more parts n it.ends.0 it.ends.1 in
        let are = one_in_turn (IsAnswered g) old (take n parts) it.answers it.now new it.ends.0 it.ends.2 it.answered it.ends.3 in
        let are_taken = subst (λ l. AreAnswered (IsAnswered g) old l (it.answers ++ it.ends.2 ∷ []) new) (sym taken) are in (
          slice_get_within parts n it.ends.0 it.ends.1,
          let chained = chain old new (take (n + 1) parts) (it.answers ++ it.ends.2 ∷ []) are_taken in
              all_answered old new (take (n + 1) parts) (it.answers ++ it.ends.2 ∷ []) (all_honest old new (take (n + 1) parts) (it.answers ++ it.ends.2 ∷ []) (made_taken parts (n + 1) made) chained) chained,
        )

  -- ---- The commands of lines

  module _ (old new : Kept S) (calls : IsAfterCalls g old new) (requests : List ReadRequest) where
    -- all were asked
    pub all_lines : (text : _) (it : AreTaken (IsAnswered g) old new requests (Ok text)) → AreAskedUpTo old new (commands_in requests) it.answers None
    all_lines text it =
        let commands = commands_in requests in
        let all : take (length it.answers) commands ≡ commands = take_all (length it.answers) commands (omega (arith, it.ends.0)) in
        let are = subst (λ l. AreAnswered (IsAnswered g) old l it.answers it.now) all it.taken in
        let are_new = subst (λ b. IsChain old b commands it.answers) (sym it.ends.1) (chain old it.now commands it.answers are) in
        all_answered old new commands it.answers (calls_honest g old new calls (λ shut. (are_new.shut shut).1)) are_new

    -- the book met a fault at one
    pub lines_to_fault : (fault : StoreFault) (it : AreTaken (IsAnswered g) old new requests (Err (Book fault))) → AreAskedUpTo old new (commands_in requests) it.answers (Some fault)
    lines_to_fault fault it =
        let commands = commands_in requests in
        let was = chain old it.now (take (length it.answers) commands) it.answers it.taken in
        let honest = calls_honest g old new calls (fault_shut old it.now new commands it.answers it.ends.0 fault it.ends.1 was it.ends.2) in
        one_at_fault old it.now new commands it.answers it.ends.0 fault it.ends.1 honest was it.ends.2

    -- there was no memory after these
    pub lines_untold : (it : AreTaken (IsAnswered g) old new requests (Err ask.Memory)) → AreAskedUpTo old new (take (length it.answers) (commands_in requests)) it.answers None
    lines_untold it =
        let asked = take (length it.answers) (commands_in requests) in
        let are_new = subst (λ b. IsChain old b asked it.answers) (sym it.ends) (chain old it.now asked it.answers it.taken) in
        all_answered old new asked it.answers (calls_honest g old new calls (λ shut. (are_new.shut shut).1)) are_new
