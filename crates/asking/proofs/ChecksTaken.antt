-- What a chain of checks comes to: the answers of the state, which stays.
use Rattle.std.proofs.Common.{◌≡◌, ◌∙◌, ◌||◌, ◌⊎◌, inl, inr, Bool, true, false, ap, sym, subst, refl, arith, ℕ, suc, IsTrue, List, [], ◌∷◌, ◌++◌, append-nil, append_assoc, length, length-append, map, take, slice_get, Option, Some, None, Result, Ok, Err, IfOk, OnOk}
use Rattle.std.proofs.lemmas.List.{take_all}
use Rattle.sqlite.specs.Held.{state}
use Rattle.sqlite_trees.specs.declared.store.Store.{Ghosts}
use Rattle.roster.specs.Folds.{Asked, ReplyOrRefusal, answer_of}
use Rattle.roster.specs.State.{State}
use Rattle.roster.specs.Steps.{step_of}
use Rattle.state_rows.specs.declared.fault.StoreFault.{StoreFault}
use Rattle.state_rows.specs.declared.fault.StoreFault.TheVariants.{Store, Memory}
use Rattle.lookup.proofs.Changes.{changes_then}
use Rattle.book.specs.Calls.{HasRead}
use Rattle.book.specs.Kept.{HasTablesOf, IsDurablyAt, IsClean, Kept, is_store_fault, result_of}
use Rattle.book.specs.declared.answer.Answer.{Answer}
use Rattle.asking.specs.Lines.{AreTaken, answers_in, commands_in}
use Rattle.asking.specs.Requests.{HasChecked, AreAnswered, ReadRequest}
use Rattle.asking.specs.declared.answers.AskFault.TheVariants as ask

or_false : (b : Bool) → (b || false) ≡ b
or_false true = refl
or_false false = refl

module _ {S : Type 0} (g : Ghosts S) where
  -- one read after another
  reads_then : {A B : Type 0} (old mid new : Kept S) (first : A) (result : Result B StoreFault) → HasRead g old mid (Ok first) → HasRead g mid new result → HasRead g old new result
  reads_then old mid new first result one other = record {
    failed = other.failed ∙ ap (λ b. b || is_store_fault result) (one.failed ∙ or_false old.failed);
    shut = λ shut. absurd (let never = (one.shut shut).0 in cc);
    unchanged = changes_then (state g old.held) (state g mid.held) (state g new.held) one.unchanged other.unchanged;
    kept = λ s at. other.kept s (one.kept s at);
  }

  -- of what is said of a read without a fault, nothing is said of what was read
  read_as : {A B : Type 0} (old new : Kept S) (a : A) (b : B) → HasRead g old new (Ok a) → HasRead g old new (Ok b)
  read_as old new a b it = record { failed = it.failed; shut = λ shut. absurd (let never = (it.shut shut).0 in cc); unchanged = it.unchanged; kept = it.kept }

  -- one command or more were checked in turn
  pub record AreAllChecked (old new : Kept S) (asked : List Asked) (answers : List Answer) : Type 0 where
    pub call : HasRead g old new (Ok answers)
    pub replies : (s : State) → IsDurablyAt g old s → IsClean g new → map result_of answers ≡ answers_in s asked
    pub tables : (s : State) → IsDurablyAt g old s → HasTablesOf g old s → HasTablesOf g new s

  only_checked : (old new : Kept S) (a : Asked) (answer : Answer) → HasChecked g old new a (Ok answer) → AreAllChecked old new (a ∷ []) (answer ∷ [])
  only_checked old new a answer it = record {
    call = read_as old new answer (answer ∷ []) it.call;
    replies = λ s at clean. ap (λ (r : ReplyOrRefusal). r ∷ []) (it.reply s at clean);
    tables = it.tables;
  }

  first_checked : (old mid new : Kept S) (a : Asked) (answer : Answer) (asked : List Asked) (answers : List Answer) → HasChecked g old mid a (Ok answer) → AreAllChecked mid new asked answers
      → AreAllChecked old new (a ∷ asked) (answer ∷ answers)
  first_checked old mid new a answer asked answers first rest = record {
    call = read_as old new answers (answer ∷ answers) (reads_then old mid new answer (Ok answers) first.call rest.call);
    replies = λ s at clean.
        ap (λ (r : ReplyOrRefusal). r ∷ map result_of answers) (first.reply s at (rest.call.unchanged.nothing_new.disk clean))
        ∙ ap (λ (l : List ReplyOrRefusal). answer_of (step_of s a.0 a.1) ∷ l) (rest.replies s (first.call.kept s at) clean);
    tables = λ s at has. rest.tables s (first.call.kept s at) (first.tables s at has);
  }

  all_in_turn : (old new : Kept S) (a : Asked) (answer : Answer) (asked : List Asked) (answers : List Answer) → AreAnswered (HasChecked g) old (a ∷ asked) (answer ∷ answers) new
      → AreAllChecked old new (a ∷ asked) (answer ∷ answers)
  all_in_turn old new a answer [] [] (next, first, same) = subst (λ (b : Kept S). AreAllChecked old b (a ∷ []) (answer ∷ [])) (sym same) (only_checked old next a answer first)
  all_in_turn old new a answer [] (x ∷ answers) (next, first, none) = absurd none
  all_in_turn old new a answer (b ∷ asked) [] (next, first, none) = absurd none
  all_in_turn old new a answer (b ∷ asked) (x ∷ answers) (next, first, rest) =
      first_checked old next new a answer (b ∷ asked) (x ∷ answers) first (all_in_turn next new b x asked answers rest)

  -- none was checked, or one or more were
  abbrev pub AreChecked : Kept S → Kept S → List Asked → List Answer → Type 0
  AreChecked old new asked answers = ((new ≡ old) × (asked ≡ []) × (answers ≡ [])) ⊎ AreAllChecked old new asked answers

  in_turn : (old new : Kept S) (asked : List Asked) (answers : List Answer) → AreAnswered (HasChecked g) old asked answers new → AreChecked old new asked answers
  in_turn old new [] [] same = inl (same, refl, refl)
  in_turn old new [] (x ∷ answers) none = absurd none
  in_turn old new (a ∷ asked) [] none = absurd none
  in_turn old new (a ∷ asked) (x ∷ answers) are = inr (all_in_turn old new a x asked answers are)

  -- a fault after these
  fault_after : (old now new : Kept S) (asked : List Asked) (answers : List Answer) (a : Asked) (fault : StoreFault) → AreAnswered (HasChecked g) old asked answers now
      → HasRead g {A = Answer} now new (Err fault) → HasRead g {A = Answer} old new (Err fault)
  fault_after old now new [] [] a fault same it = subst (λ (b : Kept S). HasRead g {A = Answer} b new (Err fault)) same it
  fault_after old now new [] (x ∷ answers) a fault none it = absurd none
  fault_after old now new (b ∷ asked) [] a fault none it = absurd none
  fault_after old now new (b ∷ asked) (x ∷ answers) a fault (next, first, rest) it =
      reads_then old next new x (Err fault) first.call (fault_after next now new asked answers a fault rest it)

  -- ---- The commands of lines

  module _ (old new : Kept S) (requests : List ReadRequest) where
    -- all were checked
    pub all_checks : (text : _) (it : AreTaken (HasChecked g) old new requests (Ok text)) → AreChecked old new (commands_in requests) it.answers
    all_checks text it =
        let commands = commands_in requests in
        let all : take (length it.answers) commands ≡ commands = take_all (length it.answers) commands (omega (arith, it.ends.0)) in
        let are = subst (λ l. AreAnswered (HasChecked g) old l it.answers it.now) all it.taken in
        subst (λ b. AreChecked old b commands it.answers) (sym it.ends.1) (in_turn old it.now commands it.answers are)

    -- the book met a fault at one
    pub checks_to_fault : (fault : StoreFault) (it : AreTaken (HasChecked g) old new requests (Err (ask.Book fault))) → HasRead g {A = Answer} old new (Err fault)
    checks_to_fault fault it = fault_after old it.now new (take (length it.answers) (commands_in requests)) it.answers it.ends.0 fault it.taken it.ends.2.call

    -- there was no memory after these
    pub checks_untold : (it : AreTaken (HasChecked g) old new requests (Err ask.Memory)) → AreChecked old new (take (length it.answers) (commands_in requests)) it.answers
    checks_untold it =
        let asked = take (length it.answers) (commands_in requests) in
        subst (λ b. AreChecked old b asked it.answers) (sym it.ends) (in_turn old it.now asked it.answers it.taken)
