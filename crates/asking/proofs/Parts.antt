-- The parts of a schedule that were asked and heard so far, up to one more.
use Rattle.std.proofs.Common.{◌≡◌, ◌≤◌, ◌<◌, ℕ, zero, suc, ◌+◌, List, [], ◌∷◌, ◌++◌, length, map, take, slice_get, refl, ap, sym, subst, ◌∙◌, arith, add-one, true, false, Bool, ◌&&◌, not, Option, Some, None, is_some, Result, Ok, Err, length-append, inl, inr, IsSome, IsSomeAnd, MatchOption, ◌-◌}
use Rattle.std.specs.Bool.{⊤}
use Rattle.std.specs.List.{AllByRecursion, Contains, enumerate_from, list_all}
use Rattle.std.proofs.lemmas.Bool.{cases_order}
use Rattle.std.proofs.lemmas.List.{length-map}
use Rattle.std.proofs.lemmas.List.FromFn.{length-enumerate_from}
use Rattle.std.proofs.lemmas.List.Elements.{Contains-get_or}
use Rattle.std.proofs.lemmas.Option.{get_or_from_slice_get, slice_get_within}
use Rattle.sqlite_trees.specs.declared.store.Store.{Ghosts}
use Rattle.duty.specs.Pairings.{pairing_fault}
use Rattle.duty.specs.Plans.{Plan}
use Rattle.command.specs.Instructions.{IsMade, instruction_fault}
use Rattle.command.specs.declared.instruction.Instruction.TheVariants.{AddPairing}
use Rattle.codec.specs.Schedule.{IsAsPlanned, IsSchedule, is_faultless_plan}
use Rattle.roster.specs.Folds.{Asked, ReplyOrRefusal, import}
use Rattle.roster.specs.Laws.{AreMade}
use Rattle.state_rows.specs.declared.fault.StoreFault.{StoreFault}
use Rattle.book.specs.Answered.{IsAnswered}
use Rattle.book.specs.Importing.{Importing, part_of}
use Rattle.book.specs.Kept.{Kept, result_of}
use Rattle.book.specs.declared.answer.Answer.{Answer}
use Rattle.book.proofs.CommandLists.{All, each_of}
use Rattle.asking.proofs.LinesTaken.{one_in_turn}
use Rattle.asking.specs.Requests.{AreAnswered}
use Rattle.asking.specs.Schedules.{ArePartsAsked, HasHeard}
use Rattle.asking.specs.declared.answers.AskFault.TheVariants.{Book}
use Rattle.asking.specs.declared.schedules.NotAllAsked.TheVariants.{Ask, Unheard}

-- ---- The commands of a schedule

faultless : (plan : Plan) → is_faultless_plan plan ≡ true → pairing_fault plan ≡ None
faultless plan is = no_fault (pairing_fault plan) is where
  no_fault : {A : Type 0} (fault : Option A) → not (is_some fault) ≡ true → fault ≡ None
  no_fault None is = refl
  no_fault (Some fault) is = absurd (cc)

both : (a b : Bool) → (a && b) ≡ true → (a ≡ true) × (b ≡ true)
both true b is = (refl, is)
both false b is = absurd (cc)

abbrev parts_from : ℕ → ℕ → List Plan → List Asked
parts_from number part plans = map (λ p. (record { number = number; part = p.0 }, AddPairing p.1)) (enumerate_from part plans)

all_made : (number part : ℕ) (plans : List Plan) → AllByRecursion IsAsPlanned plans → list_all is_faultless_plan plans ≡ true → All (parts_from number part plans)
all_made number part [] planned none = tt
all_made number part (plan ∷ plans) planned none =
    let it = both (is_faultless_plan plan) (list_all is_faultless_plan plans) none in
    ((unfold instruction_fault in faultless plan it.0, planned.0), all_made number (part + 1) plans planned.1 it.1)

pub schedule_made : (number : ℕ) (text : List ℕ) (plans : List Plan) → IsSchedule text plans → AreMade (import number plans)
schedule_made number text plans is = each_of (import number plans) (all_made number 1 plans is.2.2 is.3)

-- a command of a list that is made is made
pub part_made : (parts : List Asked) (n : ℕ) (a : Asked) → AreMade parts → slice_get parts n ≡ Some a → IsMade a.1
part_made parts n a made is =
    let at : Contains parts a = rw (get_or_from_slice_get parts n a a is) at (Contains-get_or parts n a (slice_get_within parts n a is)) in
    made a at

-- ---- One more at the end

pub taken_more : {A : Type 0} (xs : List A) (n : ℕ) (x : A) → slice_get xs n ≡ Some x → take (suc n) xs ≡ take n xs ++ x ∷ []
taken_more [] n x is = absurd (cc)
taken_more (y ∷ xs) zero x is = ap (λ o. o ∷ []) (search is)
taken_more (y ∷ xs) (suc n) x is = ap (λ l. y ∷ l) (taken_more xs n x is)

module _ {S L F : Type 0} (g : Ghosts S) (hears : L → L → ℕ → ReplyOrRefusal → Result ⊤ F → Type 0) where
  one_heard : (old : L) (part : ℕ) (answers : List Answer) (now next : L) (answer : Answer)
      → HasHeard hears old part answers now → hears now next (part + length answers) (result_of answer) (Ok tt) → HasHeard hears old part (answers ++ answer ∷ []) next
  one_heard old part [] now next answer same is =
      let here : part + 0 ≡ part = omega arith in
      (next, subst (λ l. hears l next part (result_of answer) (Ok tt)) same (subst (λ n. hears now next n (result_of answer) (Ok tt)) here is), refl)
  one_heard old part (x ∷ answers) now next answer first is =
      let there : part + suc (length answers) ≡ part + 1 + length answers = omega arith in
      (first.0, first.1, one_heard first.0 (part + 1) answers now next answer first.2 (subst (λ n. hears now next n (result_of answer) (Ok tt)) there is))

  -- ---- The parts so far

  pub record AreSoFar (old : Kept S) (listener : L) (parts : List Asked) (part : ℕ) (now : Kept S) (heard : L) : Type 0 where
    pub answers : List Answer
    pub each : part ≡ length answers + 1
    pub within : length answers ≤ length parts
    pub answered : AreAnswered (IsAnswered g) old (take (length answers) parts) answers now
    pub all_heard : HasHeard hears listener 1 answers heard

  pub none_yet : (old : Kept S) (listener : L) (parts : List Asked) → AreSoFar old listener parts 1 old listener
  none_yet old listener parts = record { answers = []; each = refl; within = omega arith; answered = refl; all_heard = refl }

  module _ (old : Kept S) (listener : L) (parts : List Asked) (part : ℕ) (now : Kept S) (heard : L) (was : AreSoFar old listener parts part now heard) where
    at_place : (a : Asked) (n : ℕ) → slice_get parts n ≡ Some a → n + 1 ≡ part → slice_get parts (length was.answers) ≡ Some a
    at_place a n is place = let same : n ≡ length was.answers = omega (arith, place, was.each) in ap (slice_get parts) (sym same) ∙ is

    pub one_more : (n : ℕ) (a : Asked) (answer : Answer) (next : Kept S) (listening : L)
        → slice_get parts n ≡ Some a → n + 1 ≡ part → IsAnswered g now next a (Ok answer) → hears heard listening part (result_of answer) (Ok tt)
        → AreSoFar old listener parts (part + 1) next listening
    one_more n a answer next listening is place answered hearing =
        let at = at_place a n is place in
        let count : length (was.answers ++ answer ∷ []) ≡ suc (length was.answers) = length-append was.answers (answer ∷ []) ∙ add-one (length was.answers) in
        let taken : take (length (was.answers ++ answer ∷ [])) parts ≡ take (length was.answers) parts ++ a ∷ [] = ap (λ n. take n parts) count ∙ taken_more parts (length was.answers) a at in
        let place : part ≡ 1 + length was.answers = omega (arith, was.each) in
        record {
          answers = was.answers ++ answer ∷ [];
          each = omega (arith, was.each, count);
          within = omega (arith, count, slice_get_within parts (length was.answers) a at);
          answered = subst (λ l. AreAnswered (IsAnswered g) old l (was.answers ++ answer ∷ []) next) (sym taken) (one_in_turn (IsAnswered g) old (take (length was.answers) parts) was.answers now next a answer was.answered answered);
          all_heard = one_heard listener 1 was.answers heard listening answer was.all_heard (subst (λ n. hears heard listening n (result_of answer) (Ok tt)) place hearing);
        }

    pub all_asked : (new : Kept S) → new ≡ now → length parts < part → ArePartsAsked g hears old new listener heard parts (Ok tt)
    all_asked new same past = record {
      answers = was.answers;
      now = now;
      heard = heard;
      answered = was.answered;
      all_heard = was.all_heard;
      ends = (omega (arith, past, was.each, was.within), same, refl);
    }

    pub one_at_fault : (n : ℕ) (a : Asked) (fault : StoreFault) (next : Kept S)
        → slice_get parts n ≡ Some a → n + 1 ≡ part → IsAnswered g now next a (Err fault)
        → ArePartsAsked g hears old next listener heard parts (Err (Ask (Book fault)))
    one_at_fault n a fault next is place answered = record {
      answers = was.answers;
      now = now;
      heard = heard;
      answered = was.answered;
      all_heard = was.all_heard;
      ends = (a, at_place a n is place, answered, refl);
    }

    pub one_unheard : (n : ℕ) (a : Asked) (answer : Answer) (fault : F) (next : Kept S) (listening : L)
        → slice_get parts n ≡ Some a → n + 1 ≡ part → IsAnswered g now next a (Ok answer) → hears heard listening part (result_of answer) (Err fault)
        → ArePartsAsked g hears old next listener listening parts (Err (Unheard fault))
    one_unheard n a answer fault next listening is place answered hearing =
        record {
          answers = was.answers;
          now = now;
          heard = heard;
          answered = was.answered;
          all_heard = was.all_heard;
          ends = (a, at_place a n is place, answer, answered, subst (λ n. hears heard listening n (result_of answer) (Err fault)) was.each hearing);
        }

-- ---- The part that is asked

pub length-import : (number : ℕ) (plans : List Plan) → length (import number plans) ≡ length plans
length-import number plans = length-map (enumerate_from 1 plans) _ ∙ length-enumerate_from 1 plans

-- there is none past the last part
pub is_past : {A : Type 0} (o : Option A) (part n : ℕ) → o ≡ None → (part ≤ n → IsSome o) → n < part
is_past o part n is some = elim (cases_order n part) [
  | inl same ↦ absurd (let it = rw is at (some (omega (arith, same))) in cc)
  | inr (inl less) ↦ less
  | inr (inr more) ↦ absurd (let it = rw is at (some (omega (arith, more))) in cc)
]

-- what is said of the command at a place, where there is an answer
asked_at : {A B : Type 0} (o : Option A) (result : Option B) (Q : A → B → Type 0) (answer : B) → result ≡ Some answer → MatchOption o (result ≡ None) (λ a. IsSomeAnd result (Q a))
    → (a : A) × (o ≡ Some a) × Q a answer
asked_at None result Q answer is none = absurd (cc)
asked_at (Some a) result Q answer is said = (a, refl, rw is at said)

-- the part that an import asked, where there is an answer
pub the_part : {S : Type 0} (g : Ghosts S) (now next : Kept S) (number : ℕ) (plans : List Plan) (part : ℕ) (it : Importing) (result : Option (Result Answer StoreFault)) (answer : Result Answer StoreFault)
    → (let at_part : Importing = record { number = number; pairings = plans; next = part } in it ≡ at_part) → result ≡ Some answer
    → MatchOption (part_of it) (result ≡ None) (λ a. IsSomeAnd result (IsAnswered g now next a))
    → (a : Asked) × (slice_get (import number plans) (part - 1) ≡ Some a) × IsAnswered g now next a answer
the_part g now next number plans part it result answer same is said =
    let asked = asked_at (part_of it) result (IsAnswered g now next) answer is said in
    (asked.0, ap part_of (sym same) ∙ asked.1, asked.2)
