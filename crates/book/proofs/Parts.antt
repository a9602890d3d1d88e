-- The part of an import, and a book that wasn't asked.
use Rattle.std.proofs.Common.{◌≡◌, inl, ◌∙◌, ◌≤◌, ◌<◌, ◌-◌, refl, sym, ap, subst, arith, ℕ, zero, suc, ◌+◌, true, false, List, [], ◌∷◌, Option, Some, None, Err, option_map, MatchOption, length, slice_get, slice_index_or}
use Rattle.std.specs.List.{enumerate_from}
use Rattle.std.proofs.lemmas.Option.{slice_get-map, slice_get_past, slice_get_read}
use Rattle.sqlite_trees.specs.declared.store.Store.{Ghosts}
use Rattle.sqlite.specs.Held.{state}
use Rattle.duty.specs.Plans.{Plan}
use Rattle.command.specs.declared.instruction.Instruction.TheVariants.{AddPairing}
use Rattle.roster.specs.Folds.{Asked, import, next}
use Rattle.state_rows.specs.declared.fault.StoreFault.TheVariants.{Store, Memory}
use Rattle.state_rows.specs.Outcomes.{CrashLeavesSome}
use Rattle.lookup.proofs.Changes.{nothing_changes}
use Rattle.book.specs.Answered.{IsAnswered}
use Rattle.book.specs.Importing.{Importing, part_of}
use Rattle.book.specs.Kept.{Kept}
use Rattle.book.specs.declared.answer.Answer.{Answer}
use Rattle.book.proofs.Asked.{adds_none}
use Rattle.book.proofs.Holding.{still_held}
use Rattle.book.proofs.Runs.{one_honest}
use Rattle.book.proofs.SessionLemmas.{adds_one}
use Rattle.book.proofs.States.{one_of_either, shows_still}

-- ---- The list that an import is

get-enumerated : {A : Type 0} (n : ℕ) (xs : List A) (i : ℕ) → slice_get (enumerate_from n xs) i ≡ option_map (λ x. (n + i, x)) (slice_get xs i)
get-enumerated n [] i = refl
get-enumerated n (x ∷ xs) zero = let e : n ≡ n + 0 = omega arith in ap (λ k. Some (k, x)) e
get-enumerated n (x ∷ xs) (suc i) = let e : n + 1 + i ≡ n + suc i = omega arith in get-enumerated (n + 1) xs i ∙ ap (λ k. option_map (λ x. (k, x)) (slice_get xs i)) e

mapped-twice : {A B C : Type 0} (f : B → C) (h : A → B) (o : Option A) → option_map f (option_map h o) ≡ option_map (λ x. f (h x)) o
mapped-twice f h None = refl
mapped-twice f h (Some x) = refl

-- its parts are its pairings in turn
abbrev added_as : ℕ → ℕ × Plan → Asked
added_as number p = (record { number = number; part = p.0 }, AddPairing p.1)

get-import : (number : ℕ) (plans : List Plan) (i : ℕ) → slice_get (import number plans) i ≡ option_map (λ (plan : Plan). added_as number (1 + i, plan)) (slice_get plans i)
get-import number plans i =
    slice_get-map (added_as number) (enumerate_from 1 plans) i
    ∙ ap (option_map (added_as number)) (get-enumerated 1 plans i)
    ∙ mapped-twice (added_as number) (λ x. (1 + i, x)) (slice_get plans i)

module _ (seen : Importing) (first : 1 ≤ seen.next) (it : Importing) (same : seen ≡ it) where
  pub the_part : (plan : Plan) → seen.next - 1 < length seen.pairings → plan ≡ slice_index_or seen.pairings (seen.next - 1) plan → part_of it ≡ Some (added_as seen.number (seen.next, plan))
  the_part plan within is =
      let at : 1 + (seen.next - 1) ≡ seen.next = omega arith in
      ap part_of (sym same)
      ∙ get-import seen.number seen.pairings (seen.next - 1)
      ∙ ap (option_map (λ (p : Plan). added_as seen.number (1 + (seen.next - 1), p))) (slice_get_read seen.pairings (length seen.pairings) (seen.next - 1) plan refl within is)
      ∙ ap (λ n. Some (added_as seen.number (n, plan))) at

  pub no_part : length seen.pairings ≤ seen.next - 1 → part_of it ≡ None
  no_part past =
      ap part_of (sym same)
      ∙ get-import seen.number seen.pairings (seen.next - 1)
      ∙ ap (option_map (λ (p : Plan). added_as seen.number (1 + (seen.next - 1), p))) (slice_get_past seen.pairings (seen.next - 1) past)

-- so what is said of each case holds
pub in_case : {A : Type 0} (o : Option A) (P : Type 0) (Q : A → Type 0) (x : A) → o ≡ Some x → Q x → MatchOption o P Q
in_case o P Q x is q = subst (λ t. MatchOption t P Q) (sym is) q

pub in_no_case : {A : Type 0} (o : Option A) (P : Type 0) (Q : A → Type 0) → o ≡ None → P → MatchOption o P Q
in_no_case o P Q is p = subst (λ t. MatchOption t P Q) (sym is) p

-- ---- A book that wasn't asked

module _ {S : Type 0} (g : Ghosts S) (book : Kept S) (asked : Asked) (some : CrashLeavesSome (state g book.held)) where
  -- since it has failed
  pub was_shut : book.failed ≡ true → IsAnswered g book book asked (Err Store)
  was_shut is = record {
    failed = rw is refl;
    shut = λ _. (refl, refl);
    disk = λ clean. clean;
    some_left = some;
    reply = λ s at clean. tt;
    answered = λ s at. tt;
    shown = λ s at has. tt;
    memory = λ s at is. absurd (cc);
    store = λ s at _. one_of_either (state g book.held) s (next s asked) at;
    caused = λ s at change unfailed. absurd (let no : true ≡ false = sym is ∙ unfailed in cc);
    sessions = λ s before at. adds_one {A = Answer} (state g book.held) s before asked (Err Store) tt (λ is. absurd (cc)) (λ _. one_of_either (state g book.held) _ _ at);
    still_shown = λ s at has. shows_still (state g book.held) s has;
    honest = λ s at honest. one_honest (state g book.held) s at.leaves honest;
    within_limits = λ s at clean is passes. tt;
    repeats = λ s reply at clean held. (nothing_changes (state g book.held), tt);
    turned_down = λ s refusal at clean refused. (nothing_changes (state g book.held), tt);
    holds = λ s reply at. tt;
    held = λ s at. still_held (state g book.held) s at;
    refused = tt;
    others_spared = tt;
    others_left = adds_none (state g book.held) _;
    faults = omega arith;
    limit = refl;
    still_open = λ is. absurd (cc);
  }

  -- out of memory
  pub was_not_asked : book.failed ≡ false → IsAnswered g book book asked (Err Memory)
  was_not_asked is = record {
    failed = rw is refl;
    shut = λ shut. absurd (cc);
    disk = λ clean. clean;
    some_left = some;
    reply = λ s at clean. tt;
    answered = λ s at. tt;
    shown = λ s at has. tt;
    memory = λ s at _. at;
    store = λ s at is. absurd (cc);
    caused = λ s at change unfailed clean none. absurd (cc);
    sessions = λ s before at. adds_one {A = Answer} (state g book.held) s before asked (Err Memory) tt (λ _. at) (λ is. absurd (cc));
    still_shown = λ s at has. shows_still (state g book.held) s has;
    honest = λ s at honest. one_honest (state g book.held) s at.leaves honest;
    within_limits = λ s at clean is passes. tt;
    repeats = λ s reply at clean held. (nothing_changes (state g book.held), tt);
    turned_down = λ s refusal at clean refused. (nothing_changes (state g book.held), tt);
    holds = λ s reply at. tt;
    held = λ s at. still_held (state g book.held) s at;
    refused = tt;
    others_spared = tt;
    others_left = adds_none (state g book.held) _;
    faults = omega arith;
    limit = refl;
    still_open = λ _ clean is. inl is;
  }
