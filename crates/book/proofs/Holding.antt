-- What is accepted, and what a key holds then.
use Rattle.std.proofs.Common.{◌≡◌, ◌∙◌, ◌↔◌, inl, inr, refl, sym, ap, subst, ℕ, ◌+◌, List, [], ◌∷◌, take, Option, Some, None, Result, Ok, Err, IfOk, OnOk, true}
use Rattle.std.specs.FinMap as fin
use Rattle.sqlite.specs.State as conn
use Rattle.sqlite.specs.State.{HasCleanDisk}
use Rattle.command.specs.Keys.{KeyParts, key_name}
use Rattle.command.specs.declared.exceedance.Reply.{Reply}
use Rattle.command.specs.declared.instruction.Instruction.{Instruction}
use Rattle.command.specs.declared.refusal.Refusal.{Refusal}
use Rattle.roster.proofs.Accepted.{accepted}
use Rattle.roster.proofs.Requests.{keeps_requests, now_held, repeats_both, under_free}
use Rattle.roster.proofs.WithinLimits.{accepted_within_limits}
use Rattle.roster.specs.Folds.{Asked, Fold, answer_of, left_by, next}
use Rattle.roster.specs.Laws.{PassesChecks, is_assignment}
use Rattle.roster.specs.Refusals.{refusal_of}
use Rattle.roster.specs.State.{State}
use Rattle.roster.specs.Steps.{after, change_of, judged, step_of}
use Rattle.roster.specs.declared.change.Change.{Change}
use Rattle.roster.specs.declared.change.Verdict.{Verdict}
use Rattle.roster.specs.declared.change.Verdict.TheVariants.{Accept, Refuse, Repeat}
use Rattle.state_rows.specs.declared.fault.StoreFault.{StoreFault}
use Rattle.state_rows.specs.declared.fault.StoreFault.TheVariants.{Store, Memory}
use Rattle.state_rows.specs.Outcomes.{CrashLeaves, IsEither, IsJust}
use Rattle.book.specs.Headline.{BreaksNoLimit, IsAcceptance, IsHeld, KeepsHeld, StaysHeld}
use Rattle.book.specs.Kept.{Ends, Keeps, IsEitherKept, result_of}
use Rattle.book.specs.Sessions.{count_of, fault_of}
use Rattle.book.specs.declared.answer.Answer.{Answer}
use Rattle.book.specs.declared.answer.Answer.TheVariants.{Accepted, Refused}
use Rattle.book.proofs.SessionLemmas.{one_ends}

-- ---- Accepted exactly within the limits

-- an answer to a verdict that is no repeat is an acceptance if and only if the verdict is one
answers_verdict : (v : Verdict) (a : Answer) → result_of a ≡ answer_of v → ((reply : Reply) → v ≡ Repeat reply → ⊥) →
    IsAcceptance a ↔ ((change : Change) × (reply : Reply) × (v ≡ Accept change reply))
answers_verdict (Repeat reply) a is none = absurd (none reply refl)
answers_verdict (Accept change reply) (Accepted given) is none = (λ _. (change, reply, refl), λ _. (given, refl))
answers_verdict (Accept change reply) (Refused refusal) is none = absurd (cc)
answers_verdict (Refuse refusal) (Accepted given) is none = absurd (cc)
answers_verdict (Refuse refusal) (Refused given) is none = (λ acceptance. absurd (let e = acceptance.1 in cc), λ step. absurd (let e = step.2 in cc))

no_repeat : (s : State) (key : KeyParts) (instruction : Instruction) → fin.get s.requests (key_name key) ≡ None → (reply : Reply) → step_of s key instruction ≡ Repeat reply → ⊥
no_repeat s key instruction free reply step = let held = (repeats_both s key instruction reply).0 step in cc

module _ (s : State) (key : KeyParts) (instruction : Instruction) (is : is_assignment instruction ≡ true) (passes : PassesChecks s key instruction) where
  judged_by_limits : (a : Answer) → result_of a ≡ answer_of (step_of s key instruction) → IsAcceptance a ↔ BreaksNoLimit s instruction
  judged_by_limits a reply =
      let told = answers_verdict (step_of s key instruction) a reply (no_repeat s key instruction passes.free) in
      let law = accepted_within_limits s key instruction is passes in
      (λ acceptance. law.0 (told.0 acceptance), λ within. told.1 (law.1 within))

  pub accepts_within : (result : Result Answer StoreFault) → IfOk result (λ a. result_of a ≡ answer_of (step_of s key instruction)) → IfOk result (λ a. IsAcceptance a ↔ BreaksNoLimit s instruction)
  accepts_within (Ok a) reply = judged_by_limits a reply
  accepts_within (Err fault) reply = tt

-- ---- A held command

-- it is repeated, in whichever state is the same
pub step_repeats : (s roster : State) (asked : Asked) (reply : Reply) → roster ≡ s → IsHeld s asked reply → step_of roster asked.0 asked.1 ≡ Repeat reply
step_repeats s roster asked reply same held = ap (λ (x : State). step_of x asked.0 asked.1) same ∙ (repeats_both s asked.0 asked.1 reply).1 held

-- an accepted one is held then
accepted_reply : (s : State) (key : KeyParts) (instruction : Instruction) (o : Option Refusal) (change : Change) (reply : Reply) →
    judged s key instruction o ≡ Accept change reply → (change_of s key instruction).reply ≡ reply
accepted_reply s key instruction None change reply e = cc
accepted_reply s key instruction (Some refusal) change reply e = absurd (cc)

held_after : (s : State) (asked : Asked) (reply : Reply) (v : Verdict) → step_of s asked.0 asked.1 ≡ v → answer_of v ≡ Ok reply → IsHeld (left_by s v) asked reply
held_after s asked reply (Repeat kept) step is =
    let same : kept ≡ reply = cc in
    (repeats_both s asked.0 asked.1 reply).0 (step ∙ ap Repeat same)
held_after s asked reply (Accept change given) step is =
    let it = accepted s asked.0 asked.1 change given step in
    let same : given ≡ reply = cc in
    let told : (change_of s asked.0 asked.1).reply ≡ given = accepted_reply s asked.0 asked.1 (refusal_of s asked.1) change given (sym (under_free s asked.0 asked.1 it.free) ∙ step) in
    subst (λ (c : Change). IsHeld (after s c) asked reply) (sym it.is)
    (subst (IsHeld (after s (change_of s asked.0 asked.1)) asked) (told ∙ same) (now_held s (change_of s asked.0 asked.1)))
held_after s asked reply (Refuse refusal) step is = absurd (cc)

pub held_next : (s : State) (asked : Asked) (reply : Reply) → answer_of (step_of s asked.0 asked.1) ≡ Ok reply → IsHeld (next s asked) asked reply
held_next s asked reply is = held_after s asked reply (step_of s asked.0 asked.1) refl is

-- where the answer is the machine's and the book is at the next state
module _ (now : conn.State) (s : State) (asked : Asked) (reply : Reply) where
  pub now_holds : (result : Result Answer StoreFault) → (HasCleanDisk now → IfOk result (λ a. result_of a ≡ answer_of (step_of s asked.0 asked.1))) → OnOk result (Keeps now (next s asked)) →
      IfOk result (λ a. a ≡ Accepted reply → StaysHeld now asked reply)
  now_holds (Ok a) told keeps = λ is. record {
    crash = λ clean trees may.
        let it = keeps.leaves.crash clean trees may in
        let answer : answer_of (step_of s asked.0 asked.1) ≡ Ok reply = sym (told clean) ∙ ap result_of is in
        (it.0, subst (λ (t : State). IsHeld t asked reply) (sym it.1) (held_next s asked reply answer), it.2);
  }
  now_holds (Err fault) told keeps = tt

-- ---- All held commands

module _ (now : conn.State) (asked : Asked) (reply : Reply) where
  one_holds : (s : State) → CrashLeaves now (IsJust s) → IsHeld s asked reply → StaysHeld now asked reply
  one_holds s leaves held = record {
    crash = λ clean trees may. let it = leaves.crash clean trees may in (it.0, subst (λ (t : State). IsHeld t asked reply) (sym it.1) held, it.2);
  }

  which_holds : (s t r : State) → IsEither s t r → IsHeld s asked reply → IsHeld t asked reply → IsHeld r asked reply
  which_holds s t r (inl is) first second = subst (λ (x : State). IsHeld x asked reply) (sym is) first
  which_holds s t r (inr is) first second = subst (λ (x : State). IsHeld x asked reply) (sym is) second

  either_holds : (s t : State) → CrashLeaves now (IsEitherKept s t) → IsHeld s asked reply → IsHeld t asked reply → StaysHeld now asked reply
  either_holds s t leaves first second = record {
    crash = λ clean trees may. let it = leaves.crash clean trees may in (it.0, which_holds s t it.0 it.1.0 first second, it.2);
  }

-- no list of commands takes one away
fold_holds : (s : State) (l : List Asked) (asked : Asked) (reply : Reply) → IsHeld s asked reply → IsHeld (Fold s l) asked reply
fold_holds s l asked reply held = keeps_requests s asked.0 (record { command = asked.1; reply = reply }) l held

pub ends_held : (now : conn.State) (s : State) (l : List Asked) (n : ℕ) (fault : Option StoreFault) → Ends now s l n fault → KeepsHeld now s
ends_held now s l n None ends asked reply held = one_holds now asked reply (Fold s l) ends.leaves (fold_holds s l asked reply held)
ends_held now s l n (Some Memory) ends asked reply held = one_holds now asked reply (Fold s (take n l)) ends.leaves (fold_holds s (take n l) asked reply held)
ends_held now s l n (Some Store) ends asked reply held =
    either_holds now asked reply (Fold s (take n l)) (Fold s (take (n + 1) l)) ends (fold_holds s (take n l) asked reply held) (fold_holds s (take (n + 1) l) asked reply held)

pub still_held : (now : conn.State) (s : State) → Keeps now s → KeepsHeld now s
still_held now s keeps asked reply held = one_holds now asked reply s keeps.leaves held

pub one_held_still : {A : Type 0} (now : conn.State) (s : State) (a : Asked) (result : Result A StoreFault) →
    OnOk result (Keeps now (next s a)) → (result ≡ Err Memory → Keeps now s) → (result ≡ Err Store → CrashLeaves now (IsEitherKept s (next s a))) → KeepsHeld now s
one_held_still now s a result answered memory store =
    ends_held now s (a ∷ []) (count_of result) (fault_of result) (one_ends now s a result answered memory store)
