-- An import that was stopped, and is handed in again, ends as if it had never been stopped.
use Rattle.std.proofs.Common.{◌≡◌, ℕ, zero, suc, ◌+◌, true, false, List, [], ◌∷◌, ◌++◌, take, drop, take-append-drop, Some, None, refl, sym, ap, subst, ◌∙◌, arith}
use Rattle.std.specs.FinMap as fin
use Rattle.duty.specs.Plans.{Plan}
use Rattle.command.specs.Keys.{KeyParts, key_name}
use Rattle.command.specs.contracts.instruction.CommandPartialEq.TheImpl.{ghosts as commands}
use Rattle.command.specs.declared.instruction.Instruction.{Instruction}
use Rattle.command.specs.declared.instruction.Instruction.TheVariants.{AddPairing}
use Rattle.roster.specs.Folds.{Asked, answer_of, left_by, next, Fold, Replies, import}
use Rattle.roster.specs.Laws.{Resumes}
use Rattle.roster.specs.Refusals.{is_pairing}
use Rattle.roster.specs.State.{State}
use Rattle.roster.specs.Steps.{step_of, change_of, after}
use Rattle.roster.specs.declared.state.LoggedCommand.{LoggedCommand}
use Rattle.roster.proofs.Requests.{request_of, under_held, held_leaves, now_held, keeps_requests, repeats}
use Rattle.roster.proofs.Importing.{key_of, parts_from, accepted, refused_new, accepted_new, keep_pairing, keep_free}

-- ---- A command asked again after those that followed it

-- is answered as it was, and changes nothing
pub record Again (s t : State) (key : KeyParts) (instruction : Instruction) : Type 0 where
  pub answer : answer_of (step_of t key instruction) ≡ answer_of (step_of s key instruction)
  pub state : next t (key, instruction) ≡ t

again_held : (s t : State) (key : KeyParts) (instruction : Instruction) (kept : LoggedCommand) →
    fin.get s.requests (key_name key) ≡ Some kept → fin.get t.requests (key_name key) ≡ Some kept → Again s t key instruction
again_held s t key instruction kept before then = record {
  answer = ap answer_of (under_held t key instruction kept then ∙ sym (under_held s key instruction kept before));
  state = ap (left_by t) (under_held t key instruction kept then) ∙ held_leaves t (commands.eq kept.command instruction) kept;
}

again_refused : (s t : State) (key : KeyParts) (plan : Plan) →
    fin.get s.requests (key_name key) ≡ None → fin.get t.requests (key_name key) ≡ None →
    is_pairing s plan.id ≡ true → is_pairing t plan.id ≡ true → Again s t key (AddPairing plan)
again_refused s t key plan free still there kept =
    let then = refused_new t key plan still kept in
    record { answer = ap answer_of (then ∙ sym (refused_new s key plan free there)); state = ap (left_by t) then }

again_accepted : (s t : State) (key : KeyParts) (plan : Plan) →
    step_of s key (AddPairing plan) ≡ accepted s key plan →
    fin.get t.requests (key_name key) ≡ Some (request_of (change_of s key (AddPairing plan))) →
    Again s t key (AddPairing plan)
again_accepted s t key plan before held =
    let then = repeats t key (request_of (change_of s key (AddPairing plan))) held in
    record { answer = ap answer_of then ∙ sym (ap answer_of before); state = ap (left_by t) then }

again : (number n : ℕ) (plan : Plan) (plans : List Plan) (s : State) →
    Again s (Fold s (parts_from number n (plan ∷ plans))) (key_of number n) (AddPairing plan)
again number n plan plans s =
    let key = key_of number n in
    let first : Asked = (key, AddPairing plan) in
    let later = parts_from number (n + 1) plans in
    elim (fin.get s.requests (key_name key)) as (λ o. fin.get s.requests (key_name key) ≡ o →
    Again s (Fold (next s first) later) key (AddPairing plan)) [
      | Some kept ↦ λ held.
          again_held s (Fold (next s first) later) key (AddPairing plan) kept held
          (keeps_requests s key kept (first ∷ later) held)
      | None ↦ λ free. elim (is_pairing s plan.id) as (λ b. is_pairing s plan.id ≡ b →
          Again s (Fold (next s first) later) key (AddPairing plan)) [
            | true ↦ λ there.
                let refused = refused_new s key plan free there in
                subst (λ v. Again s (Fold (left_by s v) later) key (AddPairing plan)) (sym refused)
                (again_refused s (Fold s later) key plan free (keep_free number n (n + 1) (omega arith) plans s free)
                there (keep_pairing number (n + 1) plans s plan.id there))
            | false ↦ λ absent.
                let change = change_of s key (AddPairing plan) in
                let new = accepted_new s key plan free absent in
                subst (λ v. Again s (Fold (left_by s v) later) key (AddPairing plan)) (sym new)
                (again_accepted s (Fold (after s change) later) key plan new
                (keeps_requests (after s change) key (request_of change) later (now_held s change)))
          ] refl
    ] refl

-- ---- An import asked again

pub record Repeated (s t : State) (asked : List Asked) : Type 0 where
  pub state : Fold t asked ≡ Fold s asked
  pub replies : Replies t asked ≡ Replies s asked

-- all of it
repeated : (number n : ℕ) (plans : List Plan) (s : State) →
    Repeated s (Fold s (parts_from number n plans)) (parts_from number n plans)
repeated number n [] s = record { state = refl; replies = refl }
repeated number n (plan ∷ plans) s =
    let key = key_of number n in
    let first : Asked = (key, AddPairing plan) in
    let later = parts_from number (n + 1) plans in
    let t = Fold (next s first) later in
    let it : Again s t key (AddPairing plan) = again number n plan plans s in
    let rest = repeated number (n + 1) plans (next s first) in
    record {
      state = ap (λ u. Fold u later) it.state ∙ rest.state;
      replies = ap (λ a. a ∷ Replies (next t first) later) it.answer
          ∙ ap (λ replies. answer_of (step_of s key (AddPairing plan)) ∷ replies)
          (ap (λ u. Replies u later) it.state ∙ rest.replies);
    }

-- its first commands are an import too
first_parts : (number n k : ℕ) (plans : List Plan) →
    parts_from number n (take k plans) ≡ take k (parts_from number n plans)
first_parts number n zero plans = refl
first_parts number n (suc k) [] = refl
first_parts number n (suc k) (plan ∷ plans) =
    ap (λ asked. (key_of number n, AddPairing plan) ∷ asked) (first_parts number (n + 1) k plans)

-- one list after another
fold_both : (s : State) (xs ys : List Asked) → Fold s (xs ++ ys) ≡ Fold (Fold s xs) ys
fold_both s [] ys = refl
fold_both s (x ∷ xs) ys = fold_both (next s x) xs ys

replies_both : (s : State) (xs ys : List Asked) → Replies s (xs ++ ys) ≡ Replies s xs ++ Replies (Fold s xs) ys
replies_both s [] ys = refl
replies_both s ((key, instruction) ∷ xs) ys =
    ap (λ replies. answer_of (step_of s key instruction) ∷ replies) (replies_both (next s (key, instruction)) xs ys)

-- what follows a list that is repeated is asked in the same state
and_then : (s t : State) (xs ys : List Asked) → Repeated s t xs → Repeated s t (xs ++ ys)
and_then s t xs ys it = record {
  state = fold_both t xs ys ∙ ap (λ u. Fold u ys) it.state ∙ sym (fold_both s xs ys);
  replies = replies_both t xs ys
      ∙ ap (λ replies. replies ++ Replies (Fold t xs) ys) it.replies
      ∙ ap (λ u. Replies s xs ++ Replies u ys) it.state
      ∙ sym (replies_both s xs ys);
}

-- an import that was stopped once
stopped_once : (s : State) (number k : ℕ) (plans : List Plan) →
    Repeated s (Fold s (take k (import number plans))) (import number plans)
stopped_once s number k plans =
    let asked = import number plans in
    let front : Repeated s (Fold s (take k asked)) (take k asked) =
    subst (λ xs. Repeated s (Fold s xs) xs) (first_parts number 1 k plans) (repeated number 1 (take k plans) s) in
    subst (λ xs. Repeated s (Fold s (take k asked)) xs) (take-append-drop k asked)
    (and_then s (Fold s (take k asked)) (take k asked) (drop k asked) front)

pub resumes : Resumes
resumes s number plans [] = (refl, refl)
resumes s number plans (stop ∷ stops) =
    let once = stopped_once s number stop plans in
    let more = resumes (Fold s (take stop (import number plans))) number plans stops in
    (more.0 ∙ once.state, more.1 ∙ once.replies)
