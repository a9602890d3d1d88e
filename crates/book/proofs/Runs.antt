-- Commands in turn, up to one more.
use Rattle.std.proofs.Common.{◌≡◌, ◌<◌, ℕ, zero, suc, ◌+◌, List, [], ◌∷◌, ◌++◌, Result, length, take, get_or, refl, ap, subst, sym, add-one, arith, inl, inr, Ok, Err, OnOk}
use Rattle.sqlite.specs.State as conn
use Rattle.roster.specs.Folds.{Asked, Fold, Replies, ReplyOrRefusal, answer_of, next}
use Rattle.roster.specs.Honest.{Honest}
use Rattle.roster.specs.State.{State}
use Rattle.roster.specs.Steps.{step_of}
use Rattle.state_rows.specs.declared.fault.StoreFault.{StoreFault}
use Rattle.state_rows.specs.declared.fault.StoreFault.TheVariants.{Store, Memory}
use Rattle.state_rows.specs.Outcomes.{CrashLeaves, IsEither, IsJust}
use Rattle.book.specs.Kept.{Keeps, IsEitherKept}

fold_suc : (s : State) (l : List Asked) (i : ℕ) (a : Asked) → i < length l → Fold s (take (suc i) l) ≡ next (Fold s (take i l)) (get_or l i a)
fold_suc s [] i a h = absurd (omega arith)
fold_suc s (x ∷ l) zero a h = refl
fold_suc s (x ∷ l) (suc i) a h = fold_suc (next s x) l i a (omega arith)

-- what one of them is answered
abbrev pub answer_in : State → Asked → ReplyOrRefusal
answer_in s a = answer_of (step_of s a.0 a.1)

replies_suc : (s : State) (l : List Asked) (i : ℕ) (a : Asked) → i < length l → take (suc i) (Replies s l) ≡ take i (Replies s l) ++ answer_in (Fold s (take i l)) (get_or l i a) ∷ []
replies_suc s [] i a h = absurd (omega arith)
replies_suc s ((key, instruction) ∷ l) zero a h = refl
replies_suc s ((key, instruction) ∷ l) (suc i) a h = ap (λ t. answer_of (step_of s key instruction) ∷ t) (replies_suc (next s (key, instruction)) l i a (omega arith))

pub fold_more : (s : State) (l : List Asked) (i : ℕ) (a : Asked) → i < length l → Fold s (take (i + 1) l) ≡ next (Fold s (take i l)) (get_or l i a)
fold_more s l i a h = subst (λ n. Fold s (take n l) ≡ next (Fold s (take i l)) (get_or l i a)) (sym (add-one i)) (fold_suc s l i a h)

pub replies_more : (s : State) (l : List Asked) (i : ℕ) (a : Asked) → i < length l → take (i + 1) (Replies s l) ≡ take i (Replies s l) ++ answer_in (Fold s (take i l)) (get_or l i a) ∷ []
replies_more s l i a h = subst (λ n. take n (Replies s l) ≡ take i (Replies s l) ++ answer_in (Fold s (take i l)) (get_or l i a) ∷ []) (sym (add-one i)) (replies_suc s l i a h)

-- ---- What is left is honest

pub one_honest : (now : conn.State) (s : State) → CrashLeaves now (IsJust s) → Honest s → CrashLeaves now Honest
one_honest now s leaves honest = record {
  crash = λ clean trees may. let it = leaves.crash clean trees may in (it.0, subst Honest (sym it.1) honest, it.2);
}

either_one : (s t r : State) → IsEither s t r → Honest s → Honest t → Honest r
either_one s t r (inl is) first second = subst Honest (sym is) first
either_one s t r (inr is) first second = subst Honest (sym is) second

pub either_honest : (now : conn.State) (s t : State) → CrashLeaves now (IsEitherKept s t) → Honest s → Honest t → CrashLeaves now Honest
either_honest now s t leaves first second = record {
  crash = λ clean trees may. let it = leaves.crash clean trees may in (it.0, either_one s t it.0 it.1.0 first second, it.2);
}

-- whatever became of one command
pub honest_left : {A : Type 0} (now : conn.State) (s t : State) (result : Result A StoreFault) → OnOk result (Keeps now t) → (result ≡ Err Memory → Keeps now s) → (result ≡ Err Store → CrashLeaves now (IsEitherKept s t)) →
    Honest s → Honest t → CrashLeaves now Honest
honest_left now s t (Ok a) answered memory store first second = one_honest now t answered.leaves second
honest_left now s t (Err Memory) answered memory store first second = one_honest now s (memory refl).leaves first
honest_left now s t (Err Store) answered memory store first second = either_honest now s t (store refl) first second
