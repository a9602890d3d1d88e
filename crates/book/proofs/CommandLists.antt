-- Lists of commands: parts of them, what they leave, and that each is made.
use Rattle.std.proofs.Common.{◌≡◌, ◌≤◌, inl, inr, refl, ap, subst, ◌∙◌, arith, ℕ, zero, suc, ◌+◌, List, [], ◌∷◌, ◌++◌, drop, length, take}
use Rattle.command.specs.Instructions.{IsMade}
use Rattle.roster.proofs.Lists.{first_of_all, first_or_later, later, no_member}
use Rattle.roster.specs.Folds.{Asked, Fold, Replies, answer_of, next}
use Rattle.roster.specs.Laws.{AreMade}
use Rattle.roster.specs.State.{State}
use Rattle.roster.specs.Steps.{step_of}

-- ---- Lists

module _ {A : Type 0} where
  pub append_none : (xs : List A) → xs ++ [] ≡ xs
  append_none [] = refl
  append_none (x ∷ xs) = ap (λ l. x ∷ l) (append_none xs)

  pub append_all : (xs ys zs : List A) → (xs ++ ys) ++ zs ≡ xs ++ (ys ++ zs)
  append_all [] ys zs = refl
  append_all (x ∷ xs) ys zs = ap (λ l. x ∷ l) (append_all xs ys zs)

  pub both_none : (xs ys : List A) → xs ≡ [] → ys ≡ [] → xs ++ ys ≡ []
  both_none [] ys e f = f
  both_none (x ∷ xs) ys e f = absurd (cc)

  pub second_none : (xs ys : List A) → ys ≡ [] → xs ++ ys ≡ xs
  second_none xs ys e = ap (λ l. xs ++ l) e ∙ append_none xs

  pub take_first : (xs ys : List A) → take (length xs) (xs ++ ys) ≡ xs
  take_first [] ys = refl
  take_first (x ∷ xs) ys = ap (λ l. x ∷ l) (take_first xs ys)

  pub take_suc : (xs : List A) (n : ℕ) → take (suc n) xs ≡ take n xs ++ take 1 (drop n xs)
  take_suc [] zero = refl
  take_suc [] (suc n) = refl
  take_suc (x ∷ xs) zero = refl
  take_suc (x ∷ xs) (suc n) = ap (λ l. x ∷ l) (take_suc xs n)

  pub take_more : (xs : List A) (n : ℕ) → take (n + 1) xs ≡ take n xs ++ take 1 (drop n xs)
  take_more xs n = let e : n + 1 ≡ suc n = omega arith in ap (λ k. take k xs) e ∙ take_suc xs n

  pub one_taken : (xs : List A) → length (take 1 xs) ≤ 1
  one_taken [] = omega arith
  one_taken (x ∷ xs) = omega arith

-- ---- The state machine over lists

pub fold_append : (s : State) (l m : List Asked) → Fold s (l ++ m) ≡ Fold (Fold s l) m
fold_append s [] m = refl
fold_append s (a ∷ l) m = fold_append (next s a) l m

pub replies_append : (s : State) (l m : List Asked) → Replies s (l ++ m) ≡ Replies s l ++ Replies (Fold s l) m
replies_append s [] m = refl
replies_append s ((key, instruction) ∷ l) m =
    ap (λ t. answer_of (step_of s key instruction) ∷ t) (replies_append (next s (key, instruction)) l m)

pub replies_take : (s : State) (l : List Asked) (n : ℕ) → take n (Replies s l) ≡ Replies s (take n l)
replies_take s l zero = refl
replies_take s [] (suc n) = refl
replies_take s ((key, instruction) ∷ l) (suc n) =
    ap (λ t. answer_of (step_of s key instruction) ∷ t) (replies_take (next s (key, instruction)) l n)

-- ---- Commands that are made

abbrev pub All : List Asked → Type 0
All [] = Unit {0}
All (a ∷ l) = IsMade a.1 × All l

pub all_of : (l : List Asked) → AreMade l → All l
all_of [] made = tt
all_of (a ∷ l) made = (made a (first_of_all a l), all_of l (λ b c. made b (later a l b c)))

pub each_of : (l : List Asked) → All l → AreMade l
each_of [] all a c = absurd (no_member [] a refl c)
each_of (x ∷ l) all a c = elim (first_or_later x l a c) [
  | inl is ↦ subst (λ (b : Asked). IsMade b.1) is all.0
  | inr more ↦ each_of l all.1 a more
]

pub all_append : (l m : List Asked) → All l → All m → All (l ++ m)
all_append [] m first second = second
all_append (a ∷ l) m first second = (first.0, all_append l m first.1 second)

pub all_take : (l : List Asked) (n : ℕ) → All l → All (take n l)
all_take l zero all = tt
all_take [] (suc n) all = tt
all_take (a ∷ l) (suc n) all = (all.0, all_take l n all.1)

pub all_drop : (l : List Asked) (n : ℕ) → All l → All (drop n l)
all_drop l zero all = all
all_drop [] (suc n) all = tt
all_drop (a ∷ l) (suc n) all = all_drop l n all.1
