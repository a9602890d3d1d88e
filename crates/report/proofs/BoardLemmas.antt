-- A day is cut from its first minute between two characters; and the members of a board one by one.
use Rattle.std.proofs.Common.{◌≡◌, ◌∙◌, refl, sym, ap, subst, ℕ, List, [], ◌∷◌, ◌++◌, append-nil, append_assoc, ◌<◌, ◌≤◌, length, arith}
use Rattle.std.specs.List.{AllZip, concat}
use Rattle.std.specs.Prelude.{slice_index}
use Rattle.time117.specs.Instant.{written}

-- a text may be cut at this place: it is not within a character
abbrev pub IsCutAt : List ℕ → ℕ → Type 0
IsCutAt bytes n = (n ≤ length bytes) × (0 < n → n < length bytes → 128 ≤ slice_index bytes n → 192 ≤ slice_index bytes n)

pub day_cut : (minute : ℕ) → IsCutAt (written minute) 10
unfolding written
day_cut minute = (omega arith, λ _ _ high. absurd (omega (arith, high)))

-- the texts of the first of these entries are joined, and the others are left
pub record IsBegun {X : Type 0} (R : X → List ℕ → Type 0) (all left : List X) (text : List ℕ) : Type 0 where
  pub done : List (List ℕ)
  pub are : (rest : List (List ℕ)) → AllZip R left rest → AllZip R all (done ++ rest)
  pub is : text ≡ concat done

pub begun : {X : Type 0} (R : X → List ℕ → Type 0) (all : List X) → IsBegun R all all []
begun R all = record { done = []; are = λ rest are. are; is = refl }

concat-push : (texts : List (List ℕ)) (text : List ℕ) → concat (texts ++ text ∷ []) ≡ concat texts ++ text
concat-push [] text = append-nil text
concat-push (t ∷ texts) text = ap (λ rest. t ++ rest) (concat-push texts text) ∙ sym (append_assoc t (concat texts) text)

pub one_more : {X : Type 0} (R : X → List ℕ → Type 0) (all : List X) (x : X) (left : List X) (text more after : List ℕ) →
    R x more → after ≡ text ++ more → IsBegun R all (x ∷ left) text → IsBegun R all left after
one_more R all x left text more after one joined so_far = record {
  done = so_far.done ++ more ∷ [];
  are = λ rest are. subst (AllZip R all) (sym (append_assoc so_far.done (more ∷ []) rest)) (so_far.are (more ∷ rest) (one, are));
  is = joined ∙ ap (λ t. t ++ more) so_far.is ∙ sym (concat-push so_far.done more);
}

pub all_done : {X : Type 0} (R : X → List ℕ → Type 0) (all left : List X) (text : List ℕ) → left ≡ [] → IsBegun R all left text →
    (texts : List (List ℕ)) × AllZip R all texts × (text ≡ concat texts)
all_done R all left text none so_far =
    let none_left : AllZip R left [] = subst (λ xs. AllZip R xs []) (sym none) tt in
    (so_far.done, subst (AllZip R all) (append-nil so_far.done) (so_far.are [] none_left), so_far.is)
