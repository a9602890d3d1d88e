-- Items that are taken out of a list one after the other.
use Rattle.std.proofs.Common.{◌≡◌, ◌++◌, ◌∷◌, ◌∙◌, ◌+◌, [], List, length, length-append, append-nil, append_assoc, ap, sym, refl, Some, slice_get}

there : {A : Type 0} (done rest : List A) (it : A) → slice_get (done ++ it ∷ rest) (length done) ≡ Some it
there [] rest it = refl
there (x ∷ done) rest it = there done rest it

-- the next item stands in the whole list after as many as were taken
pub next_there : {A : Type 0} (done left rest all : List A) (it : A) → done ++ left ≡ all → left ≡ it ∷ rest → slice_get all (length done) ≡ Some it
next_there done left rest all it split next = ap (λ l. slice_get l (length done)) (sym split ∙ ap (λ l. done ++ l) next) ∙ there done rest it

-- and with it taken the others are left
pub next_split : {A : Type 0} (done left rest all : List A) (it : A) → done ++ left ≡ all → left ≡ it ∷ rest → (done ++ it ∷ []) ++ rest ≡ all
next_split done left rest all it split next = append_assoc done (it ∷ []) rest ∙ ap (λ l. done ++ l) (sym next) ∙ split

-- one more is taken
pub one_more_taken : {A : Type 0} (done : List A) (it : A) → length (done ++ it ∷ []) ≡ length done + 1
one_more_taken done it = length-append done (it ∷ [])

-- all are taken where none is left
pub all_taken_out : {A : Type 0} (done left all : List A) → done ++ left ≡ all → left ≡ [] → done ≡ all
all_taken_out done left all split none = sym (append-nil done) ∙ ap (λ l. done ++ l) (sym none) ∙ split
