-- Lists that a test keeps apart, and lists of what is read.
use Rattle.std.proofs.Common.{◌≡◌, ◌∙◌, ℕ, ◌+◌, Bool, true, false, not, nat_lt, List, [], ◌∷◌, ◌++◌, map, length, Option, Some, None, is_some, refl, sym, subst}
use Rattle.std.specs.Prelude.{⊤}
use Rattle.std.specs.List.{list_all, position_from}
use Rattle.std.proofs.lemmas.Bool.{and_parts, true≢false, false≢true}
use Rattle.std.proofs.lemmas.Option.{same_Some}

pub first_same : {X : Type 0} (x y : X) (xs ys : List X) → x ∷ xs ≡ y ∷ ys → x ≡ y
first_same x y xs ys e = let f = e in cc

pub rest_same : {X : Type 0} (x y : X) (xs ys : List X) → x ∷ xs ≡ y ∷ ys → xs ≡ ys
rest_same x y xs ys e = let f = e in cc

-- ---- A test

-- the list doesn't begin with what passes
abbrev pub BeginsWithout : {X : Type 0} → (X → Bool) → List X → Type 0
BeginsWithout test [] = ⊤
BeginsWithout test (x ∷ xs) = test x ≡ false

-- where a front passes, and what follows it doesn't begin with what passes, the whole determines both
pub same_front : {X : Type 0} (test : X → Bool) (xs us ys vs : List X) → list_all test xs ≡ true → list_all test ys ≡ true →
    BeginsWithout test us → BeginsWithout test vs → xs ++ us ≡ ys ++ vs → (xs ≡ ys) × (us ≡ vs)
same_front test [] us [] vs p q a b e = (refl, e)
same_front test [] us (y ∷ ys) vs p q a b e =
    let no : test y ≡ false = subst (BeginsWithout test) e a in
    absurd (true≢false (sym (and_parts (test y) _ q).0 ∙ no))
same_front test (x ∷ xs) us [] vs p q a b e =
    let no : test x ≡ false = subst (BeginsWithout test) (sym e) b in
    absurd (true≢false (sym (and_parts (test x) _ p).0 ∙ no))
same_front test (x ∷ xs) us (y ∷ ys) vs p q a b e =
    let first = first_same x y (xs ++ us) (ys ++ vs) e in
    let more = rest_same x y (xs ++ us) (ys ++ vs) e in
    let rest = same_front test xs us ys vs (and_parts (test x) _ p).1 (and_parts (test y) _ q).1 a b more in
    (λ i. first i ∷ rest.0 i, rest.1)

pub all_made : {X Y : Type 0} (test : Y → Bool) (make : X → Y) (xs : List X) → ((x : X) → test (make x) ≡ true) → list_all test (map make xs) ≡ true
all_made test make [] each = refl
all_made test make (x ∷ xs) each = rw (each x) (all_made test make xs each)

pub no_position : {X : Type 0} (test : X → Bool) (n : ℕ) (xs : List X) → list_all test xs ≡ true → position_from (λ x. not (test x)) n xs ≡ None
no_position test n [] all = refl
no_position test n (x ∷ xs) all =
    let parts = and_parts (test x) _ all in
    rw parts.0 (no_position test (n + 1) xs parts.1)

-- ---- What is made of a list that isn't empty

-- its first, and what follows
pub leads : {X Y : Type 0} (make : X → Y) (xs : List X) (rest : List Y) → nat_lt 0 (length xs) ≡ true →
    (x : X) × (more : List Y) × (map make xs ++ rest ≡ make x ∷ more)
leads make [] rest some = absurd (false≢true some)
leads make (x ∷ xs) rest some = (x, map make xs ++ rest, refl)

-- ---- What is read

pub same_values : {X : Type 0} (xs ys : List X) → map Some xs ≡ map Some ys → xs ≡ ys
same_values [] [] e = refl
same_values [] (y ∷ ys) e = absurd (let f = e in cc)
same_values (x ∷ xs) [] e = absurd (let f = e in cc)
same_values (x ∷ xs) (y ∷ ys) e =
    let first = same_Some x y (first_same (Some x) (Some y) (map Some xs) (map Some ys) e) in
    let rest = same_values xs ys (rest_same (Some x) (Some y) (map Some xs) (map Some ys) e) in
    λ i. first i ∷ rest i

pub all_read : {X Y : Type 0} (reads : X → Option Y) (xs : List X) (ys : List Y) → map reads xs ≡ map Some ys → list_all (λ x. is_some (reads x)) xs ≡ true
all_read reads [] ys e = refl
all_read reads (x ∷ xs) [] e = absurd (let f = e in cc)
all_read reads (x ∷ xs) (y ∷ ys) e =
    let first = first_same (reads x) (Some y) (map reads xs) (map Some ys) e in
    let more = rest_same (reads x) (Some y) (map reads xs) (map Some ys) e in
    rw first (all_read reads xs ys more)
