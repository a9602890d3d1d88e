-- Lists, beside the library's lemmas.
use Rattle.std.proofs.Common.{◌≡◌, ◌≤◌, ◌-◌, ◌∙◌, refl, ap, arith, Bool, true, false, List, [], ◌∷◌, ◌++◌, map, take, length, length-drop, ◌&&◌}
use Rattle.std.specs.List.{list_all, zip}
use Rattle.std.proofs.lemmas.List.Folds.{list_all-map}
use Rattle.duty.specs.Words.{each_next, last_of}

-- a zip of two maps
pub zip-map : {A B C D : Type 0} (f : A → C) (h : B → D) (xs : List A) (ys : List B)
    → zip (map f xs) (map h ys) ≡ map (λ p. (f p.0, h p.1)) (zip xs ys)
zip-map f h [] ys = refl
zip-map f h (x ∷ xs) [] = refl
zip-map f h (x ∷ xs) (y ∷ ys) = ap (λ ps. (f x, h y) ∷ ps) (zip-map f h xs ys)

pub zip-empty : {A B : Type 0} (xs : List A) → zip {X = B} xs [] ≡ []
zip-empty [] = refl
zip-empty (x ∷ xs) = refl

pub each_next-map : {A B : Type 0} (test : B → B → Bool) (f : A → B) (xs : List A)
    → each_next test (map f xs) ≡ each_next (λ x y. test (f x) (f y)) xs
each_next-map test f [] = refl
each_next-map test f (x ∷ xs) =
    ap (list_all (λ p. test p.0 p.1)) (zip-map f f (x ∷ xs) xs)
    ∙ list_all-map (λ p. test p.0 p.1) (λ p. (f p.0, f p.1)) (zip (x ∷ xs) xs)

-- at most one element, and others after it: they are in turn where it and their first are, and they are
each_next-append : {A : Type 0} (test : A → A → Bool) (first xs : List A) → length first ≤ 1
    → each_next test (first ++ xs) ≡ (each_next test (first ++ take 1 xs) && each_next test xs)
each_next-append test [] [] h = refl
each_next-append test [] (x ∷ xs) h = refl
each_next-append test (y ∷ []) [] h = refl
each_next-append test (y ∷ []) (x ∷ xs) h =
    elim (test y x) as (λ b. (b && each_next test (x ∷ xs)) ≡ ((b && true) && each_next test (x ∷ xs))) [
      | true ↦ refl
      | false ↦ refl
    ]
each_next-append test (y ∷ z ∷ first) xs h = absurd (omega arith)

length-last_of : {A : Type 0} (xs : List A) → length (last_of xs) ≤ 1
length-last_of xs = omega (arith, length-drop (length xs - 1) xs)

-- the last of some elements, and others after it
pub each_next-last_of : {A : Type 0} (test : A → A → Bool) (before xs : List A)
    → each_next test (last_of before ++ xs) ≡ (each_next test (last_of before ++ take 1 xs) && each_next test xs)
each_next-last_of test before xs = each_next-append test (last_of before) xs (length-last_of before)
