-- The byte order mark at the start of a text.
use Rattle.std.proofs.Common.{◌≡◌, ◌≤◌, ◌<◌, ◌-◌, refl, ap, ℕ, true, false, List, [], ◌∷◌, drop, take, length, slice_index, arith, inl, inr}
use Rattle.std.proofs.lemmas.Bool.{cases_Bool}
use Rattle.csv.specs.Reading.{strip_bom, is_bom}

take_whole : (xs : List ℕ) → take (length xs) xs ≡ xs
take_whole [] = refl
take_whole (x ∷ xs) = ap (λ t. x ∷ t) (take_whole xs)

pub strip_marked : (xs : List ℕ) → 3 ≤ length xs → slice_index xs 0 ≡ 0xEF → slice_index xs 1 ≡ 0xBB → slice_index xs 2 ≡ 0xBF → take (length xs - 3) (drop 3 xs) ≡ strip_bom xs
unfolding strip_bom
strip_marked [] n a b c = absurd (omega (arith, n))
strip_marked (x ∷ []) n a b c = absurd (omega (arith, n))
strip_marked (x ∷ y ∷ []) n a b c = absurd (omega (arith, n))
strip_marked (x ∷ y ∷ z ∷ rest) n a b c =
    let count : length (x ∷ y ∷ z ∷ rest) - 3 ≡ length rest = omega arith in
    let is : is_bom x y z ≡ true = rw (a, b, c) refl in
    rw (count, is) (take_whole rest)

pub strip_short : (xs : List ℕ) → length xs < 3 → xs ≡ strip_bom xs
unfolding strip_bom
strip_short [] n = refl
strip_short (x ∷ []) n = refl
strip_short (x ∷ y ∷ []) n = refl
strip_short (x ∷ y ∷ z ∷ rest) n = absurd (omega (arith, n))

pub strip_unmarked : (xs : List ℕ) → is_bom (slice_index xs 0) (slice_index xs 1) (slice_index xs 2) ≡ false → xs ≡ strip_bom xs
unfolding strip_bom
strip_unmarked [] h = refl
strip_unmarked (x ∷ []) h = refl
strip_unmarked (x ∷ y ∷ []) h = refl
strip_unmarked (x ∷ y ∷ z ∷ rest) h = let is : is_bom x y z ≡ false = h in rw is refl

-- what is as long without it had none
pub strip_as_long : (xs : List ℕ) → length (strip_bom xs) ≡ length xs → strip_bom xs ≡ xs
unfolding strip_bom
strip_as_long [] h = refl
strip_as_long (x ∷ []) h = refl
strip_as_long (x ∷ y ∷ []) h = refl
strip_as_long (x ∷ y ∷ z ∷ rest) h = elim (cases_Bool (is_bom x y z)) [
  | inl is ↦ let e = rw is at h in absurd (omega (arith, e))
  | inr not_so ↦ rw not_so refl
]
