-- What a text of a written form holds at each place.
use Rattle.std.proofs.Common.{nat_eq, ◌≡◌, ℕ, zero, suc, ◌<◌, Bool, true, false, List, [], ◌∷◌, length, get_or, ◌&&◌, ◌||◌, refl, arith, rules}
use Rattle.std.proofs.lemmas.Bool.Decides.{nat_tests}
use Rattle.std.specs.Prelude.{codes}
use Rattle.std.specs.List.{list_all, zip}
use Rattle.std.specs.Char.{is_ascii_digit, IsAsciiDigit}
use Rattle.time117.specs.Instant.{fits, has_form, is_written}

pub both : (a b : Bool) → (a && b) ≡ true → (a ≡ true) × (b ≡ true)
both true b h = (refl, h)
both false b h = absurd (search rules)

-- each byte fits the letter at its place
zip_fits : (form text : List ℕ) → length form ≡ length text → list_all (λ p. fits p.0 p.1) (zip form text) ≡ true → (k : ℕ) → k < length form → fits (get_or form k 0) (get_or text k 0) ≡ true
zip_fits [] text e t k h = absurd (omega arith)
zip_fits (p ∷ ps) [] e t k h = absurd (omega arith)
zip_fits (p ∷ ps) (b ∷ bs) e t zero h = (both _ _ t).0
zip_fits (p ∷ ps) (b ∷ bs) e t (suc k) h = zip_fits ps bs (omega arith) (both _ _ t).1 k (omega arith)

pub has_form_length : (form text : List ℕ) → has_form form text ≡ true → length form ≡ length text
has_form_length form text h = grind (arith, nat_tests, (both (nat_eq (length form) (length text)) _ h).0)

fits_at : (form text : List ℕ) → has_form form text ≡ true → (k : ℕ) → k < length form → fits (get_or form k 0) (get_or text k 0) ≡ true
fits_at form text h k lt = zip_fits form text (has_form_length form text h) (both _ _ h).1 k lt

is_digit_of : (c : ℕ) → is_ascii_digit c ≡ true → IsAsciiDigit c
is_digit_of c h = grind (arith, nat_tests)

-- a digit stands wherever both forms want one
pub digit_at : (text : List ℕ) → is_written text ≡ true → (k : ℕ) → get_or (codes "dddd-dd-ddTdd:ddZ") k 0 ≡ 100 → get_or (codes "dddd-dd-ddTdd:dd:00Z") k 0 ≡ 100 → k < 17 → IsAsciiDigit (get_or text k 0)
digit_at text h k first second lt =
    by_form (has_form (codes "dddd-dd-ddTdd:ddZ") text) refl
  where
    fits_digit : (letter byte : ℕ) → letter ≡ 100 → fits letter byte ≡ true → IsAsciiDigit byte
    fits_digit letter byte e f = is_digit_of byte (rw e at f)

    other : (a b : Bool) → a ≡ false → (a || b) ≡ true → b ≡ true
    other a b e t = rw e at t

    by_form : (b : Bool) → has_form (codes "dddd-dd-ddTdd:ddZ") text ≡ b → IsAsciiDigit (get_or text k 0)
    by_form true e = fits_digit _ _ first (fits_at (codes "dddd-dd-ddTdd:ddZ") text e k lt)
    by_form false e = fits_digit _ _ second (fits_at (codes "dddd-dd-ddTdd:dd:00Z") text (other _ _ e h) k (omega arith))
