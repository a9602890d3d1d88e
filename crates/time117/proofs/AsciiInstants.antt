-- A written instant is ASCII.
use Rattle.std.proofs.Common.{◌≡◌, ℕ, ◌<◌, Bool, true, false, List, [], ◌∷◌, length, ◌||◌, Ok, refl, arith, rules, nat_lt}
use Rattle.std.proofs.lemmas.Bool.Decides.{nat_tests}
use Rattle.std.proofs.lemmas.Str.{IsUtf8-from_ascii}
use Rattle.std.proofs.lemmas.Str.Ascii.{IsAscii-nil, IsAscii-cons}
use Rattle.std.specs.Prelude.{codes}
use Rattle.std.specs.List.{list_all, zip}
use Rattle.std.specs.Str.{IsAscii, IsUtf8}
use Rattle.time117.specs.Instant.{fits, has_form, is_written, read_instant, written}
use Rattle.time117.proofs.FormLemmas.{both, has_form_length}
use Rattle.time117.proofs.WrittenLemmas.{read_written}

low : (letter byte : ℕ) → nat_lt letter 128 ≡ true → fits letter byte ≡ true → byte < 128
low letter byte a h = grind (arith, nat_tests)

ascii_of_form : (form text : List ℕ) → list_all (λ letter. nat_lt letter 128) form ≡ true → length form ≡ length text → list_all (λ p. fits p.0 p.1) (zip form text) ≡ true → IsAscii text
ascii_of_form form [] a e h = IsAscii-nil
ascii_of_form [] (b ∷ bs) a e h = absurd (omega arith)
ascii_of_form (p ∷ ps) (b ∷ bs) a e h =
    let letters = both (nat_lt p 128) (list_all (λ letter. nat_lt letter 128) ps) a in
    let bytes = both (fits p b) (list_all (λ q. fits q.0 q.1) (zip ps bs)) h in
    IsAscii-cons b bs (low p b letters.0 bytes.0) (ascii_of_form ps bs letters.1 (omega arith) bytes.1)

of_form : (form text : List ℕ) → list_all (λ letter. nat_lt letter 128) form ≡ true → has_form form text ≡ true → IsAscii text
of_form form text a h = ascii_of_form form text a (has_form_length form text h) (both _ _ h).1

is_read : (text : List ℕ) (m : ℕ) → read_instant text ≡ Ok m → is_written text ≡ true
unfolding read_instant
is_read text m h = by_form (is_written text) refl
  where
    by_form : (b : Bool) → is_written text ≡ b → b ≡ true
    by_form true e = refl
    by_form false e = absurd (search rules)

of_written : (text : List ℕ) → is_written text ≡ true → IsAscii text
of_written text h = by_form (has_form (codes "dddd-dd-ddTdd:ddZ") text) refl
  where
    other : (a b : Bool) → a ≡ false → (a || b) ≡ true → b ≡ true
    other a b e t = rw e at t

    by_form : (b : Bool) → has_form (codes "dddd-dd-ddTdd:ddZ") text ≡ b → IsAscii text
    by_form true e = of_form (codes "dddd-dd-ddTdd:ddZ") text refl e
    by_form false e = of_form (codes "dddd-dd-ddTdd:dd:00Z") text refl (other _ _ e h)

pub IsUtf8-written : (m : ℕ) → m < 52_596_000 → IsUtf8 (written m)
IsUtf8-written m h = IsUtf8-from_ascii (written m) (of_written (written m) (is_read (written m) m (read_written m h)))
