-- The number of digits, and of one more.
use Rattle.std.proofs.Common.{◌≡◌, ◌<◌, ◌≤◌, ◌+◌, ◌-◌, ◌*◌, ℕ, Bool, true, false, ◌&&◌, List, [], ◌∷◌, length, take, get_or, arith, suc, zero, refl}
use Rattle.std.specs.Char.{is_ascii_digit, digit_value}
use Rattle.std.specs.List.{list_all}
use Rattle.std.specs.Str.Parse.{digits_value}
use Rattle.std.proofs.lemmas.Bool.Decides.{nat_tests}
use Rattle.std.proofs.lemmas.Int.Digits.{digits_value_more}
use Rattle.http_message.specs.Numbers.{is_number}

both : (x y : Bool) → (x && y) ≡ true → (x ≡ true) × (y ≡ true)
both true y e = (refl, e)
both false y e = absurd cc

digit_at : (text : List ℕ) (i : ℕ) → list_all is_ascii_digit text ≡ true → i < length text → (48 ≤ get_or text i 0) × (get_or text i 0 ≤ 57)
digit_at [] i all h = absurd (omega arith)
digit_at (b ∷ text) zero all h = let first = (both (is_ascii_digit b) (list_all is_ascii_digit text) all).0 in (grind (arith, nat_tests), grind (arith, nat_tests))
digit_at (b ∷ text) (suc i) all h = digit_at text i (both (is_ascii_digit b) (list_all is_ascii_digit text) all).1 (omega arith)

digit_is : (b : ℕ) → 48 ≤ b → b ≤ 57 → digit_value b ≡ b - 48
digit_is b low high = grind (arith, nat_tests)

pub one_more : (text : List ℕ) (i : ℕ) → is_number text ≡ true → i < length text
    → (digits_value 10 (take (i + 1) text) ≡ digits_value 10 (take i text) * 10 + (get_or text i 0 - 48)) × (48 ≤ get_or text i 0) × (get_or text i 0 ≤ 57)
one_more text i number h =
    let digits = digit_at text i (both _ (list_all is_ascii_digit text) number).1 h in
    (omega (arith, digits_value_more 10 text i h, digit_is (get_or text i 0) digits.0 digits.1), digits.0, digits.1)
