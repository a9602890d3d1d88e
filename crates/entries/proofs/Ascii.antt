-- Texts with the shape of an id, a flight, an airport or a zone are UTF-8.
use Rattle.std.proofs.Common.{◌≡◌, ℕ, ◌<◌, Bool, true, List, [], ◌∷◌, arith, IsUtf8}
use Rattle.std.proofs.lemmas.Bool.{and_parts}
use Rattle.std.proofs.lemmas.Bool.Decides.{nat_tests}
use Rattle.std.proofs.lemmas.Str.{IsUtf8-from_ascii}
use Rattle.std.proofs.lemmas.Str.Ascii.{IsAscii-nil, IsAscii-cons}
use Rattle.std.specs.List.{list_all}
use Rattle.std.specs.Str.{IsAscii}
use Rattle.std.specs.Char.{is_ascii}
use Rattle.time117.specs.Local.{is_zone_text}
use Rattle.duty.specs.Shape.{is_id_byte, is_code_byte, is_id, is_flight, is_airport}

low_id : (b : ℕ) → is_id_byte b ≡ true → b < 128
low_id b e = grind (arith, nat_tests)

low_ascii : (b : ℕ) → is_ascii b ≡ true → b < 128
low_ascii b e = grind (arith, nat_tests)

low_code : (b : ℕ) → is_code_byte b ≡ true → b < 128
low_code b e = grind (arith, nat_tests)

all_ascii : (test : ℕ → Bool) → ((b : ℕ) → test b ≡ true → b < 128) → (text : List ℕ) → list_all test text ≡ true → IsAscii text
all_ascii test low [] e = IsAscii-nil
all_ascii test low (b ∷ bs) e = let parts = and_parts (test b) (list_all test bs) e in IsAscii-cons b bs (low b parts.0) (all_ascii test low bs parts.1)

pub id_utf8 : (text : List ℕ) → is_id text ≡ true → IsUtf8 text
id_utf8 text e = IsUtf8-from_ascii text (all_ascii is_id_byte low_id text (and_parts _ _ e).1)

pub flight_utf8 : (text : List ℕ) → is_flight text ≡ true → IsUtf8 text
flight_utf8 text e = IsUtf8-from_ascii text (all_ascii is_code_byte low_code text (and_parts _ _ e).1)

pub airport_utf8 : (text : List ℕ) → is_airport text ≡ true → IsUtf8 text
airport_utf8 text e = IsUtf8-from_ascii text (all_ascii is_code_byte low_code text (and_parts _ _ e).1)

-- so is the text of a zone
pub zone_utf8 : (text : List ℕ) → is_zone_text text ≡ true → IsUtf8 text
zone_utf8 text e = IsUtf8-from_ascii text (all_ascii is_ascii low_ascii text (and_parts _ _ (and_parts _ _ e).0).1)
