-- The shapes of texts, by their bytes.
use Rattle.std.specs.Prelude.{ℕ, Bool, not, ◌&&◌, ◌||◌, ◌==◌, nat_le, List, length, codes}
use Rattle.std.specs.Char.{is_ascii_uppercase, is_ascii_digit}
use Rattle.std.specs.List.{list_all}

-- whether a number is one from low to high
abbrev pub is_within : ℕ → ℕ → ℕ → Bool
is_within low high n = nat_le low n && nat_le n high

-- whether a byte is one of A-Z and 0-9
abbrev pub is_code_byte : ℕ → Bool
is_code_byte byte = is_ascii_uppercase byte || is_ascii_digit byte

-- whether a byte is one of A-Z and 0-9, or the hyphen (45)
abbrev pub is_id_byte : ℕ → Bool
is_id_byte byte = is_code_byte byte || byte == 45

-- whether a byte is no control character
abbrev pub is_plain_byte : ℕ → Bool
is_plain_byte byte = nat_le 32 byte && not (byte == 127)

-- whether a text is an id of a crew member, a pairing, a ground duty, a base or an outside period:
-- 1 to 12 of the bytes of ids
abbrev pub is_id : List ℕ → Bool
is_id text = is_within 1 12 (length text) && list_all is_id_byte text

-- the id of the base that every book has
abbrev pub home : List ℕ
home = codes "HOME"

-- whether a text is the number of a flight with the airline's letters: 1 to 8 of A-Z and 0-9
abbrev pub is_flight : List ℕ → Bool
is_flight text = is_within 1 8 (length text) && list_all is_code_byte text

-- whether a text is the code of an airport: 3 or 4 of A-Z and 0-9
abbrev pub is_airport : List ℕ → Bool
is_airport text = is_within 3 4 (length text) && list_all is_code_byte text

-- whether a text may be the name of a crew member or the task of a ground duty: 1 to 60 bytes, none
-- a control character
abbrev pub is_plain_text : List ℕ → Bool
is_plain_text text = is_within 1 60 (length text) && list_all is_plain_byte text
