-- What the body of a request is read as: a text within its bounds as the object that it is, other bytes as none.
use Rattle.std.proofs.Common.{◌≡◌, ◌≤◌, ℕ, true, false, List, length, Err, refl, arith, nat_le}
use Rattle.std.proofs.lemmas.Bool.Decides.{nat_tests}
use Rattle.std.proofs.lemmas.Str.{IsUtf8-from_is_utf8, is_utf8-from_IsUtf8}
use Rattle.std.specs.Prelude.{Bool}
use Rattle.std.specs.Str.{IsUtf8, is_utf8}
use Rattle.codec.specs.Requests.{read_body}
use Rattle.stored_json.specs.CommandJson.{read_object}
use Rattle.stored_json.specs.declared.fault.CodecFault.TheVariants.{BadJson}
use Rattle.stored_json.specs.declared.field.JsonField.TheVariants.{Body}

within : (n : ℕ) → n ≤ 1_048_576 → nat_le n 1_048_576 ≡ true
within n h = grind (arith, nat_tests)

pub body_of_text : (body : List ℕ) → length body ≤ 1_048_576 → IsUtf8 body → read_body body ≡ read_object body
body_of_text body short text = rw (within (length body) short, is_utf8-from_IsUtf8 body text) refl

is_no_text : (body : List ℕ) → ¬ (IsUtf8 body) → is_utf8 body ≡ false
is_no_text body h = by (is_utf8 body) refl
  where
    by : (b : Bool) → is_utf8 body ≡ b → b ≡ false
    by true e = absurd (h (IsUtf8-from_is_utf8 body e))
    by false e = refl

pub body_of_no_text : (body : List ℕ) → length body ≤ 1_048_576 → ¬ (IsUtf8 body) → read_body body ≡ Err (BadJson Body)
body_of_no_text body short h = rw (within (length body) short, is_no_text body h) refl
