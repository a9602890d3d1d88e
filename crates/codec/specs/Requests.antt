-- What the body of a request is read as: a number and a command.
use Rattle.std.specs.Prelude.{ℕ, List, Option, Some, None, option_and_then, Result, Ok, Err}
use Rattle.std.specs.Prelude.{if◌then◌else◌, ◌&&◌, nat_le, length}
use Rattle.std.specs.Str.{is_utf8}
use Rattle.serde_json.specs.Data.{Data}
use Rattle.serde_json.specs.Find.{as_number, as_u64}
use Rattle.request.specs.Range.{is_in_range}
use Rattle.command.specs.declared.instruction.Instruction.{Instruction}
use Rattle.codec.specs.Bounds.{most_bytes}
use Rattle.stored_json.specs.CommandJson.{and_then, field_of, read_object, read_instruction}
use Rattle.stored_json.specs.Parts.{with_part}
use Rattle.stored_json.specs.declared.fault.CodecFault.{CodecFault}
use Rattle.stored_json.specs.declared.fault.CodecFault.TheVariants.{BadJson}
use Rattle.stored_json.specs.declared.field.JsonField.TheVariants.{Body, Number}

-- The number of a request. Of the numbers that serde_json reads, `as_u64` takes those written in
-- digits alone and under 2^64. A number with a point or an exponent, as 1.0 and 1e0, is a float
-- whatever its value. -0 is a float, and a whole number that 64 bits don't hold, as one of forty
-- digits, is a float. Any other number with a sign is negative. No float and no negative number is
-- read here.
abbrev pub read_number : Data → Option ℕ
read_number d =
    with_part (option_and_then as_u64 (as_number d)) (λ number.
    if is_in_range number then Some number else None)

-- the object of a request's body; the body is UTF-8 of at most 1,048,576 bytes
abbrev pub read_body : List ℕ → Result Data CodecFault
read_body body =
    if nat_le (length body) most_bytes && is_utf8 body then read_object body
    else Err (BadJson Body)

-- the number and the command of a request's body; the number is looked at first
abbrev pub read_request : List ℕ → Result (ℕ × Instruction) CodecFault
read_request body =
    and_then (read_body body) (λ d.
    and_then (field_of read_number Number d) (λ number.
    and_then (read_instruction d) (λ asked. Ok (number, asked))))
