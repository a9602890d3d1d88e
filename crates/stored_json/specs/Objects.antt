-- Objects by lists of their members, which may stand in a list in any order.
use Rattle.std.specs.Prelude.{ℕ, List, [], ◌∷◌}
use Rattle.std.specs.Borrow.{Bor}
use Rattle.serde_json.specs.Data.{Data, number, unsigned, string, object, Members, no_members, put}
use Rattle.limits.specs.SectionText.{section_text}
use Rattle.command.specs.Texts.{seat_text}
use Rattle.stored_json.specs.Values.{instant_json}
use Rattle.stored_json.specs.declared.objects.Scalar.{Scalar}
use Rattle.stored_json.specs.declared.objects.Scalar.TheVariants as scalar

-- the JSON value of a member that is no list
abbrev pub scalar_json : Scalar → Data
scalar_json (scalar.Text text) = string text.now
scalar_json (scalar.Number n) = number (unsigned n)
scalar_json (scalar.Instant minute) = instant_json minute
scalar_json (scalar.Seat seat) = string (seat_text seat)
scalar_json (scalar.Section section) = string (section_text section)

-- an object's members with the members of a list added, each in its place in byte order of the
-- names
abbrev pub with_members : List (Bor (List ℕ) × Scalar) → Members → Members
with_members [] members = members
with_members (m ∷ ms) members = with_members ms (put m.0.now (scalar_json m.1) members)

-- the object with these members
abbrev pub object_json : List (Bor (List ℕ) × Scalar) → Data
object_json members = object (with_members members no_members)

-- the object with these members, and with a list under this name
abbrev pub object_with_list_json : List (Bor (List ℕ) × Scalar) → List ℕ → Data → Data
object_with_list_json members name list =
    object (put name list (with_members members no_members))
