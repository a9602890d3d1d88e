-- What the book keeps under the number of a request, as JSON.
use Rattle.std.specs.Prelude.{ℕ, List, [], ◌∷◌, map, codes}
use Rattle.std.specs.Fmt.{decimal}
use Rattle.serde_json.specs.Data.{Data, number, unsigned, string}
use Rattle.roster.specs.State.{State}
use Rattle.roster.specs.declared.state.LoggedCommand.{LoggedCommand}
use Rattle.report.specs.Kept.{kept_under, part_in}
use Rattle.stored_json.specs.KeptText.{instruction_json}
use Rattle.stored_json.specs.ReplyText.{reply_json}
use Rattle.stored_json.specs.Values.{object_of, array_of}

-- the object of a part of a request: the command, the part's number, and the reply
abbrev pub kept_part_json : (part : ℕ) → LoggedCommand → Data
kept_part_json part kept =
    object_of ((codes "command", instruction_json kept.command)
    ∷ (codes "part", number (unsigned part)) ∷ (codes "reply", reply_json kept.reply) ∷ [])

-- the objects of the parts of a request, in turn
abbrev pub kept_parts_json : State → (number : ℕ) → List Data
kept_parts_json s n = map (λ row. kept_part_json (part_in row.0) row.1) (kept_under s n)

-- what is kept under the number of a request; the number is a text
abbrev pub request_json : State → (number : ℕ) → Data
request_json s n =
    object_of ((codes "number", string (decimal n))
    ∷ (codes "parts", array_of (kept_parts_json s n)) ∷ [])
