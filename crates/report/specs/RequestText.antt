-- What the book keeps under the number of a request, as a text.
use Rattle.std.specs.Prelude.{ℕ, List, ◌++◌, codes}
use Rattle.std.specs.Fmt.{decimal}
use Rattle.std.specs.List.{flat_map}
use Rattle.roster.specs.State.{State}
use Rattle.roster.specs.declared.state.LoggedCommand.{LoggedCommand}
use Rattle.stored_json.specs.KeptText.{kept_text}
use Rattle.stored_json.specs.ReplyText.{reply_text}
use Rattle.report.specs.Kept.{kept_under, part_in}

-- the first line of the text, with the number of the request
abbrev pub request_header : (number : ℕ) → List ℕ
request_header number = codes "REQUEST " ++ decimal number ++ codes "\n"

-- a line of a part: the part, and a text
abbrev pub part_line : (part : ℕ) → List ℕ → List ℕ
part_line part text = decimal part ++ codes " " ++ text ++ codes "\n"

-- the two lines of a part: the kept text of the command, and the text of the reply
abbrev pub part_lines : (part : ℕ) → LoggedCommand → List ℕ
part_lines part kept =
    part_line part (kept_text kept.command) ++ part_line part (reply_text kept.reply)

-- the text of the request with this number: the first line, and the lines of its parts in turn
abbrev pub request_text : State → (number : ℕ) → List ℕ
request_text s number =
    request_header number
    ++ flat_map (λ row. part_lines (part_in row.0) row.1) (kept_under s number)
