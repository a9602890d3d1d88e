-- The path of a target, and in which form a path asks for a report.
use Rattle.std.specs.Prelude.{ℕ, Bool, ◌&&◌, List, [], ◌∷◌, length, codes, bytes_eq, drop, take}
use Rattle.std.specs.Prelude.{if◌then◌else◌, ◌==◌, nat_le, position, Option, Some, None}
use Rattle.request.specs.declared.form.Form.{Form}
use Rattle.request.specs.declared.form.Form.TheVariants.{Text, Json}
use Rattle.http_message.specs.Fields.{is_same}

-- a text up to a place, or the whole text if there is no place
abbrev pub up_to : Option ℕ → List ℕ → List ℕ
up_to None text = text
up_to (Some n) text = take n text

-- the target up to its first `?`, or the whole target if it has none
abbrev pub before_query : List ℕ → List ℕ
before_query target = up_to (position (λ b. b == 63) target) target

-- a text from a place on, or a slash if there is no place
abbrev pub from_place : Option ℕ → List ℕ → List ℕ
from_place None text = 47 ∷ []
from_place (Some n) text = drop n text

-- the text from its first `/` on, or a `/` if it has none
abbrev pub from_slash : List ℕ → List ℕ
from_slash text = from_place (position (λ b. b == 47) text) text

-- whether a target begins with `http://`, in any case of its letters
abbrev pub is_absolute : List ℕ → Bool
is_absolute text = nat_le 7 (length text) && is_same (take 7 text) (codes "http://")

-- the path of a target: the target up to its first `?`; of an absolute target only from the first
-- slash after the authority on
abbrev pub path_of : List ℕ → List ℕ
path_of target =
    if is_absolute (before_query target) then from_slash (drop 7 (before_query target))
    else before_query target

-- whether a path begins with `/json`
abbrev pub has_json : List ℕ → Bool
has_json path = bytes_eq (take 5 path) (codes "/json")

-- the form in which a path asks for a report
abbrev pub form_of : List ℕ → Form
form_of path = if has_json path then Json else Text

-- a path without a `/json` in front
abbrev pub without_json : List ℕ → List ℕ
without_json path = if has_json path then drop 5 path else path
