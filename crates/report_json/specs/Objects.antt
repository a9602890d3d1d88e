-- Words for the values of reports, and the text of a report.
use Rattle.std.specs.Prelude.{ℕ, List, [], ◌∷◌, ◌++◌, codes, Option, Some, None}
use Rattle.serde_json.specs.Data.{Data, null, number, unsigned, string, object, put}
use Rattle.serde_json.specs.Written.{compact_text}
use Rattle.stored_json.specs.Values.{object_of, array_of}

-- a text, or null
abbrev pub text_or_null : Option (List ℕ) → Data
text_or_null (Some text) = string text
text_or_null None = null

-- a length in whole minutes, or null
abbrev pub length_or_null : Option ℕ → Data
length_or_null (Some n) = number (unsigned n)
length_or_null None = null

-- the object with one member, a list under this name
abbrev pub list_json : List ℕ → List Data → Data
list_json name list = object_of ((name, array_of list) ∷ [])

-- an object with this member too, in its place in byte order of the names; any other value as it is
abbrev pub with_member : List ℕ → Data → Data → Data
with_member name d (object members) = object (put name d members)
with_member name d other = other

-- the text of a report: compact, with a line end
unfoldable pub json_text : Data → List ℕ
json_text d = compact_text d ++ codes "\n"
