-- How many requests a book keeps, and which number is free for the next, as JSON.
use Rattle.std.specs.Prelude.{ℕ, [], ◌∷◌, codes, Option, Some, None}
use Rattle.std.specs.Fmt.{decimal}
use Rattle.serde_json.specs.Data.{Data, null, string}
use Rattle.stored_json.specs.Values.{object_of}

-- the number that is free for the next request, as a text; null if none is
abbrev pub next_json : Option ℕ → Data
next_json (Some number) = string (decimal number)
next_json None = null

-- how many requests are kept, as a text, and which number is free for the next
abbrev pub count_json : (kept : ℕ) → (next : Option ℕ) → Data
count_json kept next =
    object_of ((codes "count", string (decimal kept)) ∷ (codes "next", next_json next) ∷ [])
