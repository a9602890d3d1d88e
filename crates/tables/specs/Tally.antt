-- How many requests a table keeps, and the highest of their numbers.
use Rattle.std.specs.Prelude.{◌≡◌, ◌≤ℤ◌, ℕ, ℤ, pos, List, [], ◌∷◌, length, Option, None, Some}
use Rattle.sqlite_value.specs.declared.value.Value.TheVariants.{Int}
use Rattle.sqlite_value.specs.Order.{Row, column}
use Rattle.sqlite_rules.specs.Lists.{Has}
use Rattle.sqlite.specs.Effect.{Database}
use Rattle.sqlite.specs.Values.{or_null}
use Rattle.tables.specs.Rows.{rows_of}
use Rattle.tables.specs.Schema.{request_table}
use Rattle.tables.specs.declared.request.RequestTally.{RequestTally}

-- some row has this whole number in this column, and no row has a higher one there; or no row has a
-- whole number there; columns count from 0
abbrev pub IsHighestAt : ℕ → List Row → Option ℤ → Type 0
IsHighestAt at rows None = (x : Row) (n : ℤ) → Has rows x → column x at ≡ Int n → ⊥
IsHighestAt at rows (Some n) =
    ((x : Row) × Has rows x × (column x at ≡ Int n))
    × ((x : Row) (m : ℤ) → Has rows x → column x at ≡ Int m → m ≤ℤ n)

-- this is how many rows the table of requests has, and the highest of their numbers
pub record IsTally (db : Database) (it : RequestTally) : Type 0 where
  pub kept : it.kept ≡ length (rows_of request_table db)
  pub highest : IsHighestAt 0 (rows_of request_table db) it.highest

-- a count, and a number that may be missing, as a row
abbrev pub tally_row : RequestTally → Row
tally_row it = Int (pos it.kept) ∷ or_null Int it.highest ∷ []

-- the row is that of a count and of a number that may be missing
abbrev pub IsTallyRow : Row → Type 0
IsTallyRow row = (it : RequestTally) × (row ≡ tally_row it)
