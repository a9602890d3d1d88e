-- The periods of the pairings in which a member holds a seat.
use Rattle.std.specs.Prelude.{◌≡◌, ◌&&◌, not, Bool, true, ℕ, List, filter, flat_map, IsPermutation}
use Rattle.std.specs.Ordering.{is_eq}
use Rattle.sqlite_value.specs.declared.value.Value.{Value}
use Rattle.sqlite_value.specs.declared.value.Value.TheVariants.{Text}
use Rattle.sqlite_value.specs.Order.{Row, column, value_cmp}
use Rattle.sqlite_sql.specs.Ops.{is_null}
use Rattle.sqlite_rules.specs.Lists.{Has}
use Rattle.sqlite.specs.Effect.{Database}
use Rattle.tables.specs.Rows.{rows_of}
use Rattle.tables.specs.Schema.{period_table, seat_table}

-- two values are equal as SQL compares them: NULL equals nothing
abbrev pub equals : Value → Value → Bool
equals a b = not (is_null b) && is_eq (value_cmp a b)

-- the row of a period is of the pairing in which the row of a seat has this member
abbrev pub is_of_seat : List ℕ → Row → Row → Bool
is_of_seat crew seat period =
    equals (column period 0) (column seat 0) && equals (column seat 2) (Text crew)

-- a read finds just the periods of each seat that the member holds, each as often as the tables
-- have both, in any order
abbrev pub FindsHeld : List ℕ → Database → List Row → Type 0
FindsHeld crew db found =
    IsPermutation
    (flat_map (λ seat. filter (is_of_seat crew seat) (rows_of period_table db))
    (rows_of seat_table db))
    found

-- some period of a seat that the member holds is no record
abbrev pub HasNoHeldRecord : List ℕ → (Row → Type 0) → Database → Type 0
HasNoHeldRecord crew IsRecord db =
    (seat : Row) × (x : Row) × Has (rows_of seat_table db) seat × Has (rows_of period_table db) x
    × (is_of_seat crew seat x ≡ true) × ¬ IsRecord x
