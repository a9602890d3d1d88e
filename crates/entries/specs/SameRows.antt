-- That the rows of a state say all of it.
use Rattle.std.specs.Prelude.{◌≡◌, ◌⊎◌, ◌↔◌, ℕ, true, List, Some}
use Rattle.std.specs.FinMap as fin
use Rattle.sqlite_value.specs.Order.{Row}
use Rattle.sqlite.specs.Effect.{Database}
use Rattle.stored_json.specs.Instants.{instruction_has_instants}
use Rattle.roster.specs.Sound.{Sound}
use Rattle.roster.specs.State.{State}
use Rattle.roster.specs.declared.state.LoggedCommand.{LoggedCommand}
use Rattle.state_rows.specs.First.{IsFirst}
use Rattle.state_rows.specs.Rows.{FirstRows, Rows, StateTable, InTable}
use Rattle.state_rows.specs.declared.edition.Edition.TheVariants.{First, Second}
use Rattle.entries.specs.Right.{IsOfEdition, IsRightBook}

-- the instants of kept commands are of the years 2000 to 2099, as the type of an instant ensures
abbrev pub HasInstants : State → Type 0
HasInstants s = (name : List ℕ) (r : LoggedCommand) → fin.get s.requests name ≡ Some r →
    instruction_has_instants r.command ≡ true

-- two states have the same rows in each table
abbrev pub SameRows : State → State → Type 0
SameRows s t = (name : StateTable) (row : Row) → InTable s name row ↔ InTable t name row

-- two sound states with the same rows are equal
abbrev pub RowsSayAll : Type 0
RowsSayAll = (s t : State) → Sound s → Sound t → HasInstants s → HasInstants t →
    SameRows s t → s ≡ t

-- one database holds the rows of one sound state at most
abbrev pub HoldsOneState : Type 0
HoldsOneState = (s t : State) (db : Database) → Sound s → Sound t → HasInstants s →
    HasInstants t → Rows s db → Rows t db → s ≡ t

-- no database is both of version 1 and of version 2
abbrev pub IsOfOneEdition : Type 0
IsOfOneEdition = (db : Database) → IsOfEdition First db → ¬ IsOfEdition Second db

-- the database has just the rows of a state: in the tables of version 2, or in the tables of
-- version 1, which then can say the state
abbrev pub EitherRows : State → Database → Type 0
EitherRows s db = (FirstRows s db × IsFirst s) ⊎ Rows s db

-- one database holds the rows of one sound state at most, whether in version 1 or in version 2
abbrev pub HoldsOneOfEither : Type 0
HoldsOneOfEither = (s t : State) (db : Database) → Sound s → Sound t → HasInstants s →
    HasInstants t → EitherRows s db → EitherRows t db → s ≡ t

-- a state whose rows are those of a right book of version 1 is one that version 1 can say
abbrev pub IsSaidByFirst : Type 0
IsSaidByFirst = (s : State) (db : Database) → IsRightBook s db → IsOfEdition First db → IsFirst s
