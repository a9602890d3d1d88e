-- Which refusals to load a book are true of one database.
use Rattle.std.specs.Prelude.{◌≡◌, Bool, true, false}
use Rattle.sqlite.specs.Effect.{Database}
use Rattle.roster.specs.State.{State}
use Rattle.entries.specs.Right.{IsRightBook}
use Rattle.loading.specs.Loading.{Justifies}
use Rattle.entries.specs.declared.fault.LoadFault.{LoadFault}
use Rattle.entries.specs.declared.fault.LoadFault.TheVariants.{NotABook, Damaged, Version, Fault}

-- the refusal says something of the database (40, 41 or 42), and reports neither a fault of the
-- store (90) nor that the program is out of memory (91)
abbrev pub tells : LoadFault → Bool
tells NotABook = true
tells (Damaged it) = true
tells Version = true
tells (Fault fault) = false

-- two refusals that say something of the database, and are true of one database, are equal and name
-- one table
abbrev pub IsOneRefusal : Type 0
IsOneRefusal = (db : Database) (a b : LoadFault) → tells a ≡ true → tells b ≡ true →
    Justifies a db → Justifies b db → a ≡ b

-- no refusal that says something of the database is true of a database in which each table is right
abbrev pub IsNotRefused : Type 0
IsNotRefused = (s : State) (db : Database) (fault : LoadFault) → tells fault ≡ true →
    IsRightBook s db → ¬ (Justifies fault db)
