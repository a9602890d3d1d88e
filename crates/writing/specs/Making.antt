-- How the tables of a book are made.
use Rattle.std.specs.Prelude.{◌≡◌, ◌++◌, false, List, [], ◌∷◌}
use Rattle.std.specs.List.{AllByRecursion}
use Rattle.sqlite_rules.specs.Lists.{Has}
use Rattle.sqlite_schema.specs.declared.schema.Schema.{Schema}
use Rattle.sqlite_schema.specs.declared.schema.Table.{Table}
use Rattle.sqlite.specs.Does.{lacks_sequence}
use Rattle.sqlite.specs.Effect.{Database}
use Rattle.tables.specs.Schema.{BookTable, AreFree, IsTable, IsUnreferenced, OnlyKeysGuard, AreOnTables, book_tables, book_table, crew_table, pairing_table, period_table, segment_table, seat_table, ground_table, exceedance_table, request_table}
use Rattle.tables.specs.Rows.{stored}
use Rattle.writing.specs.Beside.{AddsTables}

-- the schema has no table with the name of a table of the book, and no foreign key that refers to a
-- table of the book
abbrev pub IsFree : Schema → Type 0
IsFree = AreFree book_tables

-- ---- What the functions say to one another of the tables that they make. No public clause names
-- these definitions.

-- no foreign key of the schema refers to a table of the book
abbrev pub AreUnreferenced : Schema → Type 0
AreUnreferenced schema = AllByRecursion (λ t. IsUnreferenced t schema) book_tables

-- These tables of a book are there with no row, and only their own keys guard them. No foreign key
-- refers to a table of the book, and each index is on a table that is there.
pub record HasEmpty (tables : List BookTable) (db : Database) : Type 0 where
  pub there : AllByRecursion (λ t. IsTable t db.schema × (stored t db ≡ [])) tables
  pub guarded : AllByRecursion (λ t. OnlyKeysGuard t.name db.schema) tables
  pub unreferenced : AreUnreferenced db.schema
  pub on_tables : AreOnTables db.schema

-- each table that is declared as the tables of a book are declared stays so, and has the rows that
-- it had
abbrev pub KeepsPlain : Database → Database → Type 0
KeepsPlain old new = (t : BookTable) → IsTable t old.schema →
    IsTable t new.schema × (stored t new ≡ stored t old)

-- the tables that were there are as they were declared, with the rows that they had, and just these
-- new tables are made beside them
pub record MakesBeside (tables : List BookTable) (old new : Database) : Type 0 where
  pub adds : AddsTables tables old.schema new.schema
  pub rows : (t : Table) → Has old.schema.tables t → new.trees t.tree ≡ old.trees t.tree
  pub sequence : lacks_sequence old.schema ≡ false → lacks_sequence new.schema ≡ false

-- These tables are made, one after the other, and have no row. Each table that is declared as the
-- tables of a book are declared keeps its rows. If only its own keys guarded it, only they guard it
-- still.
pub record MakesTables (tables : List BookTable) (old new : Database) : Type 0 where
  pub empty : (before : List BookTable) → HasEmpty before old → HasEmpty (before ++ tables) new
  pub keeps : KeepsPlain old new
  pub guarded : (t : BookTable) → IsTable t old.schema → OnlyKeysGuard t.name old.schema →
      OnlyKeysGuard t.name new.schema
  pub extends : MakesBeside tables old new

-- these three tables of a book are made first, in this order
abbrev pub made_first : List BookTable
made_first = book_table ∷ crew_table ∷ pairing_table ∷ []

-- these three tables of a book are made after `pairing`: from `period` to `seat`
abbrev pub made_second : List BookTable
made_second = period_table ∷ segment_table ∷ seat_table ∷ []

-- these are the last three tables of version 1, which are made after `seat`: from `ground` to
-- `request`
abbrev pub made_third : List BookTable
made_third = ground_table ∷ exceedance_table ∷ request_table ∷ []
