-- Which trees hold the tables of a book with the rows of a state, in version 2 or in version 1.
use Rattle.std.specs.Prelude.{◌≡◌, true, false}
use Rattle.sqlite_schema.specs.declared.schema.Schema.{Schema}
use Rattle.sqlite_trees.specs.Tree.{Trees}
use Rattle.sqlite.specs.Effect.{Database, IsDatabase}
use Rattle.roster.specs.State.{State}
use Rattle.tables.specs.Schema.{IsBook, IsNameFree, IsOfBook}
use Rattle.tables.specs.Rows.{IsStored}
use Rattle.state_rows.specs.First.{IsFirst}
use Rattle.state_rows.specs.Rows.{FirstRows, StateTable, is_later, table, Rows}

-- each row of each table of the book is stored under a number of its own
abbrev pub AreStored : Database → Type 0
AreStored db = (name : StateTable) → IsStored (table name) db

-- the database has the tables of a book with the rows of this state, each row under a number of its
-- own
pub record IsBookOf (s : State) (db : Database) : Type 0 where
  -- the trees list the schema, and obey it
  pub database : IsDatabase db
  pub tables : IsBook db.schema
  pub stored : AreStored db
  pub rows : Rows s db

-- the trees hold the tables of a book in this state, by the schema that they list
abbrev pub HoldBookOf : Trees → State → Type 0
HoldBookOf trees s = (schema : Schema) × IsBookOf s (record { schema = schema; trees = trees })

-- ---- The tables of version 1

-- The database has the nine tables of version 1 with the rows of this state, and the names of the
-- four tables that version 2 adds are free. (Of a table that isn't there `stored` says nothing.)
pub record IsFirstBookOf (s : State) (db : Database) : Type 0 where
  -- the trees list the schema, and obey it
  pub database : IsDatabase db
  pub tables : (name : StateTable) → is_later name ≡ false → IsOfBook (table name) db.schema
  pub free : (name : StateTable) → is_later name ≡ true → IsNameFree (table name) db.schema
  pub stored : AreStored db
  pub rows : FirstRows s db
  -- tables of version 1 can say all of the state
  pub first : IsFirst s

-- the trees hold the tables of version 1 in this state, by the schema that they list
abbrev pub HoldFirstBookOf : Trees → State → Type 0
HoldFirstBookOf trees s =
    (schema : Schema) × IsFirstBookOf s (record { schema = schema; trees = trees })
