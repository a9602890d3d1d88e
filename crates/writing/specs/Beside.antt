-- What trees keep beside the tables of a book.
use Rattle.std.specs.Prelude.{◌≡◌, ◌≢◌, ◌⊎◌, ◌++◌, ◌+◌, ℕ, false, List, [], ◌∷◌, codes}
use Rattle.sqlite_rules.specs.Lists.{Has}
use Rattle.sqlite_schema.specs.declared.schema.Index.{Index}
use Rattle.sqlite_schema.specs.declared.schema.Schema.{Schema}
use Rattle.sqlite_schema.specs.declared.schema.Table.{Table}
use Rattle.sqlite_trees.specs.Tree.{Trees}
use Rattle.sqlite_catalog.specs.Change.{automatics, created}
use Rattle.sqlite.specs.Does.{lacks_sequence}
use Rattle.sqlite.specs.Effect.{Database, IsDatabase}
use Rattle.tables.specs.Schema.{BookTable, IsTable, table_of}
use Rattle.tables.specs.Rows.{stored}
use Rattle.state_rows.specs.Rows.{StateTable, table}

-- ---- Other tables

-- no table of a book has this name
abbrev pub IsOther : List ℕ → Type 0
IsOther name = (it : StateTable) → name ≢ (table it).name

-- the trees list the schema of this database, and each table that isn't of the book has the rows
-- that it has in the database
pub record KeepOthers (db : Database) (trees : Trees) : Type 0 where
  pub database : IsDatabase (record { schema = db.schema; trees = trees })
  pub others : (t : Table) → Has db.schema.tables t → IsOther t.name →
      trees t.tree ≡ db.trees t.tree

-- ---- What is made beside other tables

-- these tables are made in a schema, one after the other, and give this schema
abbrev pub made_in : Schema → List BookTable → Schema
made_in schema [] = schema
made_in schema (t ∷ ts) = made_in (created schema (table_of t 0)) ts

-- behind the old indexes stand the indexes of the keys of these tables, table by table, and no
-- others
abbrev pub AddsKeys : List BookTable → List Index → List Index → Type 0
AddsKeys [] old new = new ≡ old
AddsKeys (t ∷ ts) old new =
    (tree : ℕ) × AddsKeys ts (old ++ automatics (table_of t tree) 0 (tree + 1) t.keys) new

-- one of these tables has this name
abbrev pub IsNameOf : List BookTable → List ℕ → Type 0
IsNameOf tables name = (t : BookTable) × Has tables t × (name ≡ t.name)

-- The second of two schemas has all that the first has, and these tables with the indexes of their
-- keys. It has nothing else, but for `sqlite_sequence` where an AUTOINCREMENT lacks it.
pub record AddsTables (tables : List BookTable) (old new : Schema) : Type 0 where
  -- each table of the first schema is declared as it was, and each other table is made
  pub kept : (t : Table) → Has old.tables t → Has new.tables t
  pub no_more : (t : Table) → Has new.tables t →
      Has old.tables t ⊎ (IsNameOf tables t.name ⊎ (t.name ≡ codes "sqlite_sequence"))
  pub indexes : AddsKeys tables old.indexes new.indexes
  pub views : new.views ≡ old.views
  -- where no AUTOINCREMENT lacks its table, just these tables are made, in this order
  pub made : lacks_sequence old ≡ false → new ≡ made_in old tables

-- The trees, by the schema that they list, have all tables, views and indexes of this database, and
-- beside them just these tables are made. Each table that isn't of the book has the rows that it
-- has in the database.
pub record KeepBeside (tables : List BookTable) (db : Database) (trees : Trees) : Type 0 where
  pub schema : Schema
  pub database : IsDatabase (record { schema = schema; trees = trees })
  pub adds : AddsTables tables db.schema schema
  pub others : (t : Table) → Has db.schema.tables t → IsOther t.name →
      trees t.tree ≡ db.trees t.tree
  -- each table that is declared as the tables of a book are declared, under another name, is kept
  pub plain : (t : BookTable) → IsTable t db.schema → IsOther t.name →
      IsTable t schema × (stored t (record { schema = schema; trees = trees }) ≡ stored t db)
