-- The rows of one table, and what a change makes of them.
use Rattle.std.specs.Prelude.{◌≡◌, ◌≢◌, ◌⊎◌, ◌&&◌, ◌+◌, ◌-◌, Bool, true, false, Option, None, Some, ℕ, ℤ, zero, suc, List, [], ◌∷◌, map, filter, length, codes, IsPermutation, IsSorted}
use Rattle.std.specs.Ordering.{is_eq, ordering_then}
use Rattle.std.specs.declared.cmp.Ordering.{Ordering}
use Rattle.std.specs.declared.cmp.Ordering.TheVariants.{Equal}
use Rattle.std.specs.List.{AllByRecursion}
use Rattle.sqlite_value.specs.declared.value.Value.{Value}
use Rattle.sqlite_value.specs.declared.value.Value.TheVariants.{Int}
use Rattle.sqlite_value.specs.Order.{Row, column, value_cmp}
use Rattle.sqlite_trees.specs.Tree.{Trees, rowid, IsAscending}
use Rattle.sqlite_trees.specs.View.{is_int}
use Rattle.sqlite_sql.specs.Ops.{fits_i64}
use Rattle.sqlite_rules.specs.Edit.{IsOversized, is_taken, next_rowid}
use Rattle.sqlite_rules.specs.Lists.{Has}
use Rattle.sqlite.specs.Effect.{Database}
use Rattle.sqlite.specs.Does.{lacks_sequence}
use Rattle.sqlite_schema.specs.declared.schema.Index.{Index}
use Rattle.sqlite_schema.specs.declared.schema.Schema.{Schema}
use Rattle.sqlite_schema.specs.declared.schema.Table.{Table}
use Rattle.sqlite_schema.specs.Rules.{agree, guards}
use Rattle.sqlite_catalog.specs.Change.{is_used, created}
use Rattle.tables.specs.Schema.{BookTable, IsTable, IsUnreferenced, OnlyKeysGuard, AreOnTables, table_found, table_of}

-- these are this many columns of a row, from a place on
abbrev pub cells_from : ℕ → ℕ → Row → Row
cells_from zero at row = []
cells_from (suc count) at row = column row at ∷ cells_from count (suc at) row

-- these are the columns of a table in a stored row, which begins with the number that it is stored
-- under
abbrev pub cells : BookTable → Row → Row
cells table = cells_from (length table.columns) 1

-- these are the rows in the tree of a table; where there is no table, there is no row
abbrev pub kept_in : Trees → Option Table → List Row
kept_in trees None = []
kept_in trees (Some t) = trees t.tree

-- these are the rows of a table as they are stored; the schema finds the table by its name
abbrev pub stored : BookTable → Database → List Row
stored table db = kept_in db.trees (table_found db.schema table.name)

-- these are the rows of a table, without the numbers that they are stored under
abbrev pub rows_of : BookTable → Database → List Row
rows_of table db = map (cells table) (stored table db)

-- no two places of the list have rows that are stored under one number
abbrev pub StandApart : List Row → Type 0
StandApart = IsAscending (λ a b. value_cmp (rowid a) (rowid b) ≢ Equal)

-- each row of the list is stored under a number of its own
pub record AreNumbered (rows : List Row) : Type 0 where
  pub numbered : (r : Row) → Has rows r → is_int (rowid r) ≡ true
  pub apart : StandApart rows

-- each row of the table is stored under a number of its own
abbrev pub IsStored : BookTable → Database → Type 0
IsStored table db = AreNumbered (stored table db)

-- ---- which rows: a test, where values are compared as SQL compares them, and columns count from 0

-- the row has these values from a column on, as SQL compares values; columns count from 0
abbrev pub begins_from : ℕ → List Value → Row → Bool
begins_from at [] row = true
begins_from at (v ∷ vs) row = is_eq (value_cmp (column row at) v) && begins_from (at + 1) vs row

-- the first columns of the row have these values, as SQL compares values
abbrev pub begins_with : List Value → Row → Bool
begins_with = begins_from 0

-- the row has this value at this column, as SQL compares values; columns count from 0
abbrev pub equals_at : ℕ → Value → Row → Bool
equals_at at v row = is_eq (value_cmp (column row at) v)

-- two rows have the same values at the columns of a key, as SQL compares values; a key counts
-- columns from 1
abbrev pub same_at : List ℕ → Row → Row → Bool
same_at [] a b = true
same_at (p ∷ ps) a b = is_eq (value_cmp (column a (p - 1)) (column b (p - 1))) && same_at ps a b

-- some row of the table has the values of this row at the columns of some key of the table
abbrev pub HasKeyOf : BookTable → Row → Database → Type 0
HasKeyOf table row db =
    (x : Row) × (key : List ℕ) × Has (rows_of table db) x × Has table.keys key
    × (same_at key x row ≡ true)

-- ---- what is found

-- a read finds just the rows of the table that pass the test, each as often as the table has it, in
-- any order
abbrev pub Finds : BookTable → (Row → Bool) → Database → List Row → Type 0
Finds table test db found = IsPermutation (filter test (rows_of table db)) found

-- two rows are compared by this many columns from a place on, as SQL orders values
abbrev pub columns_cmp : ℕ → ℕ → Row → Row → Ordering
columns_cmp zero at a b = Equal
columns_cmp (suc count) at a b =
    ordering_then (value_cmp (column a at) (column b at)) (columns_cmp count (suc at) a b)

-- a read finds all rows of the table, in the order of this many first columns
abbrev pub FindsInOrder : ℕ → BookTable → Database → List Row → Type 0
FindsInOrder count table db found =
    Finds table (begins_with []) db found × IsSorted (columns_cmp count 0) found

-- some row of the table passes the test and is no record
abbrev pub HasNoRecord : BookTable → (Row → Bool) → (Row → Type 0) → Database → Type 0
HasNoRecord table test IsRecord db =
    (x : Row) × Has (rows_of table db) x × (test x ≡ true) × ¬ IsRecord x

-- ---- what a row is refused for

-- no number is left to store a new row under: the number above the last has more than 64 bits, or
-- is taken
abbrev pub HasNoNumber : BookTable → Database → Type 0
HasNoNumber table db =
    (fits_i64 (next_rowid (stored table db)) ≡ false)
    ⊎ (is_taken (stored table db) (Int (next_rowid (stored table db)) ∷ []) ≡ true)

-- a new row is stored in this form, behind the number above the last
abbrev pub stored_next : BookTable → Row → Database → Row
stored_next table row db = Int (next_rowid (stored table db)) ∷ row

-- a UNIQUE index of the table, that of one of its keys or another, has the row's key already
abbrev pub IsKeyTaken : BookTable → Row → Database → Type 0
IsKeyTaken table row db =
    (t : Table) × (table_found db.schema table.name ≡ Some t)
    × (i : Index) × Has db.schema.indexes i × (guards i t ≡ true)
    × (x : Row) × Has (db.trees t.tree) x
    × (agree i.order i.columns x i.columns (stored_next table row db) ≡ true)

-- a new row takes more than a billion bytes, or its entry in an index does
abbrev pub IsTooBig : BookTable → Row → Database → Type 0
IsTooBig table row db =
    (t : Table) × (table_found db.schema table.name ≡ Some t)
    × IsOversized db.schema t (stored_next table row db)

-- what a change makes of some row that passes the test takes more than a billion bytes, or its
-- entry in an index does
abbrev pub BecomesTooBig : BookTable → (Row → Bool) → (Row → Row) → Database → Type 0
BecomesTooBig table test change db =
    IsStored table db → (was : Row) × Has (rows_of table db) was × (test was ≡ true)
    × (t : Table) × (table_found db.schema table.name ≡ Some t)
    × (n : ℤ) × IsOversized db.schema t (Int n ∷ change was)

-- ---- what is changed

-- After a change the table has just the rows of which `Is` holds. The schema and each other table,
-- of the book or not, are as they were.
pub record Changes (table : BookTable) (old new : Database) (Is : Row → Type 0) : Type 0 where
  pub schema : new.schema ≡ old.schema
  pub has : (x : Row) → Has (rows_of table new) x → Is x
  pub all : (x : Row) → Is x → Has (rows_of table new) x
  pub others :
      AllByRecursion (λ t. t.name ≢ table.name → new.trees t.tree ≡ old.trees t.tree)
      old.schema.tables
  pub keeps :
      (other : BookTable) → IsTable other old.schema → other.name ≢ table.name
      → stored other new ≡ stored other old
  pub stored : IsStored table old → IsStored table new

-- after a change the table has each row that it had, and this row
abbrev pub Inserts : BookTable → Row → Database → Database → Type 0
Inserts table row old new = Changes table old new (λ x. (x ≡ row) ⊎ Has (rows_of table old) x)

-- after a change the table has just the rows that it had and that fail the test
abbrev pub Deletes : BookTable → (Row → Bool) → Database → Database → Type 0
Deletes table test old new =
    IsStored table old
    → Changes table old new (λ x. Has (rows_of table old) x × (test x ≡ false))

-- after a change the table has `change` of each row that passes the test, and each other row that
-- it had
abbrev pub Updates : BookTable → (Row → Bool) → (Row → Row) → Database → Database → Type 0
Updates table test change old new =
    IsStored table old → Changes table old new (λ x.
    ((was : Row) × Has (rows_of table old) was × (test was ≡ true) × (x ≡ change was))
    ⊎ (Has (rows_of table old) x × (test x ≡ false)))

-- each table of the new schema is one of the old schema, or has the name of the table that is made,
-- or is the table in which sqlite counts for AUTOINCREMENT
abbrev pub AreOldOrMade : BookTable → Schema → Schema → Type 0
AreOldOrMade table old new =
    AllByRecursion (λ t.
    Has old.tables t ⊎ ((t.name ≡ table.name) ⊎ (t.name ≡ codes "sqlite_sequence"))) new.tables

-- A table is made: it is there and has no row, and its name was free. Each table that was there is
-- declared as it was and keeps its rows, and each view and each index stays. Beside the table are
-- made the indexes of its keys, and `sqlite_sequence` if an AUTOINCREMENT lacks it, and nothing
-- else.
pub record Makes (table : BookTable) (old new : Database) : Type 0 where
  pub free : is_used old.schema table.name ≡ false
  pub there : IsTable table new.schema
  pub empty : stored table new ≡ []
  -- the schema
  pub schema :
      lacks_sequence old.schema ≡ false → new.schema ≡ created old.schema (table_of table 0)
  pub tables : AreOldOrMade table old.schema new.schema
  pub indexes : new.schema.indexes ≡ (created old.schema (table_of table 0)).indexes
  pub views : new.schema.views ≡ old.schema.views
  -- each table that was there
  pub others :
      AllByRecursion (λ t. Has new.schema.tables t × (new.trees t.tree ≡ old.trees t.tree))
      old.schema.tables
  pub keeps :
      (other : BookTable) → IsTable other old.schema
      → IsTable other new.schema × (stored other new ≡ stored other old)
  -- the foreign keys and UNIQUE indexes that bind a table
  pub unreferenced :
      (other : BookTable) → IsUnreferenced other old.schema → IsUnreferenced other new.schema
  pub guarded :
      (other : BookTable) → IsTable other old.schema → OnlyKeysGuard other.name old.schema
      → OnlyKeysGuard other.name new.schema
  pub own_guards :
      AreOnTables old.schema → OnlyKeysGuard table.name new.schema × AreOnTables new.schema
