-- What the functions of this crate say to one another of how a table is declared. No public
-- clause names these definitions.
use Rattle.std.specs.Prelude.{◌≡◌, ◌<◌, ◌^◌, Ok, ◌||◌, ◌&&◌, ◌==◌, [], None, true, false, not, All, Bool, List, ℕ, bytes_eq}
use Rattle.std.specs.List.{list_all, list_any}
use Rattle.sqlite_value.specs.declared.value.Value.TheVariants.{Null}
use Rattle.sqlite_resolve.specs.Compile.{table_defined_by}
use Rattle.sqlite_schema.specs.Names.{same_name}
use Rattle.sqlite_schema.specs.declared.schema.Column.{Column}
use Rattle.sqlite_schema.specs.Rules.{guards}
use Rattle.sqlite_schema.specs.declared.schema.Index.{Index}
use Rattle.sqlite_schema.specs.declared.schema.Table.{Table}
use Rattle.tables.specs.Schema.{BookTable, table_of}

-- no column of the table is the row's number, and the table counts, checks, refers to and computes
-- nothing
pub record IsSimple (t : Table) : Type 0 where
  pub key : t.key ≡ None
  pub uncounted : t.is_counted ≡ false
  pub checks : t.checks ≡ []
  pub references : t.references ≡ []
  pub computed : t.computed ≡ []
  pub stamps : t.stamps ≡ record { places = []; terms = []; formats = [] }

-- no column of the list has a default value
abbrev pub HaveNoDefault : List Column → Type 0
HaveNoDefault = All (λ c. c.default ≡ Null)

-- two tables have the same name, columns, primary key, unique keys and orders of their keys
pub record IsLike (a b : Table) : Type 0 where
  pub name : a.name ≡ b.name
  pub columns : a.columns ≡ b.columns
  pub primary : a.primary ≡ b.primary
  pub uniques : a.uniques ≡ b.uniques
  pub orders : a.orders ≡ b.orders

-- each table of the list that is kept in this tree has this name
abbrev pub is_own_tree : List Table → ℕ → List ℕ → Bool
is_own_tree tables tree name = list_all (λ t. not (t.tree == tree) || bytes_eq t.name name) tables

-- the table that was found is declared as the wanted one, and is kept in a tree of its own below
-- 2^31
pub record StandsAs (tables : List Table) (found wanted : Table) : Type 0 where
  pub alike : found ≡ (let t : Table = record wanted { tree = found.tree } in t)
  pub low : found.tree < 2 ^ 31
  pub own : is_own_tree tables found.tree wanted.name ≡ true

-- the SQL text declares this table of the book, and no column has a default value
pub record DeclaresTable (it : BookTable) (text : List ℕ) : Type 0 where
  pub defines : table_defined_by text ≡ Ok (table_of it 0)
  pub plain : HaveNoDefault it.columns

-- no foreign key of these tables refers to a table of this name
abbrev pub is_not_parent : List Table → List ℕ → Bool
is_not_parent tables name =
    list_all (λ t. list_all (λ ref. not (same_name name ref.parent)) t.references) tables

-- the index has the columns of one of these keys, and compares them as plain values
abbrev pub is_of_key : List (List ℕ) → Index → Bool
is_of_key keys index =
    (index.order.digits == 0) && list_any (λ key. bytes_eq key index.columns) keys

-- each UNIQUE index on the table is one that the table's own keys call for
abbrev pub only_keys_guard : Table → List Index → Bool
only_keys_guard t indexes =
    list_all (λ index. not (guards index t) || is_of_key t.uniques index) indexes
