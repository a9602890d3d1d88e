-- The tables of the book, as `sqlite` sees them once they are created.
use Rattle.std.specs.Prelude.{◌≡◌, ◌<◌, ◌^◌, Bool, true, false, [], ◌∷◌, ◌++◌, Option, None, Some, IfSome, codes, List, ℕ, map, find}
use Rattle.std.specs.List.{AllByRecursion}
use Rattle.sqlite_value.specs.declared.keys.Collation.TheVariants.{Binary}
use Rattle.sqlite_value.specs.declared.value.Value.TheVariants.{Null}
use Rattle.sqlite_value.specs.Keys.{plain}
use Rattle.sqlite_schema.specs.declared.schema.Kind.{Kind}
use Rattle.sqlite_schema.specs.declared.schema.Kind.TheVariants.{Integer, Text}
use Rattle.sqlite_schema.specs.declared.schema.Column.{Column}
use Rattle.sqlite_rules.specs.Lists.{Has}
use Rattle.sqlite_schema.specs.declared.schema.Index.{Index}
use Rattle.sqlite_schema.specs.declared.schema.Table.{Table}
use Rattle.sqlite_schema.specs.declared.schema.Schema.{Schema}
use Rattle.sqlite_schema.specs.Names.{same_name}
use Rattle.sqlite_schema.specs.Rules.{guards}

-- a STRICT column holds one kind of values, and is NOT NULL where a value is required
abbrev pub strict_column : Bool → Kind → List ℕ → Column
strict_column is_required kind name =
    record {
      name = name;
      kind = kind;
      is_strict = true;
      not_null = is_required;
      default = Null;
      collation = Binary;
    }

-- this column holds whole numbers, and none may be missing
abbrev pub number : List ℕ → Column
number = strict_column true Integer

-- this column holds texts, and none may be missing
abbrev pub words : List ℕ → Column
words = strict_column true Text

-- this column holds whole numbers, which may be missing
abbrev pub number_if_any : List ℕ → Column
number_if_any = strict_column false Integer

-- A table of the book has a name, columns, a primary key and unique keys. Columns count from 1 in a
-- key. The first unique key is the primary key, but for `book`, which has no primary key.
pub record BookTable : Type 0 where
  pub name : List ℕ
  pub columns : List Column
  pub primary : List ℕ
  pub keys : List (List ℕ)

-- the table `book` keeps the book itself, in one row of the number 1: the version of the tables,
-- and the zone
abbrev pub book_table : BookTable
book_table = record {
  name = codes "book";
  columns = number (codes "one") ∷ number (codes "version") ∷ words (codes "zone") ∷ [];
  primary = [];
  keys = (1 ∷ []) ∷ [];
}

-- the table `crew` keeps the members, by id
abbrev pub crew_table : BookTable
crew_table = record {
  name = codes "crew";
  columns = words (codes "id") ∷ number (codes "seat") ∷ words (codes "name") ∷ [];
  primary = 1 ∷ [];
  keys = (1 ∷ []) ∷ [];
}

-- the table `pairing` keeps the pairings, by id
abbrev pub pairing_table : BookTable
pairing_table = record {
  name = codes "pairing";
  columns = words (codes "id") ∷ [];
  primary = 1 ∷ [];
  keys = (1 ∷ []) ∷ [];
}

-- the table `period` keeps the periods of pairings, by pairing and number, with planned and actual
-- times
abbrev pub period_table : BookTable
period_table = record {
  name = codes "period";
  columns =
      words (codes "pairing") ∷ number (codes "number") ∷ number (codes "report_at")
      ∷ number (codes "release_at") ∷ number_if_any (codes "act_report")
      ∷ number_if_any (codes "act_release") ∷ [];
  primary = 1 ∷ 2 ∷ [];
  keys = (1 ∷ 2 ∷ []) ∷ [];
}

-- the table `segment` keeps the segments of periods, by pairing, period and number, with planned
-- and actual times
abbrev pub segment_table : BookTable
segment_table = record {
  name = codes "segment";
  columns =
      words (codes "pairing") ∷ number (codes "period") ∷ number (codes "number")
      ∷ words (codes "flight") ∷ words (codes "origin") ∷ words (codes "destination")
      ∷ number (codes "out_at") ∷ number (codes "in_at") ∷ number_if_any (codes "act_out")
      ∷ number_if_any (codes "act_in") ∷ [];
  primary = 1 ∷ 2 ∷ 3 ∷ [];
  keys = (1 ∷ 2 ∷ 3 ∷ []) ∷ [];
}

-- the table `seat` keeps the seats that are held, by pairing and seat, and by member
abbrev pub seat_table : BookTable
seat_table = record {
  name = codes "seat";
  columns = words (codes "pairing") ∷ number (codes "seat") ∷ words (codes "crew") ∷ [];
  primary = 1 ∷ 2 ∷ [];
  keys = (1 ∷ 2 ∷ []) ∷ (3 ∷ 1 ∷ []) ∷ [];
}

-- the table `ground` keeps the ground duties, by id, and by member
abbrev pub ground_table : BookTable
ground_table = record {
  name = codes "ground";
  columns =
      words (codes "id") ∷ words (codes "crew") ∷ words (codes "task")
      ∷ number (codes "begin_at") ∷ number (codes "end_at") ∷ [];
  primary = 1 ∷ [];
  keys = (1 ∷ []) ∷ (2 ∷ 1 ∷ []) ∷ [];
}

-- the table `exceedance` keeps the exceedances, by the key that recorded them, member and section,
-- with the period
abbrev pub exceedance_table : BookTable
exceedance_table = record {
  name = codes "exceedance";
  columns =
      number (codes "number") ∷ number (codes "part") ∷ words (codes "crew")
      ∷ number (codes "section") ∷ words (codes "pairing") ∷ number (codes "period") ∷ [];
  primary = 1 ∷ 2 ∷ 3 ∷ 4 ∷ [];
  keys = (1 ∷ 2 ∷ 3 ∷ 4 ∷ []) ∷ [];
}

-- the table `request` keeps the commands that were accepted, by their keys, with their replies
abbrev pub request_table : BookTable
request_table = record {
  name = codes "request";
  columns =
      number (codes "number") ∷ number (codes "part") ∷ words (codes "command")
      ∷ words (codes "reply") ∷ [];
  primary = 1 ∷ 2 ∷ [];
  keys = (1 ∷ 2 ∷ []) ∷ [];
}

-- the table `base` keeps the bases, by id, each with the rule text of its zone
abbrev pub base_table : BookTable
base_table = record {
  name = codes "base";
  columns = words (codes "id") ∷ words (codes "zone") ∷ [];
  primary = 1 ∷ [];
  keys = (1 ∷ []) ∷ [];
}

-- the table `crew_base` keeps the base of each member, by the member's id
abbrev pub crew_base_table : BookTable
crew_base_table = record {
  name = codes "crew_base";
  columns = words (codes "crew") ∷ words (codes "base") ∷ [];
  primary = 1 ∷ [];
  keys = (1 ∷ []) ∷ [];
}

-- the table `outside` keeps the outside periods, by id, and by member
abbrev pub outside_table : BookTable
outside_table = record {
  name = codes "outside";
  columns =
      words (codes "id") ∷ words (codes "crew") ∷ number (codes "report_at")
      ∷ number (codes "release_at") ∷ [];
  primary = 1 ∷ [];
  keys = (1 ∷ []) ∷ (2 ∷ 1 ∷ []) ∷ [];
}

-- the table `outside_segment` keeps the segments of outside periods, by outside period and number
abbrev pub outside_segment_table : BookTable
outside_segment_table = record {
  name = codes "outside_segment";
  columns =
      words (codes "outside") ∷ number (codes "number") ∷ number (codes "out_at")
      ∷ number (codes "in_at") ∷ [];
  primary = 1 ∷ 2 ∷ [];
  keys = (1 ∷ 2 ∷ []) ∷ [];
}

-- The text of a table of the book declares this table, which is kept in this tree. The table is
-- strict and has its keys alone: no check, no reference, no computed default, and no column that is
-- the row's number.
abbrev pub table_of : BookTable → ℕ → Table
table_of it tree = record {
  name = it.name;
  tree = tree;
  columns = it.columns;
  key = None;
  primary = it.primary;
  uniques = it.keys;
  orders = map (λ _. plain) it.keys;
  checks = [];
  references = [];
  computed = [];
  stamps = record { places = []; terms = []; formats = [] };
  is_counted = false;
}

-- a book has had these nine tables since version 1, in the order in which they are made
abbrev pub first_tables : List BookTable
first_tables =
    book_table ∷ crew_table ∷ pairing_table ∷ period_table ∷ segment_table ∷ seat_table
    ∷ ground_table ∷ exceedance_table ∷ request_table ∷ []

-- version 2 has these four tables besides the nine of version 1, in the order in which they are
-- made
abbrev pub later_tables : List BookTable
later_tables = base_table ∷ crew_base_table ∷ outside_table ∷ outside_segment_table ∷ []

-- a book of version 2 has these thirteen tables, in the order in which they are made
abbrev pub book_tables : List BookTable
book_tables = first_tables ++ later_tables

-- ---- what a schema has

-- a name finds this table of the schema; letters of ASCII match in either case
abbrev pub table_found : Schema → List ℕ → Option Table
table_found schema name = find (λ t. same_name t.name name) schema.tables

-- A table of the book is there as its text declares it, and no table with another name is kept in
-- its tree. Where it stands among the tables, and what the other tables are, is open. (`sqlite`
-- keeps every table in a tree of its own, but no clause of `sqlite` says so.)
pub record IsTable (it : BookTable) (schema : Schema) : Type 0 where
  pub tree : ℕ
  pub found : table_found schema it.name ≡ Some (table_of it tree)
  pub low : tree < 2 ^ 31
  pub alone : AllByRecursion (λ t. t.tree ≡ tree → t.name ≡ it.name) schema.tables

-- no foreign key of the schema refers to a table of this name
abbrev pub NoneRefersTo : List ℕ → Schema → Type 0
NoneRefersTo name schema =
    AllByRecursion (λ t. AllByRecursion (λ ref. same_name name ref.parent ≡ false) t.references)
    schema.tables

-- no foreign key of the schema refers to this table of a book, so that a change of its rows changes
-- no other table
abbrev pub IsUnreferenced : BookTable → Schema → Type 0
IsUnreferenced it = NoneRefersTo it.name

-- the index has the columns of one of these keys, and compares them as plain values
abbrev pub IsOfKey : List (List ℕ) → Index → Type 0
IsOfKey keys index = Has keys index.columns × (index.order ≡ plain)

-- each UNIQUE index on the table of this name is one that the table's own keys call for
abbrev pub OnlyKeysGuard : List ℕ → Schema → Type 0
OnlyKeysGuard name schema =
    IfSome (table_found schema name) (λ t.
    AllByRecursion (λ index. guards index t ≡ true → IsOfKey t.uniques index) schema.indexes)

-- each index of the schema is on a table of the schema
abbrev pub AreOnTables : Schema → Type 0
AreOnTables schema =
    AllByRecursion (λ index. (t : Table) × Has schema.tables t × (index.table ≡ t.tree))
    schema.indexes

-- Nothing of another hand stands between the table of this name and its rows: no foreign key
-- refers to the table, and no UNIQUE index guards it but those of its own keys.
abbrev pub IsSpared : List ℕ → Schema → Type 0
IsSpared name schema = NoneRefersTo name schema × OnlyKeysGuard name schema

-- the table is there as its text declares it, and no foreign key or UNIQUE index of another hand
-- binds it
abbrev pub IsOfBook : BookTable → Schema → Type 0
IsOfBook it schema = IsTable it schema × IsSpared it.name schema

-- these tables are there, in any order and among any others, and no foreign key or UNIQUE index of
-- another hand binds them
abbrev pub HasTables : List BookTable → Schema → Type 0
HasTables tables schema = AllByRecursion (λ it. IsOfBook it schema) tables

-- no table of the schema has the name of this table of the book, and no foreign key refers to that
-- name
abbrev pub IsNameFree : BookTable → Schema → Type 0
IsNameFree it schema = (table_found schema it.name ≡ None) × IsUnreferenced it schema

-- each of these tables of the book has a free name: no table of the schema has the name, and no
-- foreign key refers to it
abbrev pub AreFree : List BookTable → Schema → Type 0
AreFree tables schema = AllByRecursion (λ it. IsNameFree it schema) tables

-- the schema has the thirteen tables of a book
abbrev pub IsBook : Schema → Type 0
IsBook schema = HasTables first_tables schema × HasTables later_tables schema

-- an empty database has this schema: no table, no index and no view
abbrev pub empty_schema : Schema
empty_schema = record { tables = []; indexes = []; views = [] }
