-- What it means that a database holds a book.
use Rattle.std.specs.Prelude.{◌⊎◌}
use Rattle.sqlite_schema.specs.declared.schema.Schema.{Schema}
use Rattle.sqlite_trees.specs.Tree.{Trees}
use Rattle.sqlite.specs.Effect.{Database}
use Rattle.roster.specs.Sound.{Sound}
use Rattle.roster.specs.State.{State}
use Rattle.entries.specs.Right.{IsRightBook}
use Rattle.entries.specs.SameRows.{HasInstants}
use Rattle.state_rows.specs.Kept.{IsBookOf, IsFirstBookOf}

-- a sound book in this state is found in the database, in version 1 or in version 2
pub record IsFound (s : State) (found : Database) : Type 0 where
  -- the tables of the book are there, with the rows of the state and no others
  pub book : IsFirstBookOf s found ⊎ IsBookOf s found
  -- no table of the book is damaged
  pub right : IsRightBook s found
  pub sound : Sound s
  pub instants : HasInstants s

-- a sound book in this state is found in the trees, by the schema that they list
abbrev pub IsFoundIn : State → Trees → Type 0
IsFoundIn s trees = (schema : Schema) × IsFound s (record { schema = schema; trees = trees })
