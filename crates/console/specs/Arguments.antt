-- What `clap` found of a line that it took: the readers of the matches rest on this.
use Rattle.std.specs.Prelude.{◌≡◌, ◌⊎◌, ◌||◌, ℕ, Bool, List, [], ◌∷◌, Option, Some, None, codes}
use Rattle.std.specs.Prelude.{is_some, true, false}
use Rattle.std.specs.Option.{option_map_or}
use Rattle.std.specs.Str.{bytes_eq}
use Rattle.clap.specs.Words.{Row, Text, all_of, first_of, one_of}
use Rattle.console.specs.CommandLine.{Argument, a_day, a_number, a_text, arguments_of, flag, number_found}
use Rattle.console.specs.CommandLine.{option_number, option_text, some_texts, subcommand_table}

-- The argument has a whole number from 1 to `most`, which is read as it was written.
pub record HasWholeNumber (most : ℕ) (id : Text) (rows : List Row) : Type 0 where
  pub number : is_some (number_found most id rows) ≡ true
  pub as_written : one_of id rows ≡ first_of id rows

-- whether a text is `true` or `false`, the texts that a flag may have
abbrev pub is_flag_text : Text → Bool
is_flag_text text = bytes_eq text (codes "true") || bytes_eq text (codes "false")

-- The flag has no text, or `true` or `false`, which is read as it was written.
pub record HasFlag (id : Text) (rows : List Row) : Type 0 where
  pub word : option_map_or is_flag_text (first_of id rows) true ≡ true
  pub as_written : one_of id rows ≡ first_of id rows

-- The argument has what is read of it; an option of a text may have nothing.
abbrev pub Has : List Row → Argument → Type 0
Has rows (a_text id) = is_some (first_of id rows) ≡ true
Has rows (some_texts id) = is_some (all_of id rows) ≡ true
Has rows (a_number most id) = HasWholeNumber most id rows
Has rows (a_day id) = is_some (first_of id rows) ≡ true
Has rows (option_number most default id) = HasWholeNumber most id rows
Has rows (option_text id) = Unit {0}
Has rows (flag id) = HasFlag id rows

-- The rows that were found have each of these arguments.
abbrev pub HasEach : List Row → List Argument → Type 0
HasEach rows [] = Unit {0}
HasEach rows (a ∷ rest) = Has rows a × HasEach rows rest

-- The rows that were found have each argument of the subcommand of this name.
abbrev pub HasAll : Text → List Row → Type 0
HasAll name rows = HasEach rows (arguments_of name)

-- The subcommand that was met is one of this table's rows, with its arguments.
abbrev pub IsAmong : Text × List Row → List (Text × List Argument) → Type 0
IsAmong met [] = ⊥
IsAmong met (row ∷ rest) = ((met.0 ≡ row.0) × HasEach met.1 row.1) ⊎ IsAmong met rest

-- A subcommand was met; it is one of the program's subcommands, with its arguments.
abbrev pub HasArguments : Option (Text × List Row) → Type 0
HasArguments None = ⊥
HasArguments (Some met) = IsAmong met subcommand_table

-- The subcommand is one of the program's subcommands, with its arguments, and isn't `board`.
pub record IsNoBoard (met : Text × List Row) : Type 0 where
  pub among : IsAmong met subcommand_table
  pub no_board : bytes_eq met.0 (codes "board") ≡ false
