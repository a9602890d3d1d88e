-- What is read of the requests under one number.
use Rattle.std.specs.Prelude.{◌≡◌, ◌==◌, ℕ, Bool, List, map, take, slice_index}
use Rattle.std.specs.FinMap as fin
use Rattle.values.specs.Name.{name_cmp}
use Rattle.command.specs.Keys.{KeyParts, key_name}
use Rattle.stored_json.specs.Laws.{IsCommand}
use Rattle.roster.specs.declared.state.LoggedCommand.{LoggedCommand}
use Rattle.tables.specs.Records.{request_row}
use Rattle.tables.specs.declared.request.RequestRecord.{RequestRecord}
use Rattle.state_rows.specs.Rows.{row_of_request}
use Rattle.entries.specs.Right.{IsKey}
use Rattle.entries.specs.Mapping.{AreOnce, Mapped}

-- whether the key with this name is one of the request with this number
abbrev pub has_number : (number : ℕ) → (name : List ℕ) → Bool
has_number number name = slice_index name 0 == number

-- a key has numbers in their ranges, and its command has instants of the years 2000 to 2099
abbrev pub CanBeKept : KeyParts → LoggedCommand → Type 0
CanBeKept key kept = IsKey key × IsCommand kept.command

-- a record of `request` gives this key, and the command and reply that the key holds
abbrev pub TellsKept : RequestRecord → KeyParts → LoggedCommand → Type 0
TellsKept row key kept = (request_row row ≡ row_of_request key kept) × CanBeKept key kept

-- a record of `request` gives no key that could hold what its texts say
abbrev pub IsUnkept : RequestRecord → Type 0
IsUnkept row = (key : KeyParts) (kept : LoggedCommand) → TellsKept row key kept → ⊥

-- the map has what this many first records of `request` give, each by its key
pub record AreKept (records : List RequestRecord) (count : ℕ)
    (m : fin.FinMap name_cmp LoggedCommand) : Type 0 where
  pub mapped : AreOnce row_of_request (map request_row records) →
      Mapped key_name row_of_request CanBeKept (take count (map request_row records)) m
