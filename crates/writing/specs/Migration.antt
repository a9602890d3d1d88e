-- What the migration of a book from version 1 to version 2 writes. No public clause names these
-- definitions.
use Rattle.std.specs.Prelude.{pos, ℕ, List, [], ◌∷◌}
use Rattle.std.specs.FinMap as fin
use Rattle.sqlite_value.specs.declared.value.Value.TheVariants.{Int}
use Rattle.sqlite.specs.Effect.{Database}
use Rattle.duty.specs.Shape.{home}
use Rattle.command.specs.declared.member.Member.{Member}
use Rattle.roster.specs.Bases.{home_zone}
use Rattle.roster.specs.State.{State}
use Rattle.tables.specs.Records.{with_version}
use Rattle.tables.specs.Rows.{Inserts, Updates, begins_with}
use Rattle.state_rows.specs.Rows.{table, base, book, crew_base, row_of_base, row_of_post}
use Rattle.writing.specs.Calls.{Then, Each}
use Rattle.tables.specs.Schema.{later_tables}
use Rattle.writing.specs.Making.{MakesTables}

-- the row of a member's base is added, by the ids of the member and of the base
abbrev pub AddsPost : List ℕ → List ℕ → Database → Database → Type 0
AddsPost who at = Inserts (table crew_base) (row_of_post who at)

-- for each of these members, in turn, the row of the member's base is added
abbrev pub AddsPosts : List (List ℕ × Member) → Database → Database → Type 0
AddsPosts = Each (λ _ member. AddsPost member.0 member.1.base) 0

-- the row of the base HOME is added, with its zone
abbrev pub AddsHome : List ℕ → Database → Database → Type 0
AddsHome zone = Inserts (table base) (row_of_base home zone)

-- version 2 is set in the row of `book`
abbrev pub SetsVersion : Database → Database → Type 0
SetsVersion = Updates (table book) (begins_with (Int (pos 1) ∷ [])) (with_version (pos 2))

-- the row of the base HOME is added, then a row for the base of each member, and then version 2 is
-- set in the row of `book`
abbrev pub Fills : State → Database → Database → Type 0
Fills s = Then (AddsHome (home_zone s.bases)) (Then (AddsPosts (fin.entries s.crew)) SetsVersion)

-- the four tables that version 1 lacks are made, then their rows are added, and version 2 is set in
-- the row of `book`
abbrev pub Migrates : State → Database → Database → Type 0
Migrates s = Then (MakesTables later_tables) (Fills s)
