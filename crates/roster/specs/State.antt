-- The state of the book.
use Rattle.std.specs.Prelude.{ℕ, List, [], ◌∷◌}
use Rattle.std.specs.FinMap as fin
use Rattle.std.specs.Option.{option_map_or}
use Rattle.values.specs.Name.{text_then}
use Rattle.duty.specs.Shape.{home}
use Rattle.limits.specs.declared.section.Section.{Section}
use Rattle.limits.specs.SectionText.{section_number}
use Rattle.command.specs.Keys.{KeyParts}
use Rattle.roster.specs.Bases.{only_home, zone_at}
use Rattle.roster.specs.declared.state.Roster.{Roster}

-- what the book holds: the zones of the bases, members, pairings, ground duties and outside periods
-- under their ids; exceedances under key, member and section; and under its key each accepted
-- command with its reply
abbrev pub State : Type 0
State = Roster

-- a member's base; HOME if the member isn't there
abbrev pub base_of : State → List ℕ → List ℕ
base_of s who = option_map_or (λ m. m.base) (fin.get s.crew who) home

-- the zone in which a member's duties are placed, which is that of the member's base
abbrev pub zone_of : State → List ℕ → List ℕ
zone_of s who = zone_at s.bases (base_of s who)

-- the state that has HOME with this zone, and nothing else
abbrev pub empty : List ℕ → State
empty zone = record {
  bases = only_home zone;
  crew = fin.empty;
  pairings = fin.empty;
  grounds = fin.empty;
  outsides = fin.empty;
  exceedances = fin.empty;
  requests = fin.empty;
}

-- the name of an exceedance: the order of names is that of number, part, member and section
abbrev pub exceedance_name : KeyParts → List ℕ → Section → List ℕ
exceedance_name key crew section =
    key.number ∷ key.part ∷ text_then crew (section_number section ∷ [])
