-- The bases and the members of the crew as JSON.
use Rattle.std.specs.Prelude.{ℕ, List, [], ◌∷◌, map, codes}
use Rattle.std.specs.FinMap as fin
use Rattle.serde_json.specs.Data.{Data, string}
use Rattle.command.specs.Texts.{seat_text}
use Rattle.command.specs.declared.member.Member.{Member}
use Rattle.roster.specs.State.{State}
use Rattle.stored_json.specs.Values.{object_of, array_of}

-- the object of a base, with its zone
abbrev pub base_json : List ℕ × List ℕ → Data
base_json (id, zone) = object_of ((codes "base", string id) ∷ (codes "zone", string zone) ∷ [])

-- the object of a member
abbrev pub member_json : List ℕ × Member → Data
member_json (id, m) =
    object_of ((codes "base", string m.base) ∷ (codes "crew", string id)
    ∷ (codes "name", string m.name) ∷ (codes "seat", string (seat_text m.seat)) ∷ [])

-- the objects of all bases, in byte order of the ids
abbrev pub bases_json : State → List Data
bases_json s = map base_json (fin.entries s.bases)

-- the objects of all members, in byte order of the ids
abbrev pub crew_json : State → List Data
crew_json s = map member_json (fin.entries s.crew)

-- the bases and the members of a state
abbrev pub members_json : State → Data
members_json s =
    object_of ((codes "bases", array_of (bases_json s))
    ∷ (codes "members", array_of (crew_json s)) ∷ [])
