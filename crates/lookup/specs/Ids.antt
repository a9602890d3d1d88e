-- The ids that some records have.
use Rattle.std.specs.Prelude.{ℕ, List, map}
use Rattle.tables.specs.declared.crew.CrewRecord.{CrewRecord}
use Rattle.tables.specs.declared.pairing.PairingRecord.{PairingRecord}

-- some records of `crew` give the ids of these members
abbrev pub members_in : List CrewRecord → List (List ℕ)
members_in records = map (λ row. row.id) records

-- some records of `pairing` give the ids of these pairings
abbrev pub pairings_in : List PairingRecord → List (List ℕ)
pairings_in records = map (λ row. row.id) records
