-- The pairings of a state as JSON. Their periods have no segments: the report of one pairing has
-- these.
use Rattle.std.specs.Prelude.{ℕ, List, [], ◌∷◌, map, codes}
use Rattle.std.specs.FinMap as fin
use Rattle.std.specs.List.{enumerate_from, filter}
use Rattle.serde_json.specs.Data.{Data, number, unsigned}
use Rattle.request.specs.declared.subject.Listed.{Listed}
use Rattle.roster.specs.State.{State}
use Rattle.roster.specs.declared.state.PairingEntry.{PairingEntry}
use Rattle.report.specs.PairingsText.{is_listed}
use Rattle.report.specs.Periods.{pairing_periods, length_to_last_block_in, flight_time_of}
use Rattle.report.specs.declared.periods.PeriodInForce.{PeriodInForce}
use Rattle.stored_json.specs.Values.{object_of, instant_json}
use Rattle.report_json.specs.Objects.{list_json}
use Rattle.report_json.specs.PairingJson.{pairing_of_json}
use Rattle.report_json.specs.PeriodJson.{actual_ends_json}

-- the object of a period in the list: as it is planned, as it was flown, and the lengths in force
abbrev pub listed_period_json : ℕ × PeriodInForce → Data
listed_period_json (n, p) =
    object_of ((codes "actual", actual_ends_json p.actual)
    ∷ (codes "fdp", number (unsigned (length_to_last_block_in p.fdp)))
    ∷ (codes "flight", number (unsigned (flight_time_of p.fdp)))
    ∷ (codes "period", number (unsigned n)) ∷ (codes "release", instant_json p.plan.release)
    ∷ (codes "report", instant_json p.plan.report) ∷ [])

-- the objects of a pairing's periods in the list
abbrev pub listed_periods_json : PairingEntry → List Data
listed_periods_json r = map listed_period_json (enumerate_from 1 (pairing_periods r))

-- the object of a pairing in the list
abbrev pub listed_pairing_json : List ℕ × PairingEntry → Data
listed_pairing_json (id, r) = pairing_of_json id r (listed_periods_json r)

-- the objects of the pairings that are listed, in byte order of the ids
abbrev pub listed_pairings_json : State → Listed → List Data
listed_pairings_json s which =
    map listed_pairing_json (filter (λ entry. is_listed which entry.1) (fin.entries s.pairings))

-- the pairings of a state, all pairings or the open ones
abbrev pub pairings_json : State → (which : Listed) → Data
pairings_json s which = list_json (codes "pairings") (listed_pairings_json s which)
