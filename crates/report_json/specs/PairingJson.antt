-- A pairing as JSON.
use Rattle.std.specs.Prelude.{ℕ, List, [], ◌∷◌, map, codes, Option}
use Rattle.std.specs.FinMap as fin
use Rattle.std.specs.List.{enumerate_from}
use Rattle.std.specs.Option.{option_map}
use Rattle.serde_json.specs.Data.{Data, number, unsigned, string}
use Rattle.roster.specs.State.{State}
use Rattle.roster.specs.declared.state.PairingEntry.{PairingEntry}
use Rattle.report.specs.Periods.{pairing_periods, length_to_last_block_in, flight_time_of}
use Rattle.report.specs.declared.periods.PeriodInForce.{PeriodInForce}
use Rattle.stored_json.specs.KeptText.{segment_json}
use Rattle.stored_json.specs.Values.{object_of, array_of, instant_json}
use Rattle.report_json.specs.Objects.{text_or_null}
use Rattle.report_json.specs.PeriodJson.{actual_json}

-- the object of a period: as it is planned, as it was flown, and the lengths in force
abbrev pub pairing_period_json : ℕ × PeriodInForce → Data
pairing_period_json (n, p) =
    object_of ((codes "actual", actual_json p.actual)
    ∷ (codes "fdp", number (unsigned (length_to_last_block_in p.fdp)))
    ∷ (codes "flight", number (unsigned (flight_time_of p.fdp)))
    ∷ (codes "period", number (unsigned n)) ∷ (codes "release", instant_json p.plan.release)
    ∷ (codes "report", instant_json p.plan.report)
    ∷ (codes "segments", array_of (map segment_json p.plan.segments)) ∷ [])

-- the objects of a pairing's periods in turn
abbrev pub pairing_periods_json : PairingEntry → List Data
pairing_periods_json r = map pairing_period_json (enumerate_from 1 (pairing_periods r))

-- a pairing with these objects of its periods: its id, and who holds its seats
abbrev pub pairing_of_json : List ℕ → PairingEntry → List Data → Data
pairing_of_json id r periods =
    object_of ((codes "captain", text_or_null r.captain)
    ∷ (codes "first_officer", text_or_null r.first_officer) ∷ (codes "pairing", string id)
    ∷ (codes "periods", array_of periods) ∷ [])

-- the object of a pairing
abbrev pub entry_json : List ℕ → PairingEntry → Data
entry_json id r = pairing_of_json id r (pairing_periods_json r)

-- the pairing with this id, if there is one
abbrev pub pairing_json : State → List ℕ → Option Data
pairing_json s id = option_map (entry_json id) (fin.get s.pairings id)
