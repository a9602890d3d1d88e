-- A member's roster as JSON.
use Rattle.std.specs.Prelude.{ℕ, List, [], ◌∷◌, ◌++◌, map, codes, Option}
use Rattle.std.specs.FinMap as fin
use Rattle.std.specs.List.{filter, flat_map, enumerate_from}
use Rattle.std.specs.Option.{option_map}
use Rattle.std.specs.Str.{bytes_eq}
use Rattle.serde_json.specs.Data.{Data, number, unsigned, string}
use Rattle.duty.specs.DutiesInForce.{outside_times}
use Rattle.duty.specs.Minutes.{fdp_length, flight_time}
use Rattle.duty.specs.Plans.{GroundPlan}
use Rattle.command.specs.Texts.{seat_text}
use Rattle.command.specs.declared.member.Member.{Member}
use Rattle.roster.specs.Bases.{zone_at}
use Rattle.roster.specs.Pairings.{holds}
use Rattle.roster.specs.State.{State}
use Rattle.roster.specs.declared.state.OutsideEntry.{OutsideEntry}
use Rattle.roster.specs.declared.state.PairingEntry.{PairingEntry}
use Rattle.report.specs.Periods.{pairing_periods, length_to_last_block_in, flight_time_of}
use Rattle.report.specs.declared.periods.PeriodInForce.{PeriodInForce}
use Rattle.stored_json.specs.KeptText.{segment_json, times_json}
use Rattle.stored_json.specs.Values.{object_of, array_of, instant_json}
use Rattle.report_json.specs.PeriodJson.{actual_json}

-- the object of a period of a pairing: begin and end are its report and release in force; report,
-- release and segments are as they are planned, and actual is as they were flown
abbrev pub period_duty_json : List ℕ → ℕ × PeriodInForce → Data
period_duty_json id (n, p) =
    object_of ((codes "actual", actual_json p.actual) ∷ (codes "begin", instant_json p.fdp.report)
    ∷ (codes "end", instant_json p.fdp.release)
    ∷ (codes "fdp", number (unsigned (length_to_last_block_in p.fdp)))
    ∷ (codes "flight", number (unsigned (flight_time_of p.fdp)))
    ∷ (codes "kind", string (codes "pairing")) ∷ (codes "pairing", string id)
    ∷ (codes "period", number (unsigned n)) ∷ (codes "release", instant_json p.plan.release)
    ∷ (codes "report", instant_json p.plan.report)
    ∷ (codes "segments", array_of (map segment_json p.plan.segments)) ∷ [])

-- the object of a ground duty
abbrev pub ground_duty_json : List ℕ × GroundPlan → Data
ground_duty_json (id, g) =
    object_of ((codes "begin", instant_json g.begin) ∷ (codes "end", instant_json g.end)
    ∷ (codes "ground", string id) ∷ (codes "kind", string (codes "ground"))
    ∷ (codes "task", string g.task) ∷ [])

-- the object of an outside period: begin and end are its report and release
abbrev pub outside_duty_json : List ℕ × OutsideEntry → Data
outside_duty_json (id, o) =
    object_of ((codes "begin", instant_json o.period.report)
    ∷ (codes "end", instant_json o.period.release)
    ∷ (codes "fdp", number (unsigned (fdp_length (outside_times o.period))))
    ∷ (codes "flight", number (unsigned (flight_time (outside_times o.period))))
    ∷ (codes "kind", string (codes "outside")) ∷ (codes "outside", string id)
    ∷ (codes "segments", array_of (map times_json o.period.segments)) ∷ [])

-- the objects of a pairing's periods in turn
abbrev pub period_duties_json : List ℕ × PairingEntry → List Data
period_duties_json (id, r) = map (period_duty_json id) (enumerate_from 1 (pairing_periods r))

-- the objects of a member's ground duties, in byte order of the ids
abbrev pub ground_duties_json : State → List ℕ → List Data
ground_duties_json s who =
    map ground_duty_json (filter (λ row. bytes_eq row.1.crew who) (fin.entries s.grounds))

-- the objects of a member's outside periods, in byte order of the ids
abbrev pub outside_duties_json : State → List ℕ → List Data
outside_duties_json s who =
    map outside_duty_json (filter (λ row. bytes_eq row.1.crew who) (fin.entries s.outsides))

-- the objects of a member's duties: the periods of the pairings that the member holds, in byte
-- order of the pairings' ids, then the ground duties, then the outside periods
abbrev pub duties_json : State → List ℕ → List Data
duties_json s who =
    flat_map period_duties_json (filter (λ row. holds who row.1) (fin.entries s.pairings))
    ++ ground_duties_json s who ++ outside_duties_json s who

-- the roster of this member, with the zone of the member's base
abbrev pub member_roster_json : State → List ℕ → Member → Data
member_roster_json s who m =
    object_of ((codes "base", string m.base) ∷ (codes "crew", string who)
    ∷ (codes "duties", array_of (duties_json s who)) ∷ (codes "name", string m.name)
    ∷ (codes "seat", string (seat_text m.seat))
    ∷ (codes "zone", string (zone_at s.bases m.base)) ∷ [])

-- the roster of the member with this id, if there is one
abbrev pub roster_json : State → List ℕ → Option Data
roster_json s who = option_map (member_roster_json s who) (fin.get s.crew who)
