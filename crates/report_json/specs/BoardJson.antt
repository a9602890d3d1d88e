-- The board of some days as JSON.
use Rattle.std.specs.Prelude.{ℕ, Bool, false, ◌&&◌, ◌==◌, List, [], ◌∷◌, ◌++◌, map, codes}
use Rattle.std.specs.Prelude.{slice_index}
use Rattle.std.specs.FinMap as fin
use Rattle.std.specs.List.{filter, flat_map}
use Rattle.std.specs.Str.{bytes_eq}
use Rattle.serde_json.specs.Data.{Data, string}
use Rattle.request.specs.Days.{Days}
use Rattle.limits.specs.Judgement.{all_sections}
use Rattle.limits.specs.SectionText.{section_text}
use Rattle.limits.specs.declared.section.Section.{Section}
use Rattle.command.specs.Keys.{KeyParts}
use Rattle.command.specs.Texts.{seat_text}
use Rattle.command.specs.declared.member.Member.{Member}
use Rattle.roster.specs.State.{State, exceedance_name}
use Rattle.roster.specs.declared.state.DutyId.{DutyId}
use Rattle.roster.specs.declared.state.DutyId.TheVariants.{Period, Outside}
use Rattle.roster.specs.declared.state.OutsideEntry.{OutsideEntry}
use Rattle.roster.specs.declared.state.PairingEntry.{PairingEntry}
use Rattle.report.specs.Board.{pairings_held, periods_in, grounds_in, outsides_in, open_in}
use Rattle.report.specs.declared.periods.PeriodInForce.{PeriodInForce}
use Rattle.stored_json.specs.Values.{object_of, array_of}
use Rattle.report_json.specs.MembersJson.{bases_json}
use Rattle.report_json.specs.Objects.{with_member}
use Rattle.report_json.specs.PairingsJson.{listed_pairing_json}
use Rattle.report_json.specs.RosterJson.{period_duty_json, ground_duty_json, outside_duty_json}
use Rattle.report_json.specs.declared.exceeded.Exceeded.{Exceeded}

-- ---- What a member has exceeded

-- whether a name is that of an exceedance of this member and section, whatever command recorded the
-- exceedance
abbrev pub is_name_of : (who : List ℕ) → (name : List ℕ) → Section → Bool
is_name_of who name section =
    let key : KeyParts = record { number = slice_index name 0; part = slice_index name 1 } in
    bytes_eq name (exceedance_name key who section)

-- the section of an exceedance, by the exceedance's name, as a list of one; no section if the
-- exceedance is another member's
abbrev pub section_under : (who : List ℕ) → (name : List ℕ) → List Section
section_under who name = filter (is_name_of who name) all_sections

-- the exceedances of a member, in the order of all exceedances: the section of each, and the duty
-- that it names
abbrev pub exceeded_by : State → (who : List ℕ) → List Exceeded
exceeded_by s who =
    flat_map (λ row. map (λ section. record { section = section; duty = row.1 })
    (section_under who row.0)) (fin.entries s.exceedances)

-- whether a duty is this period of a pairing
abbrev pub is_period : (id : List ℕ) → (number : ℕ) → DutyId → Bool
is_period id number (Period p) = bytes_eq p.pairing id && (p.number == number)
is_period id number (Outside other) = false

-- whether a duty is this outside period
abbrev pub is_outside : (id : List ℕ) → DutyId → Bool
is_outside id (Period p) = false
is_outside id (Outside other) = bytes_eq other id

-- the section of an exceedance
abbrev pub section_json : Exceeded → Data
section_json e = string (section_text e.section)

-- the sections that a period of a pairing exceeds, in the order of the exceedances
abbrev pub period_sections_json : List Exceeded → (id : List ℕ) → (number : ℕ) → Data
period_sections_json exceeded id number =
    array_of (map section_json (filter (λ e. is_period id number e.duty) exceeded))

-- the sections that an outside period exceeds, in the order of the exceedances
abbrev pub outside_sections_json : List Exceeded → (id : List ℕ) → Data
outside_sections_json exceeded id =
    array_of (map section_json (filter (λ e. is_outside id e.duty) exceeded))

-- ---- A member

-- the object of a period of a pairing, with one more member, the sections that the period exceeds
abbrev pub board_period_json : List Exceeded → (id : List ℕ) → ℕ × PeriodInForce → Data
board_period_json exceeded id (number, p) =
    with_member (codes "exceeds") (period_sections_json exceeded id number)
    (period_duty_json id (number, p))

-- the object of an outside period, with one more member, the sections that the period exceeds
abbrev pub board_outside_json : List Exceeded → List ℕ × OutsideEntry → Data
board_outside_json exceeded (id, o) =
    with_member (codes "exceeds") (outside_sections_json exceeded id) (outside_duty_json (id, o))

-- the objects of a pairing's periods that meet the days, in turn
abbrev pub board_periods_json : Days → List Exceeded → List ℕ × PairingEntry → List Data
board_periods_json days exceeded (id, r) =
    map (board_period_json exceeded id) (periods_in days r)

-- the objects of a member's duties that meet the days: the periods of the pairings that the member
-- holds, in byte order of the pairings' ids, then the ground duties, then the outside periods
abbrev pub board_duties_json : Days → State → (who : List ℕ) → List Exceeded → List Data
board_duties_json days s who exceeded =
    flat_map (board_periods_json days exceeded) (pairings_held s who)
    ++ map ground_duty_json (grounds_in days s who)
    ++ map (board_outside_json exceeded) (outsides_in days s who)

-- the object of a member on the board
abbrev pub board_member_json : Days → State → List ℕ × Member → Data
board_member_json days s (who, m) =
    object_of ((codes "base", string m.base) ∷ (codes "crew", string who)
    ∷ (codes "duties", array_of (board_duties_json days s who (exceeded_by s who)))
    ∷ (codes "name", string m.name) ∷ (codes "seat", string (seat_text m.seat)) ∷ [])

-- ---- The board

-- the board of some days: the bases, all members with their duties that meet the days, and the
-- pairings with a free seat of which a period does, each in byte order of the ids
abbrev pub board_json : State → Days → Data
board_json s days =
    object_of ((codes "bases", array_of (bases_json s))
    ∷ (codes "members", array_of (map (board_member_json days s) (fin.entries s.crew)))
    ∷ (codes "open", array_of (map listed_pairing_json (open_in days s))) ∷ [])
