-- What a board of some days shows: what has a minute in these days.
use Rattle.std.specs.Prelude.{ℕ, Bool, ◌&&◌, List}
use Rattle.std.specs.FinMap as fin
use Rattle.std.specs.List.{filter, list_any, enumerate_from}
use Rattle.std.specs.Str.{bytes_eq}
use Rattle.request.specs.Days.{Days, meets}
use Rattle.request.specs.declared.subject.Listed.TheVariants.{Open}
use Rattle.duty.specs.Plans.{GroundPlan}
use Rattle.roster.specs.Pairings.{holds}
use Rattle.roster.specs.State.{State}
use Rattle.roster.specs.declared.state.OutsideEntry.{OutsideEntry}
use Rattle.roster.specs.declared.state.PairingEntry.{PairingEntry}
use Rattle.report.specs.PairingsText.{is_listed}
use Rattle.report.specs.Periods.{pairing_periods}
use Rattle.report.specs.declared.periods.PeriodInForce.{PeriodInForce}

-- ---- What meets the days

-- whether a period of a pairing meets the days, from its report to its release in force
abbrev pub period_meets : Days → PeriodInForce → Bool
period_meets days p = meets days p.fdp.report p.fdp.release

-- whether a ground duty meets the days, from its begin to its end
abbrev pub ground_meets : Days → GroundPlan → Bool
ground_meets days g = meets days g.begin g.end

-- whether an outside period meets the days, from its report to its release
abbrev pub outside_meets : Days → OutsideEntry → Bool
outside_meets days o = meets days o.period.report o.period.release

-- the periods of a pairing that meet the days, each with its number, which is counted from 1 over
-- all periods of the pairing
abbrev pub periods_in : Days → PairingEntry → List (ℕ × PeriodInForce)
periods_in days r =
    filter (λ row. period_meets days row.1) (enumerate_from 1 (pairing_periods r))

-- whether a pairing has a period that meets the days
abbrev pub has_period_in : Days → PairingEntry → Bool
has_period_in days r = list_any (period_meets days) (pairing_periods r)

-- ---- Of a state

-- the pairings in which a member holds a seat, in byte order of the ids
abbrev pub pairings_held : State → (who : List ℕ) → List (List ℕ × PairingEntry)
pairings_held s who = filter (λ row. holds who row.1) (fin.entries s.pairings)

-- a member's ground duties that meet the days, in byte order of the ids
abbrev pub grounds_in : Days → State → (who : List ℕ) → List (List ℕ × GroundPlan)
grounds_in days s who =
    filter (λ row. bytes_eq row.1.crew who && ground_meets days row.1) (fin.entries s.grounds)

-- a member's outside periods that meet the days, in byte order of the ids
abbrev pub outsides_in : Days → State → (who : List ℕ) → List (List ℕ × OutsideEntry)
outsides_in days s who =
    filter (λ row. bytes_eq row.1.crew who && outside_meets days row.1) (fin.entries s.outsides)

-- whether a pairing has a free seat, and a period that meets the days
abbrev pub is_open_in : Days → PairingEntry → Bool
is_open_in days r = is_listed Open r && has_period_in days r

-- the pairings with a free seat of which a period meets the days, in byte order of the ids
abbrev pub open_in : Days → State → List (List ℕ × PairingEntry)
open_in days s = filter (λ row. is_open_in days row.1) (fin.entries s.pairings)
