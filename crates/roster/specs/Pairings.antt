-- A pairing in the book: its plan, its actuals and who holds its seats.
use Rattle.std.specs.Prelude.{ℕ, Bool, false, ◌||◌, ◌&&◌, List, map, Option, Some, None, is_some}
use Rattle.std.specs.List.{list_any, zip}
use Rattle.std.specs.Str.{bytes_eq}
use Rattle.duty.specs.Plans.{Plan, ActualTimes, flown_at}
use Rattle.duty.specs.declared.fdp.Fdp.{Fdp}
use Rattle.command.specs.declared.member.Seat.{Seat}
use Rattle.command.specs.declared.member.Seat.TheVariants.{Captain, FirstOfficer}
use Rattle.roster.specs.declared.state.PairingEntry.{PairingEntry}

-- the entry of a plan of which both seats are free and no period is flown
abbrev pub unheld : Plan → PairingEntry
unheld plan = record {
  plan = plan;
  actuals = map (λ _. None) plan.periods;
  captain = None;
  first_officer = None;
}

-- some period of the pairing has an actual
abbrev pub is_flown : PairingEntry → Bool
is_flown r = list_any is_some r.actuals

-- the member who holds a seat of the pairing, if the seat is held
abbrev pub holder : Seat → PairingEntry → Option (List ℕ)
holder Captain r = r.captain
holder FirstOfficer r = r.first_officer

-- the pairing with this holder of a seat, or with the seat free
abbrev pub with_holder : Seat → Option (List ℕ) → PairingEntry → PairingEntry
with_holder Captain who r = record r { captain = who }
with_holder FirstOfficer who r = record r { first_officer = who }

-- a seat of the pairing is held
abbrev pub is_crewed : PairingEntry → Bool
is_crewed r = is_some r.captain || is_some r.first_officer

-- both seats of the pairing are held
abbrev pub is_fully_crewed : PairingEntry → Bool
is_fully_crewed r = is_some r.captain && is_some r.first_officer

-- a seat is held, and its holder is this member
abbrev pub is_held_by : List ℕ → Option (List ℕ) → Bool
is_held_by who None = false
is_held_by who (Some other) = bytes_eq other who

-- the member holds a seat of the pairing
abbrev pub holds : List ℕ → PairingEntry → Bool
holds who r = is_held_by who r.captain || is_held_by who r.first_officer

-- a period with its actual times, if it has them, else the period as it is planned
abbrev pub flown : Fdp × Option ActualTimes → Fdp
flown (fdp, None) = fdp
flown (fdp, Some actual) = flown_at fdp actual

-- the periods of a pairing in turn, with their times in force
abbrev pub periods_in_force : PairingEntry → List Fdp
periods_in_force r = map flown (zip r.plan.periods r.actuals)
