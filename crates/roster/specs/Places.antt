-- The duties of a member in force. A duty is known by its place, and not by its times.
use Rattle.std.specs.Prelude.{ℕ, ◌==◌, Bool, false, not, ◌&&◌, List, ◌++◌, map}
use Rattle.std.specs.FinMap as fin
use Rattle.std.specs.List.{filter, flat_map, enumerate_from}
use Rattle.std.specs.Str.{bytes_eq}
use Rattle.duty.specs.DutiesInForce.{in_force, outside_times}
use Rattle.duty.specs.Plans.{GroundPlan, OutsidePlan}
use Rattle.duty.specs.declared.duty_in_force.DutyInForce.{DutyInForce}
use Rattle.duty.specs.declared.duty_in_force.DutyInForce.TheVariants as times
use Rattle.duty.specs.declared.fdp.Fdp.{Fdp}
use Rattle.duty.specs.declared.placed_duty.Duty.TheVariants as duty
use Rattle.roster.specs.Pairings.{holds, periods_in_force}
use Rattle.roster.specs.State.{State, zone_of}
use Rattle.roster.specs.declared.state.DutyId.{DutyId}
use Rattle.roster.specs.declared.state.DutyId.TheVariants.{Period, Outside}
use Rattle.roster.specs.declared.state.OutsideEntry.{OutsideEntry}
use Rattle.roster.specs.declared.state.PairingEntry.{PairingEntry}

-- the place of a duty: a period of a pairing, counted from 1, a ground duty, or an outside period
pub data Place : Type 0 where
  period : List ℕ → ℕ → Place
  on_ground : List ℕ → Place
  outside : List ℕ → Place

-- the place of the duty that an exceedance names
abbrev pub place_of : DutyId → Place
place_of (Period p) = period p.pairing p.number
place_of (Outside id) = outside id

-- a duty in force at its place
abbrev pub Placed : Type 0
Placed = Place × DutyInForce

-- periods of a pairing in force, at their places, the first of the periods being number n
abbrev pub numbered : List ℕ → List ℕ → ℕ → List Fdp → List Placed
numbered zone id n fdps =
    map (λ p. (period id p.0, in_force zone (duty.Fdp p.1))) (enumerate_from n fdps)

-- the periods of a pairing in force, at their places
abbrev pub periods_at : List ℕ → List ℕ × PairingEntry → List Placed
periods_at zone (id, r) = numbered zone id 1 (periods_in_force r)

-- a ground duty at its place, from its begin to its end; the duty is the same in every zone
abbrev pub ground_at : List ℕ × GroundPlan → Placed
ground_at (id, g) = (on_ground id, times.Ground (record { from = g.begin; to = g.end }))

-- an outside period as a duty in force; the duty is the same in every zone
abbrev pub outside_duty : OutsidePlan → DutyInForce
outside_duty o = times.Fdp (outside_times o)

-- an outside period in force, at its place
abbrev pub outside_at : List ℕ × OutsideEntry → Placed
outside_at (id, o) = (outside id, outside_duty o.period)

-- the periods of the pairings that a member holds, at their places
abbrev pub periods_of : State → List ℕ → List Placed
periods_of s who =
    flat_map (periods_at (zone_of s who)) (filter (λ row. holds who row.1) (fin.entries s.pairings))

-- the ground duties of a member, at their places
abbrev pub grounds_of : State → List ℕ → List Placed
grounds_of s who = map ground_at (filter (λ row. bytes_eq row.1.crew who) (fin.entries s.grounds))

-- the outside periods of a member, at their places
abbrev pub outsides_of : State → List ℕ → List Placed
outsides_of s who =
    map outside_at (filter (λ row. bytes_eq row.1.crew who) (fin.entries s.outsides))

-- all duties of a member, at their places
abbrev pub history_of : State → List ℕ → List Placed
history_of s who = periods_of s who ++ grounds_of s who ++ outsides_of s who

-- the duties of a list, without their places
abbrev pub duties : List Placed → List DutyInForce
duties placed = map (λ p. p.1) placed

-- ---- The places that are left out of a member's duties where new duties are judged beside them

-- no place is left out
abbrev pub no_place : Place → Bool
no_place place = false

-- the place is a period of this pairing
abbrev pub the_pairing : List ℕ → Place → Bool
the_pairing id (period pairing number) = bytes_eq id pairing
the_pairing id (on_ground _) = false
the_pairing id (outside _) = false

-- the place is the period of this number in this pairing
abbrev pub the_period : List ℕ → ℕ → Place → Bool
the_period id number (period pairing n) = bytes_eq id pairing && number == n
the_period id number (on_ground _) = false
the_period id number (outside _) = false

-- the place is this outside period
abbrev pub the_outside : List ℕ → Place → Bool
the_outside id (period _ _) = false
the_outside id (on_ground _) = false
the_outside id (outside other) = bytes_eq id other

-- the duties of a list, but for the places that are left out
abbrev pub all_but : (Place → Bool) → List Placed → List DutyInForce
all_but out placed = duties (filter (λ p. not (out p.0)) placed)

-- the duties of a member, but for the places that are left out
abbrev pub others : State → List ℕ → (Place → Bool) → List DutyInForce
others s who out = all_but out (history_of s who)
