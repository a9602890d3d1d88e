-- How the duties of a member are listed, for private clauses alone: nothing here has to be read to
-- know what the crate promises.
use Rattle.std.specs.Prelude.{◌≡◌, ℕ, Bool, false, not, List, map, drop, ℤ, ◌≤ℤ◌, IsTrue}
use Rattle.std.specs.Prelude.{Option, Some, None}
use Rattle.std.specs.List.{filter}
use Rattle.duty.specs.declared.duty_in_force.DutyInForce.{DutyInForce}
use Rattle.limits.specs.Judgement.{all_sections}
use Rattle.nearness.specs.Nearness.{IsNearness}
use Rattle.nearness.specs.declared.all_limits.Nearness.{Nearness}
use Rattle.roster.specs.Places.{Place, Placed, the_pairing}
use Rattle.limits_report.specs.NearestLimits.{place_text, nearest_limit}
use Rattle.limits_report.specs.declared.named_duties.NamedDuty.{NamedDuty}
use Rattle.limits_report.specs.declared.nearest.NearestLimit.{NearestLimit}

-- a duty with the name of its place
abbrev pub named_duty : Placed → NamedDuty
named_duty p = record { name = place_text p.0; duty = p.1 }

-- the names of the duties of a list
abbrev pub names_of : List NamedDuty → List (List ℕ)
names_of list = map (λ d. d.name) list

-- the duties of a list without their names
abbrev pub times_of : List NamedDuty → List DutyInForce
times_of list = map (λ d. d.duty) list

-- whether a place is a period of this pairing, if a pairing is given
abbrev pub is_of : Option (List ℕ) → Place → Bool
is_of (Some id) place = the_pairing id place
is_of None place = false

-- the duties of a list with their names, but for the periods of this pairing, if a pairing is given
abbrev pub all_but_pairing : Option (List ℕ) → List Placed → List NamedDuty
all_but_pairing out placed = map named_duty (filter (λ p. not (is_of out p.0)) placed)

-- the set has a minute from `start` on
pub record HasFrom (set : ℤ → Bool) (start : ℤ) : Type 0 where
  pub minute : ℤ
  pub from_start : start ≤ℤ minute
  pub member : IsTrue (set minute)

-- What is nearest to each limit, of a list of duties of which the duties from `others` on are new.
pub record AreNearestOf (list : List NamedDuty) (others : ℕ) (limits : List NearestLimit)
    : Type 0 where
  pub nearness : Nearness
  pub nearest : IsNearness (times_of list) (times_of (drop others list)) others nearness
  pub are : limits ≡ map (nearest_limit (names_of list) nearness) all_sections
