-- What holds of all duties.
use Rattle.std.specs.Prelude.{ℕ, List}
use Rattle.duty.specs.declared.duty_in_force.DutyInForce.{DutyInForce}
use Rattle.nearness.specs.Nearness.{IsNearness}
use Rattle.nearness.specs.declared.all_limits.Nearness.{Nearness}

-- Each list of duties has a nearness to the eight limits, whichever of the duties are new.
abbrev pub EachHasNearness : Type 0
EachHasNearness = (all new : List DutyInForce) (others : ℕ) →
    (nearness : Nearness) × IsNearness all new others nearness
