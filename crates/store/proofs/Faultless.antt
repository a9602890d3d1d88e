-- What has no fault has passed each test.
use Rattle.std.proofs.Common.{◌≡◌, Bool, true, false, List, ◌∷◌, Option, Some, None, refl}
use Rattle.duty.specs.Words.{first_fault, unless}
use Rattle.duty.specs.declared.fault.DutyFault.{DutyFault}

pub no_first : (fault : Option DutyFault) (rest : List (Option DutyFault)) → first_fault (fault ∷ rest) ≡ None → (fault ≡ None) × (first_fault rest ≡ None)
no_first None rest e = (refl, e)
no_first (Some fault) rest e = absurd (cc)

pub passes : (passed : Bool) (fault : DutyFault) → unless passed fault ≡ None → passed ≡ true
passes true fault e = refl
passes false fault e = absurd (cc)

-- the first test is passed, and none of the others gives a fault
pub first_passes : (passed : Bool) (fault : DutyFault) (rest : List (Option DutyFault)) → first_fault (unless passed fault ∷ rest) ≡ None → (passed ≡ true) × (first_fault rest ≡ None)
first_passes passed fault rest e = let it = no_first (unless passed fault) rest e in (passes passed fault it.0, it.1)
