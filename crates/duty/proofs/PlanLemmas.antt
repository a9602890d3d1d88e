-- Plans, and results that are checked.
use Rattle.std.proofs.Common.{◌≡◌, refl, List, map, Option, Some, None, Ok}
use Rattle.std.proofs.lemmas.Simd.{map-map}
use Rattle.duty.specs.Words.{checked}
use Rattle.duty.specs.Plans.{as_planned}
use Rattle.duty.specs.declared.fault.DutyFault.{DutyFault}
use Rattle.duty.specs.declared.fdp.Fdp.{Fdp}

-- periods that are planned already
pub planned_twice : (periods : List Fdp) → map as_planned (map as_planned periods) ≡ map as_planned periods
planned_twice periods = map-map as_planned as_planned periods

-- what passed has no fault
pub no_fault : {A : Type 0} (fault : Option DutyFault) (x y : A) → checked fault x ≡ Ok y → fault ≡ None
no_fault None x y e = refl
no_fault (Some fault) x y e = cc
