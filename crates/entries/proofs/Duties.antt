-- The duties that exceedances name are kept apart by the columns of the table `exceedance`.
use Rattle.std.proofs.Common.{◌≡◌, ◌≤◌, ap, arith}
use Rattle.std.specs.Prelude.{⊤}
use Rattle.roster.specs.declared.state.DutyId.{DutyId}
use Rattle.roster.specs.declared.state.DutyId.TheVariants.{Period, Outside}
use Rattle.state_rows.specs.Rows.{named_id, named_number}

-- the number of a period is above 0
abbrev pub IsAboveZero : DutyId → Type 0
IsAboveZero (Period p) = 1 ≤ p.number
IsAboveZero (Outside id) = ⊤

-- duties that the same columns name are the same
pub duties_same : (d e : DutyId) → IsAboveZero d → IsAboveZero e → named_id d ≡ named_id e → named_number d ≡ named_number e → d ≡ e
duties_same (Period p) (Period q) a b id number = ap Period (λ i. record { pairing = id i; number = number i })
duties_same (Period p) (Outside x) a b id number = absurd (omega (arith, a, number))
duties_same (Outside x) (Period q) a b id number = absurd (omega (arith, b, number))
duties_same (Outside x) (Outside y) a b id number = ap Outside id
