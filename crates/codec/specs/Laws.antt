-- What holds of every text that a schedule is read from.
use Rattle.std.specs.Prelude.{◌≡◌, ◌⊎◌, ℕ, List}
use Rattle.duty.specs.Plans.{Plan}
use Rattle.codec.specs.Schedule.{IsAtFault, IsSchedule}

-- A text is a schedule of at most one list of pairings.
abbrev pub IsOfOneList : Type 0
IsOfOneList = (text : List ℕ) (plans other : List Plan) →
    IsSchedule text plans → IsSchedule text other → plans ≡ other

-- A text that is a schedule has no record at fault.
abbrev pub HasNoFault : Type 0
HasNoFault = (text : List ℕ) (plans : List Plan) (n : ℕ) →
    IsSchedule text plans → ¬ (IsAtFault text n)

-- A text has at most one record at fault.
abbrev pub HasOneFault : Type 0
HasOneFault = (text : List ℕ) (n m : ℕ) → IsAtFault text n → IsAtFault text m → n ≡ m

-- Each text is a schedule or has a record at fault.
abbrev pub IsScheduleOrAtFault : Type 0
IsScheduleOrAtFault = (text : List ℕ) →
    ((plans : List Plan) × IsSchedule text plans) ⊎ ((n : ℕ) × IsAtFault text n)
