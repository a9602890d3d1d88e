-- Words of the definitions of faults.
use Rattle.std.specs.Prelude.{ℕ, ◌-◌, Bool, not, List, [], ◌∷◌, map, length, drop, Option, Some}
use Rattle.std.specs.Prelude.{None, Result, Ok, Err, if◌then◌else◌}
use Rattle.std.specs.List.{list_all, zip, position_from}
use Rattle.duty.specs.declared.fault.DutyFault.{DutyFault}

-- each element beside what the element before it gives, and the first element beside `first`
abbrev pub beside : {A B : Type 0} → B → (A → B) → List A → List (B × A)
beside first gives xs = zip (first ∷ map gives xs) xs

-- whether each element and the next one pass the test together
abbrev pub each_next : {A : Type 0} → (A → A → Bool) → List A → Bool
each_next test xs = list_all (λ p. test p.0 p.1) (zip xs (drop 1 xs))

-- the last element of a list, if there is one, as a list
abbrev pub last_of : {A : Type 0} → List A → List A
last_of xs = drop (length xs - 1) xs

-- the number of the first element that fails the test, counted from 1
abbrev pub first_failing : {A : Type 0} → (A → Bool) → List A → Option ℕ
first_failing test xs = position_from (λ x. not (test x)) 1 xs

-- the first fault of a list, if it has one
abbrev pub first_fault : List (Option DutyFault) → Option DutyFault
first_fault [] = None
first_fault (Some fault ∷ rest) = Some fault
first_fault (None ∷ rest) = first_fault rest

-- this fault, unless the test passed
abbrev pub unless : Bool → DutyFault → Option DutyFault
unless passed fault = if passed then None else Some fault

-- this value, or the fault, if there is one
abbrev pub checked : {A : Type 0} → Option DutyFault → A → Result A DutyFault
checked None x = Ok x
checked (Some fault) x = Err fault
