-- Which member holds a pairing, and of which member a ground duty and an outside period are.
use Rattle.std.specs.Prelude.{◌≡◌, ◌↔◌, true, List, ℕ, Some}
use Rattle.std.specs.FinMap as fin
use Rattle.std.specs.List.{Contains}
use Rattle.std.specs.Str.{bytes_eq}
use Rattle.duty.specs.Plans.{GroundPlan}
use Rattle.roster.specs.Pairings.{holds}
use Rattle.roster.specs.State.{State}
use Rattle.roster.specs.declared.state.OutsideEntry.{OutsideEntry}
use Rattle.roster.specs.declared.state.PairingEntry.{PairingEntry}

-- the member holds the pairing of this id
abbrev pub IsHeldBy : State → List ℕ → List ℕ → Type 0
IsHeldBy s who id = (r : PairingEntry) × (fin.get s.pairings id ≡ Some r) × (holds who r ≡ true)

-- the ground duty of this id is the member's
abbrev pub IsGroundOf : State → List ℕ → List ℕ → Type 0
IsGroundOf s who id =
    (g : GroundPlan) × (fin.get s.grounds id ≡ Some g) × (bytes_eq g.crew who ≡ true)

-- the outside period of this id is the member's
abbrev pub IsOutsideOf : State → List ℕ → List ℕ → Type 0
IsOutsideOf s who id =
    (o : OutsideEntry) × (fin.get s.outsides id ≡ Some o) × (bytes_eq o.crew who ≡ true)

-- the list has an id if and only if the fact holds of it
abbrev pub AreJust : (List ℕ → Type 0) → List (List ℕ) → Type 0
AreJust Is ids = (id : List ℕ) → Contains ids id ↔ Is id
