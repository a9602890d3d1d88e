-- An honest book: whatever some duties of a member break among themselves stands in an exceedance
-- of the member that names one of them. A duty is known by its place and not by its times, so an
-- old exceedance excuses no later one. `Broken` has a section if and only if its rule holds: the
-- law `broken_is_rules` of `limits`.
use Rattle.std.specs.Prelude.{◌≡◌, ℕ, List, Some}
use Rattle.std.specs.FinMap as fin
use Rattle.std.specs.List.{Contains}
use Rattle.duty.specs.declared.duty_in_force.DutyInForce.{DutyInForce}
use Rattle.limits.specs.Judgement.{Broken}
use Rattle.limits.specs.declared.section.Section.{Section}
use Rattle.command.specs.Keys.{KeyParts}
use Rattle.roster.specs.Places.{Placed, place_of, duties, history_of}
use Rattle.roster.specs.State.{State, exceedance_name}
use Rattle.roster.specs.declared.state.DutyId.{DutyId}

-- an exceedance of the member has this section, and names one of the duties of a list
pub record IsRecorded
    (s : State) (who : List ℕ) (section : Section) (some : List Placed) : Type 0 where
  pub key : KeyParts
  pub named : DutyId
  pub recorded : fin.get s.exceedances (exceedance_name key who section) ≡ Some named
  pub duty : DutyInForce
  pub is_one : Contains some (place_of named, duty)

-- each duty of a list is one of the member's duties, at its place
abbrev pub AreDutiesOf : State → List ℕ → List Placed → Type 0
AreDutiesOf s who some = (p : Placed) → Contains some p → Contains (history_of s who) p

-- each section that some of the member's duties break among themselves is recorded in an exceedance
-- of the member that names one of these duties
abbrev pub IsHonestOf : State → List ℕ → Type 0
IsHonestOf s who = (some : List Placed) → AreDutiesOf s who some → (section : Section) →
    Contains (Broken (duties some) (duties some)) section → IsRecorded s who section some

-- the book is honest of every member
abbrev pub Honest : State → Type 0
Honest s = (who : List ℕ) → IsHonestOf s who
