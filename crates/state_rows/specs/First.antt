-- Which states tables of version 1 can say: HOME is the one base, and nobody flies for another
-- certificate holder.
use Rattle.std.specs.Prelude.{◌≡◌, ⊤, ℕ, List, Some}
use Rattle.std.specs.FinMap as fin
use Rattle.duty.specs.Shape.{home}
use Rattle.command.specs.declared.instruction.Instruction.{Instruction}
use Rattle.command.specs.declared.instruction.Instruction.TheVariants.{AddBase, AddCrew, RecordOutside}
use Rattle.command.specs.declared.member.Member.{Member}
use Rattle.roster.specs.Bases.{only_home, home_zone}
use Rattle.roster.specs.State.{State}
use Rattle.roster.specs.declared.state.DutyId.{DutyId}
use Rattle.roster.specs.declared.state.DutyId.TheVariants.{Outside}
use Rattle.roster.specs.declared.state.LoggedCommand.{LoggedCommand}

-- a book of version 1 can keep the instruction: it adds no base, and no member at another base than
-- HOME, and it records no outside period
abbrev pub IsOfFirst : Instruction → Type 0
IsOfFirst (AddBase id zone) = ⊥
IsOfFirst (AddCrew who member) = member.base ≡ home
IsOfFirst (RecordOutside who o) = ⊥
IsOfFirst instruction = ⊤

-- the duty that an exceedance names is a period of a pairing
abbrev pub IsOfPairing : DutyId → Type 0
IsOfPairing (Outside id) = ⊥
IsOfPairing named = ⊤

-- each exceedance of the state names a period of a pairing
abbrev pub AreOfPairings : State → Type 0
AreOfPairings s = (name : List ℕ) (named : DutyId) → fin.get s.exceedances name ≡ Some named →
    IsOfPairing named

-- Tables of version 1 can say the state. HOME is its one base, and the base of each member. It has
-- no outside period, and no exceedance names one. A book of version 1 can keep each kept command.
pub record IsFirst (s : State) : Type 0 where
  pub bases : s.bases ≡ only_home (home_zone s.bases)
  pub members : (who : List ℕ) (m : Member) → fin.get s.crew who ≡ Some m → m.base ≡ home
  pub outsides : s.outsides ≡ fin.empty
  pub records : AreOfPairings s
  pub commands : (name : List ℕ) (r : LoggedCommand) → fin.get s.requests name ≡ Some r →
      IsOfFirst r.command
