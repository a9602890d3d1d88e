-- What the types of the parts of a state ensure: the shapes of ids and texts, the ranges of
-- numbers, and instants of the years 2000 to 2099.
use Rattle.std.specs.Prelude.{◌≡◌, ⊤, IsUtf8, ℕ, true, List, None, Some, slice_get}
use Rattle.std.specs.FinMap as fin
use Rattle.std.specs.List.{list_all}
use Rattle.time117.specs.Local.{is_zone_text}
use Rattle.duty.specs.Pairings.{ground_fault}
use Rattle.duty.specs.Plans.{ActualTimes, GroundPlan, OutsidePlan}
use Rattle.duty.specs.Shape.{is_id}
use Rattle.command.specs.Keys.{KeyParts, key_name}
use Rattle.command.specs.declared.instruction.Instruction.{Instruction}
use Rattle.command.specs.declared.instruction.Instruction.TheVariants.{AddCrew, AddGround}
use Rattle.stored_json.specs.Instants.{is_instant, period_has_instants, times_have_instants}
use Rattle.stored_json.specs.Laws.{IsCommand}
use Rattle.roster.specs.State.{State}
use Rattle.roster.specs.declared.change.Change.{Change}
use Rattle.roster.specs.declared.state.LoggedCommand.{LoggedCommand}
use Rattle.roster.specs.declared.state.OutsideEntry.{OutsideEntry}
use Rattle.roster.specs.declared.state.PairingEntry.{PairingEntry}
use Rattle.entries.specs.Right.{AreMembers, HasInstantTimes, IsKey, IsRequest}

-- the id of a base has its shape, and its zone is a rule text
pub record IsTypedBase (id zone : List ℕ) : Type 0 where
  pub id_shape : is_id id ≡ true
  pub rule : is_zone_text zone ≡ true

-- the times of a pairing, as planned and as flown, are instants
pub record IsTypedPairing (r : PairingEntry) : Type 0 where
  pub planned : list_all period_has_instants r.plan.periods ≡ true
  pub flown : (i : ℕ) (a : ActualTimes) → slice_get r.actuals i ≡ Some (Some a) →
      HasInstantTimes a

-- a ground duty is one that `Ground::new` makes
pub record IsTypedGround (g : GroundPlan) : Type 0 where
  pub made : ground_fault g ≡ None
  pub begin : is_instant g.begin ≡ true
  pub end : is_instant g.end ≡ true
  pub utf8 : IsUtf8 g.task

-- the times of an outside period are instants
pub record IsTypedOutside (o : OutsidePlan) : Type 0 where
  pub report : is_instant o.report ≡ true
  pub release : is_instant o.release ≡ true
  pub segments : list_all times_have_instants o.segments ≡ true

-- each base, member, pairing, ground duty, outside period and kept command of the state is of its
-- type
pub record HasTypedParts (s : State) : Type 0 where
  pub bases : (id zone : List ℕ) → fin.get s.bases id ≡ Some zone → IsTypedBase id zone
  pub members : AreMembers s
  pub pairings : (id : List ℕ) (r : PairingEntry) → fin.get s.pairings id ≡ Some r →
      IsTypedPairing r
  pub grounds : (id : List ℕ) (g : GroundPlan) → fin.get s.grounds id ≡ Some g → IsTypedGround g
  pub outsides : (id : List ℕ) (o : OutsideEntry) → fin.get s.outsides id ≡ Some o →
      IsTypedOutside o.period
  pub requests : (name : List ℕ) (r : LoggedCommand) → fin.get s.requests name ≡ Some r →
      (key : KeyParts) × (name ≡ key_name key) × IsRequest key r

-- ---- What a command adds

-- a name and a task are UTF-8, as their types ensure; each other text is by its shape
abbrev pub HasUtf8 : Instruction → Type 0
HasUtf8 (AddCrew who member) = IsUtf8 member.name
HasUtf8 (AddGround g) = IsUtf8 g.task
HasUtf8 instruction = ⊤

-- the key, the command and the texts of a change are of their types
pub record IsTypedChange (change : Change) : Type 0 where
  pub key : IsKey change.key
  pub command : IsCommand change.command
  pub utf8 : HasUtf8 change.command
