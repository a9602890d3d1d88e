-- A sound state: HOME is one of its bases, every name in it, save inside kept commands and replies,
-- names something, and its pairings, actuals, ground duties and outside periods keep their orders.
-- Exceedances and kept commands stand under what they are known by, and nothing else does.
use Rattle.std.specs.Prelude.{◌≡◌, ℕ, ◌+◌, ◌<◌, true, List, map, length, Option, Some, None}
use Rattle.std.specs.Prelude.{slice_get}
use Rattle.std.specs.FinMap as fin
use Rattle.values.specs.Name.{name_cmp}
use Rattle.duty.specs.Pairings.{pairing_fault, outside_fault, actual_fault}
use Rattle.duty.specs.Plans.{Plan, GroundPlan, ActualTimes, as_planned}
use Rattle.duty.specs.Shape.{home}
use Rattle.duty.specs.declared.fdp.Fdp.{Fdp}
use Rattle.limits.specs.declared.section.Section.{Section}
use Rattle.command.specs.Keys.{KeyParts, key_name}
use Rattle.command.specs.Instructions.{IsMade}
use Rattle.command.specs.declared.member.Member.{Member}
use Rattle.command.specs.declared.member.Seat.{Seat}
use Rattle.command.specs.declared.member.Seat.TheVariants.{Captain, FirstOfficer}
use Rattle.roster.specs.Bases.{IsBase}
use Rattle.roster.specs.Pairings.{is_flown, is_fully_crewed}
use Rattle.roster.specs.State.{State, exceedance_name}
use Rattle.roster.specs.declared.state.DutyId.{DutyId}
use Rattle.roster.specs.declared.state.DutyId.TheVariants.{Period, Outside}
use Rattle.roster.specs.declared.state.OutsideEntry.{OutsideEntry}
use Rattle.roster.specs.declared.state.PeriodId.{PeriodId}
use Rattle.roster.specs.declared.state.LoggedCommand.{LoggedCommand}
use Rattle.roster.specs.declared.state.PairingEntry.{PairingEntry}

-- the members by their ids
abbrev pub Members : Type 0
Members = fin.FinMap name_cmp Member

-- the holder of a seat, if there is one, is a member of the seat's kind
abbrev pub IsHolder : Members → Seat → Option (List ℕ) → Type 0
IsHolder crew seat holder = (who : List ℕ) → holder ≡ Some who →
    (m : Member) × (fin.get crew who ≡ Some m) × (m.seat ≡ seat)

-- an actual at place i, counted from 0, is of the plan's period at that place, has as many segments
-- as the period, and keeps the order of its times
pub record IsActual (plan : Plan) (i : ℕ) (a : ActualTimes) : Type 0 where
  pub fdp : Fdp
  pub planned : slice_get plan.periods i ≡ Some fdp
  pub number : a.period ≡ i + 1
  pub count : length fdp.segments ≡ length a.segments
  pub in_order : actual_fault a ≡ None

-- a pairing keeps the order of its plan, its holders are members, and each of its actuals is of one
-- of its periods
pub record SoundPairing (crew : Members) (id : List ℕ) (r : PairingEntry) : Type 0 where
  pub named : r.plan.id ≡ id
  -- a plan that `Pairing::new` makes
  pub plan : pairing_fault r.plan ≡ None
  pub planned : map as_planned r.plan.periods ≡ r.plan.periods
  pub captain : IsHolder crew Captain r.captain
  pub first_officer : IsHolder crew FirstOfficer r.first_officer
  -- a place for the actual of each period
  pub places : length r.actuals ≡ length r.plan.periods
  pub actuals : (i : ℕ) (a : ActualTimes) → slice_get r.actuals i ≡ Some (Some a) →
      IsActual r.plan i a
  -- both seats of a flown pairing are held
  pub crewed : is_flown r ≡ true → is_fully_crewed r ≡ true

-- a ground duty is of a member, and begins before it ends
pub record SoundGround (crew : Members) (id : List ℕ) (g : GroundPlan) : Type 0 where
  pub named : g.id ≡ id
  pub member : Member
  pub of_member : fin.get crew g.crew ≡ Some member
  pub begins : g.begin < g.end

-- an outside period is of a member, and is one that `Outside::new` makes
pub record SoundOutside (crew : Members) (id : List ℕ) (o : OutsideEntry) : Type 0 where
  pub named : o.period.id ≡ id
  pub member : Member
  pub of_member : fin.get crew o.crew ≡ Some member
  pub made : outside_fault o.period ≡ None

-- a period of a pairing has an actual
pub record IsFlown (s : State) (p : PeriodId) : Type 0 where
  pub entry : PairingEntry
  pub of_pairing : fin.get s.pairings p.pairing ≡ Some entry
  pub place : ℕ
  pub number : p.number ≡ place + 1
  pub actual : ActualTimes
  pub flown : slice_get entry.actuals place ≡ Some (Some actual)

-- the duty that an exceedance names is there: a period that has an actual, or an outside period
abbrev pub IsNamed : State → DutyId → Type 0
IsNamed s (Period p) = IsFlown s p
IsNamed s (Outside id) = (o : OutsideEntry) × (fin.get s.outsides id ≡ Some o)

-- an exceedance is known by a key that is held, a member and a section, and names a period that has
-- an actual, or an outside period
pub record SoundExceedance (s : State) (name : List ℕ) (named : DutyId) : Type 0 where
  pub key : KeyParts
  pub crew : List ℕ
  pub section : Section
  pub known_by : name ≡ exceedance_name key crew section
  pub request : LoggedCommand
  pub held : fin.get s.requests (key_name key) ≡ Some request
  pub member : Member
  pub of_member : fin.get s.crew crew ≡ Some member
  pub of_duty : IsNamed s named

-- what is kept under a key is a command that `Command::new` makes
pub record SoundRequest (name : List ℕ) (request : LoggedCommand) : Type 0 where
  pub key : KeyParts
  pub known_by : name ≡ key_name key
  pub made : IsMade request.command

-- a state is sound: its bases have HOME, the base of each member is one of the bases, and each
-- pairing, ground duty, outside period, exceedance and kept command is sound
pub record Sound (s : State) : Type 0 where
  pub has_home : IsBase s.bases home
  pub crew : (who : List ℕ) (m : Member) → fin.get s.crew who ≡ Some m → IsBase s.bases m.base
  pub pairings : (id : List ℕ) (r : PairingEntry) → fin.get s.pairings id ≡ Some r →
      SoundPairing s.crew id r
  pub grounds : (id : List ℕ) (g : GroundPlan) → fin.get s.grounds id ≡ Some g →
      SoundGround s.crew id g
  pub outsides : (id : List ℕ) (o : OutsideEntry) → fin.get s.outsides id ≡ Some o →
      SoundOutside s.crew id o
  pub exceedances : (name : List ℕ) (d : DutyId) → fin.get s.exceedances name ≡ Some d →
      SoundExceedance s name d
  pub requests : (name : List ℕ) (r : LoggedCommand) → fin.get s.requests name ≡ Some r →
      SoundRequest name r
