-- What a source that is read by key says of the state that the source shows.
use Rattle.std.specs.Prelude.{◌≡◌, ◌⊎◌, ◌++◌, if◌then◌else◌, Bool, List, map, ℕ, Option, Result, IfOk}
use Rattle.std.specs.Prelude.{Some, None}
use Rattle.std.specs.FinMap as fin
use Rattle.std.specs.List.{Contains, fold, flat_map}
use Rattle.std.specs.Option.{option_map_or}
use Rattle.std.specs.Str.{bytes_eq}
use Rattle.values.specs.Name.{changed_at, name_cmp}
use Rattle.duty.specs.Plans.{GroundPlan}
use Rattle.command.specs.Keys.{KeyParts, key_name}
use Rattle.command.specs.declared.instruction.Instruction.{Instruction}
use Rattle.command.specs.declared.member.Member.{Member}
use Rattle.command.specs.declared.member.Seat.{Seat}
use Rattle.part.specs.Part.{grounds_named, grounds_needed, holders, is_one_of, judged_by}
use Rattle.part.specs.Part.{members_named, outsides_named, outsides_needed}
use Rattle.duty.specs.declared.span.Span.{Span}
use Rattle.roster.specs.Holding.{IsGroundOf, IsHeldBy, IsOutsideOf}
use Rattle.part.specs.Near.{AreSo, HaveHeld}
use Rattle.roster.specs.Near.{IsHeldNear}
use Rattle.roster.specs.Pairings.{with_holder}
use Rattle.roster.specs.State.{State}
use Rattle.roster.specs.declared.state.OutsideEntry.{OutsideEntry}
use Rattle.roster.specs.declared.state.PairingEntry.{PairingEntry}

-- What a call of a source says of a state: as long as the source may be believed, it shows the
-- state that it showed, and the answer is that of the state.
abbrev pub TellsOfState :
    {X A E : Type 0} → (X → Type 0) → (X → State → Type 0) → (State → A → Type 0) → X → X
    → Result A E → Type 0
TellsOfState IsClean Shows Is old new result =
    (IsClean new → IsClean old)
    × (IsClean new → (s : State) → Shows old s → IfOk result (λ a. Shows new s × Is s a))

-- why a gathering answers a fault: a call of the source failed, and says why; or the gathering
-- found no memory beside the calls
abbrev pub IsCauseOfGathering :
    {X F M : Type 0} → (X → X → F → Type 0) → (M → F → Type 0) → X → X → F → Type 0
IsCauseOfGathering {X} {F} {M} fails made old new fault =
    fails old new fault ⊎ ((none : M) × made none fault)

-- a map with what another map has under an id, if the other has anything there
abbrev pub pick :
    {V : Type 0} → fin.FinMap name_cmp V → fin.FinMap name_cmp V → List ℕ → fin.FinMap name_cmp V
pick from to id = option_map_or (λ value. fin.insert to id value) (fin.get from id) to

-- a map with what another map has under these ids, put in one after the other
abbrev pub picked :
    {V : Type 0} → fin.FinMap name_cmp V → fin.FinMap name_cmp V → List (List ℕ)
    → fin.FinMap name_cmp V
picked from to ids = fold (pick from) to ids

-- a value that passes a test, or nothing
abbrev pub if_passes : {V : Type 0} → (V → Bool) → Option V → Option V
if_passes test None = None
if_passes test (Some value) = if test value then Some value else None

-- a map with what another map has under this id, if that passes a test
abbrev pub pick_where : {V : Type 0} → (V → Bool) → fin.FinMap name_cmp V → fin.FinMap name_cmp V
    → List ℕ → fin.FinMap name_cmp V
pick_where test from to id =
    option_map_or (λ value. fin.insert to id value) (if_passes test (fin.get from id)) to

-- a map with what another map has under these ids and passes a test, put in one after the other
abbrev pub picked_where : {V : Type 0} → (V → Bool) → fin.FinMap name_cmp V
    → fin.FinMap name_cmp V → List (List ℕ) → fin.FinMap name_cmp V
picked_where test from to ids = fold (pick_where test from) to ids

-- a map with what another map has under the named id, if one is named
abbrev pub pick_named :
    {V : Type 0} → fin.FinMap name_cmp V → (named : Option (List ℕ)) → fin.FinMap name_cmp V
    → fin.FinMap name_cmp V
pick_named from named to = option_map_or (pick from to) named to

-- whatever the first map has under an id, the second map has under that id too
abbrev pub IsPartOf : {V : Type 0} → fin.FinMap name_cmp V → fin.FinMap name_cmp V → Type 0
IsPartOf {V} part whole =
    (id : List ℕ) (value : V) → fin.get part id ≡ Some value → fin.get whole id ≡ Some value

-- one of these members holds a seat of the pairing with this id
abbrev pub IsHeldByOne : State → List (List ℕ) → List ℕ → Type 0
IsHeldByOne s names id = (who : List ℕ) × Contains names who × IsHeldBy s who id

-- the ground duty with this id is of one of these members
abbrev pub IsGroundOfOne : State → List (List ℕ) → List ℕ → Type 0
IsGroundOfOne s names id = (who : List ℕ) × Contains names who × IsGroundOf s who id

-- the outside period with this id is of one of these members
abbrev pub IsOutsideOfOne : State → List (List ℕ) → List ℕ → Type 0
IsOutsideOfOne s names id = (who : List ℕ) × Contains names who × IsOutsideOf s who id

-- the members whom an instruction names, and those whom these pairings, ground duties and outside
-- periods name
abbrev pub members_wanted :
    Instruction → fin.FinMap name_cmp PairingEntry → fin.FinMap name_cmp GroundPlan
    → fin.FinMap name_cmp OutsideEntry → List (List ℕ)
members_wanted instruction pairings grounds outsides =
    ((members_named instruction ++ flat_map (λ row. holders row.1) (fin.entries pairings))
    ++ map (λ row. row.1.crew) (fin.entries grounds))
    ++ map (λ row. row.1.crew) (fin.entries outsides)

-- these pairings with one more, whose seats are free; then with this member in a seat of it
abbrev pub with_held : Seat → List ℕ → PairingEntry → fin.FinMap name_cmp PairingEntry
    → fin.FinMap name_cmp PairingEntry
with_held seat who free pairings =
    changed_at
    (if fin.contains_key pairings free.plan.id then pairings else
    fin.insert pairings free.plan.id free)
    free.plan.id
    (with_holder seat (Some who))

-- The second pairings have what the first have, and each that these members hold and that is near
-- some spans, with the member in a seat. A pairing that was as the state has it still is. If the
-- first are true of the state, so are the second, and who was in a seat still is.
pub record AddsNear (s : State) (spans : List Span) (names : List (List ℕ))
    (some more : fin.FinMap name_cmp PairingEntry) : Type 0 where
  pub whole : (id : List ℕ) → fin.get some id ≡ fin.get s.pairings id →
      fin.get more id ≡ fin.get s.pairings id
  pub so : AreSo s some → AreSo s more
  pub kept : AreSo s some → (who id : List ℕ) → HaveHeld some who id → HaveHeld more who id
  pub near : AreSo s some → (who : List ℕ) → Contains names who → (id : List ℕ) →
      IsHeldNear s spans who id → HaveHeld more who id

-- the member is there, and flies in this seat
abbrev pub FliesIn : State → Seat → List ℕ → Type 0
FliesIn s seat who = (m : Member) × (fin.get s.crew who ≡ Some m) × (m.seat ≡ seat)

-- The second part is the first with the ground duties and outside periods that an instruction
-- needs, if the first has those that the instruction names, and these are the members judged.
abbrev pub HasOtherDuties : State → (judged : List (List ℕ)) → State → State → Type 0
HasOtherDuties s judged part more = (instruction : Instruction) →
    judged ≡ judged_by s instruction →
    part.grounds ≡ fin.retain_keys s.grounds (is_one_of (grounds_named instruction)) →
    part.outsides ≡ fin.retain_keys s.outsides (is_one_of (outsides_named instruction)) →
    more ≡ record part {
      grounds = grounds_needed s instruction;
      outsides = outsides_needed s instruction;
    }

-- the part of a state with all bases and nothing else
abbrev pub bases_part : State → State
bases_part s = record {
  bases = s.bases;
  crew = fin.empty;
  pairings = fin.empty;
  grounds = fin.empty;
  outsides = fin.empty;
  exceedances = fin.empty;
  requests = fin.empty;
}

-- the part of a state with all bases and what a key holds, and nothing else
abbrev pub key_part : State → KeyParts → State
key_part s key = record {
  bases = s.bases;
  crew = fin.empty;
  pairings = fin.empty;
  grounds = fin.empty;
  outsides = fin.empty;
  exceedances = fin.empty;
  requests = fin.retain_keys s.requests (bytes_eq (key_name key));
}
