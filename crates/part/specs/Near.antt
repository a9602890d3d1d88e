-- The part of a state that suffices where histories are judged: no window that meets the new duties
-- of an instruction reaches the pairings that are left out.
use Rattle.std.specs.Prelude.{◌≡◌, ℕ, Bool, true, ◌||◌, List, [], ◌∷◌, ◌++◌, Some}
use Rattle.std.specs.FinMap as fin
use Rattle.std.specs.Option.{option_map_or}
use Rattle.values.specs.Name.{name_cmp}
use Rattle.duty.specs.declared.span.Span.{Span}
use Rattle.command.specs.Instructions.{IsMade}
use Rattle.command.specs.Keys.{KeyParts}
use Rattle.command.specs.declared.instruction.Instruction.{Instruction}
use Rattle.command.specs.declared.instruction.Instruction.TheVariants.{Assign, Swap, AddGround}
use Rattle.command.specs.declared.instruction.Instruction.TheVariants.{Actual, RecordOutside}
use Rattle.command.specs.declared.member.Seat.{Seat}
use Rattle.roster.specs.Near.{IsHeldNear, period_times}
use Rattle.roster.specs.Pairings.{holder, holds}
use Rattle.roster.specs.Sound.{Sound}
use Rattle.roster.specs.State.{State}
use Rattle.roster.specs.Steps.{step_of}
use Rattle.roster.specs.declared.state.PairingEntry.{PairingEntry}
use Rattle.part.specs.Part.{Part, is_one_of, judged_by, members_named, pairings_named}

-- ---- Where the new duties lie

-- The times of an instruction's new duties, among these pairings. They are those of the pairings
-- that an assign or a swap names, and of the ground duty, the actual or the outside period; else
-- none.
abbrev pub new_times_in : fin.FinMap name_cmp PairingEntry → Instruction → List Span
new_times_in pairings (Assign id who) = option_map_or period_times (fin.get pairings id) []
new_times_in pairings (Swap w) =
    option_map_or period_times (fin.get pairings w.pairing) []
    ++ option_map_or period_times (fin.get pairings w.other_pairing) []
new_times_in pairings (AddGround g) = record { from = g.begin; to = g.end } ∷ []
new_times_in pairings (Actual id a) = record { from = a.report; to = a.release } ∷ []
new_times_in pairings (RecordOutside who o) = record { from = o.report; to = o.release } ∷ []
new_times_in pairings instruction = []

-- the times of an instruction's new duties in a state
abbrev pub new_times : State → Instruction → List Span
new_times s instruction = new_times_in s.pairings instruction

-- ---- What is near them

-- an instruction needs a member whom it names, and each whose history it is judged by
abbrev pub needs_judged : State → Instruction → List ℕ → Bool
needs_judged s instruction who =
    is_one_of (members_named instruction) who || is_one_of (judged_by s instruction) who

-- A pairing is true of another: it has the same plan and actuals, and nobody in a seat who hasn't
-- that seat in the other.
pub record IsSoOf (r some : PairingEntry) : Type 0 where
  pub plan : some.plan ≡ r.plan
  pub actuals : some.actuals ≡ r.actuals
  pub seats : (seat : Seat) (who : List ℕ) → holder seat some ≡ Some who → holder seat r ≡ Some who

-- each of these is true of the state's pairing under its id
abbrev pub AreSo : State → fin.FinMap name_cmp PairingEntry → Type 0
AreSo s pairings = (id : List ℕ) (some : PairingEntry) → fin.get pairings id ≡ Some some →
    (r : PairingEntry) × (fin.get s.pairings id ≡ Some r) × IsSoOf r some

-- these pairings have the one of this id, with the member in a seat
abbrev pub HaveHeld : fin.FinMap name_cmp PairingEntry → List ℕ → List ℕ → Type 0
HaveHeld pairings who id =
    (r : PairingEntry) × (fin.get pairings id ≡ Some r) × (holds who r ≡ true)

-- Some of a state's pairings. They have each that the instruction names, as it is; and each that a
-- judged member holds and that is near the new duties, with this member in a seat. Who has the
-- other seat of such a pairing may be left out.
pub record HasNear (s : State) (instruction : Instruction)
    (some : fin.FinMap name_cmp PairingEntry) : Type 0 where
  pub named : (id : List ℕ) → is_one_of (pairings_named instruction) id ≡ true →
      fin.get some id ≡ fin.get s.pairings id
  pub so : AreSo s some
  pub near : (who : List ℕ) → is_one_of (judged_by s instruction) who ≡ true → (id : List ℕ) →
      IsHeldNear s (new_times s instruction) who id → HaveHeld some who id

-- A part of a state that an instruction under this key needs to be judged: as `Part`, but of the
-- pairings those near the new duties suffice, and members who are neither named nor judged are left
-- out.
pub record IsNearPart (s : State) (key : KeyParts) (instruction : Instruction) (part : State)
    : Type 0 where
  pub pairings : HasNear s instruction part.pairings
  pub rest : part ≡ record (Part s key instruction) {
    crew = fin.retain_keys s.crew (needs_judged s instruction);
    pairings = part.pairings;
  }

-- ---- A law

-- a near part of a sound state answers each command as the whole state does: with the same verdict,
-- reply and change
abbrev pub NearAnswersCommands : Type 0
NearAnswersCommands = (s part : State) (key : KeyParts) (instruction : Instruction) → Sound s →
    IsMade instruction → IsNearPart s key instruction part →
    step_of part key instruction ≡ step_of s key instruction
