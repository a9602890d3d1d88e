-- What names decide stands before what histories decide.
use Rattle.std.proofs.Common.{◌≡◌, refl, sym, ap, ◌∙◌, true, false, List, [], ◌∷◌, ◌++◌, Some}
use Rattle.duty.specs.Overlaps.{overlaps}
use Rattle.command.specs.declared.instruction.Instruction.{Instruction}
use Rattle.command.specs.declared.instruction.Instruction.TheVariants.{AddBase, AddCrew, AddPairing, CancelPairing, Assign, Release, Swap, AddGround, CancelGround, Actual, RecordOutside}
use Rattle.command.specs.declared.refusal.Refusal.{Refusal}
use Rattle.command.specs.declared.refusal.Refusal.TheVariants.{GroundExists, Overlap}
use Rattle.roster.specs.ByNames.{refusals_by_names}
use Rattle.roster.specs.Places.{ground_at, no_place, others}
use Rattle.roster.specs.Refusals.{RefusalRow, broken_by, duties_of, first_of, is_ground, over_limits, refusal_of, refusals, trade_rows}
use Rattle.roster.specs.State.{State}

-- the rows that stand after those of names
abbrev pub refusals_after : State → Instruction → List RefusalRow
refusals_after s (Assign id who) =
    (Overlap, overlaps (duties_of s who id) (others s who no_place))
    ∷ over_limits (broken_by who (others s who no_place) (duties_of s who id))
    ∷ []
refusals_after s (Swap w) = trade_rows s w (duties_of s w.other_crew w.pairing) (duties_of s w.crew w.other_pairing)
refusals_after s (AddGround g) =
    let new = (ground_at (g.id, g)).1 ∷ [] in
    (Overlap, overlaps new (others s g.crew no_place))
    ∷ over_limits (broken_by g.crew (others s g.crew no_place) new)
    ∷ (GroundExists, is_ground s g.id)
    ∷ []
refusals_after s (Actual id a) = []
refusals_after s (RecordOutside who o) = []
refusals_after s instruction = refusals s instruction

pub names_first : (s : State) (instruction : Instruction) → refusals s instruction ≡ refusals_by_names s instruction ++ refusals_after s instruction
unfolding refusals refusals_by_names
names_first s (AddBase id zone) = refl
names_first s (AddCrew who member) = refl
names_first s (AddPairing plan) = refl
names_first s (CancelPairing id) = refl
names_first s (Assign id who) = refl
names_first s (Release id who) = refl
names_first s (Swap w) = refl
names_first s (AddGround g) = refl
names_first s (CancelGround id) = refl
names_first s (Actual id a) = refl
names_first s (RecordOutside who o) = refl

first_stays : (rows more : List RefusalRow) (refusal : Refusal) → Some refusal ≡ first_of rows → Some refusal ≡ first_of (rows ++ more)
first_stays [] more refusal is = absurd (cc)
first_stays ((other, true) ∷ rows) more refusal is = is
first_stays ((other, false) ∷ rows) more refusal is = first_stays rows more refusal is

-- a refusal by names is the answer
pub early_refused : (s : State) (instruction : Instruction) (refusal : Refusal) → Some refusal ≡ first_of (refusals_by_names s instruction) → Some refusal ≡ refusal_of s instruction
early_refused s instruction refusal is = first_stays (refusals_by_names s instruction) (refusals_after s instruction) refusal is ∙ ap first_of (sym (names_first s instruction))
