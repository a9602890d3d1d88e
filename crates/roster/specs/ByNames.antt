-- The refusals of an instruction that what it names decides, before its histories are looked at.
use Rattle.std.specs.Prelude.{not, ◌&&◌, ◌||◌, List, [], ◌∷◌, is_some, is_none}
use Rattle.command.specs.declared.instruction.Instruction.{Instruction}
use Rattle.command.specs.declared.instruction.Instruction.TheVariants.{Assign, Swap, AddGround}
use Rattle.command.specs.declared.instruction.Instruction.TheVariants.{Actual, RecordOutside}
use Rattle.command.specs.declared.refusal.Refusal.TheVariants.{NoSuchCrew, NoSuchPairing, SeatTaken}
use Rattle.command.specs.declared.refusal.Refusal.TheVariants.{WrongSeat, NotAssigned, Flown}
use Rattle.command.specs.declared.refusal.Refusal.TheVariants.{NoSuchDuty, SegmentCount}
use Rattle.command.specs.declared.refusal.Refusal.TheVariants.{OutsideTaken}
use Rattle.roster.specs.Refusals.{RefusalRow, are_of_two_kinds, has_flown, has_free_seat}
use Rattle.roster.specs.Refusals.{holder_of_own_seat, is_assigned, is_member, is_miscounted}
use Rattle.roster.specs.Refusals.{is_pairing, is_taken_from, planned}
use Rattle.roster.specs.State.{State}

-- The first rows of `refusals`, of an instruction that is judged by histories: those before overlap
-- (11), limits (12), and of an added ground duty also its id (14). Of another instruction there are
-- none.
unfoldable pub refusals_by_names : State → Instruction → List RefusalRow
refusals_by_names s (Assign id who) =
    (NoSuchCrew, not (is_member s who))
    ∷ (NoSuchPairing, not (is_pairing s id))
    ∷ (SeatTaken, is_some (holder_of_own_seat s id who))
    ∷ []
refusals_by_names s (Swap w) =
    (NoSuchCrew, not (is_member s w.crew && is_member s w.other_crew))
    ∷ (NoSuchPairing, not (is_pairing s w.pairing && is_pairing s w.other_pairing))
    ∷ (WrongSeat, are_of_two_kinds s w.crew w.other_crew)
    ∷ (
      NotAssigned,
      not (is_assigned s w.pairing w.crew && is_assigned s w.other_pairing w.other_crew),
    )
    ∷ (Flown, has_flown s w.pairing || has_flown s w.other_pairing)
    ∷ []
refusals_by_names s (AddGround g) = (NoSuchCrew, not (is_member s g.crew)) ∷ []
refusals_by_names s (Actual id a) =
    (NoSuchPairing, not (is_pairing s id))
    ∷ (NotAssigned, has_free_seat s id)
    ∷ (NoSuchDuty, is_none (planned s id a.period))
    ∷ (SegmentCount a.period, is_miscounted s id a)
    ∷ []
refusals_by_names s (RecordOutside who o) =
    (NoSuchCrew, not (is_member s who)) ∷ (OutsideTaken, is_taken_from s who o.id) ∷ []
refusals_by_names s instruction = []
