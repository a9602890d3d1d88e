-- Which instructions are refused before they reach the book, and with which fault. Shapes of texts
-- come first, in the order of the fields. The count and the times of an actual come after the shape
-- of its pairing's id; those of an outside period come after the shapes of its id and of its
-- member's id.
use Rattle.std.specs.Prelude.{◌≡◌, ◌≤◌, true, not, [], ◌∷◌, map, Option, None}
use Rattle.std.specs.Str.{bytes_eq}
use Rattle.time117.specs.Local.{is_zone_text}
use Rattle.duty.specs.Pairings.{pairing_fault, ground_fault, outside_fault, actual_fault}
use Rattle.duty.specs.Plans.{as_planned}
use Rattle.duty.specs.Shape.{is_id, is_plain_text}
use Rattle.duty.specs.Words.{first_fault, unless}
use Rattle.duty.specs.declared.fault.DutyFault.{DutyFault}
use Rattle.duty.specs.declared.fault.DutyFault.TheVariants.{BadField}
use Rattle.duty.specs.declared.fault.Field.TheVariants as field
use Rattle.command.specs.declared.instruction.Instruction.{Instruction}
use Rattle.command.specs.declared.instruction.Instruction.TheVariants.{AddBase, AddCrew, AddPairing}
use Rattle.command.specs.declared.instruction.Instruction.TheVariants.{CancelPairing, Assign}
use Rattle.command.specs.declared.instruction.Instruction.TheVariants.{Release, Swap, AddGround}
use Rattle.command.specs.declared.instruction.Instruction.TheVariants.{CancelGround, Actual}
use Rattle.command.specs.declared.instruction.Instruction.TheVariants.{RecordOutside}
use Rattle.command.specs.declared.instruction.Swap as swap

-- why a swap is refused: one of its four ids hasn't the shape of an id, or it swaps a pairing or a
-- member with itself
unfoldable pub swap_fault : swap.Swap → Option DutyFault
swap_fault w =
    first_fault (unless (is_id w.pairing) (BadField field.Pairing)
    ∷ unless (is_id w.crew) (BadField field.Crew)
    ∷ unless (is_id w.other_pairing) (BadField field.OtherPairing)
    ∷ unless (is_id w.other_crew) (BadField field.OtherCrew)
    ∷ unless (not (bytes_eq w.pairing w.other_pairing)) (BadField field.OtherPairing)
    ∷ unless (not (bytes_eq w.crew w.other_crew)) (BadField field.OtherCrew)
    ∷ [])

-- why an instruction is refused: its first bad field; a pairing, a ground duty, an outside period
-- or an actual in the instruction has the fault with which making it is refused
unfoldable pub instruction_fault : Instruction → Option DutyFault
instruction_fault (AddBase id zone) = unless (is_id id) (BadField field.Base)
instruction_fault (AddCrew id member) =
    first_fault (unless (is_id id) (BadField field.Crew)
    ∷ unless (is_plain_text member.name) (BadField field.Name)
    ∷ unless (is_id member.base) (BadField field.Base)
    ∷ [])
instruction_fault (AddPairing pairing) = pairing_fault pairing
instruction_fault (CancelPairing pairing) = unless (is_id pairing) (BadField field.Pairing)
instruction_fault (Assign pairing crew) =
    first_fault (unless (is_id pairing) (BadField field.Pairing)
    ∷ unless (is_id crew) (BadField field.Crew)
    ∷ [])
instruction_fault (Release pairing crew) =
    first_fault (unless (is_id pairing) (BadField field.Pairing)
    ∷ unless (is_id crew) (BadField field.Crew)
    ∷ [])
instruction_fault (Swap w) = swap_fault w
instruction_fault (AddGround g) = ground_fault g
instruction_fault (CancelGround id) = unless (is_id id) (BadField field.Ground)
instruction_fault (Actual pairing actual) =
    first_fault (unless (is_id pairing) (BadField field.Pairing) ∷ actual_fault actual ∷ [])
instruction_fault (RecordOutside crew o) =
    first_fault (unless (is_id o.id) (BadField field.Outside)
    ∷ unless (is_id crew) (BadField field.Crew)
    ∷ outside_fault o
    ∷ [])

-- What the types of an instruction's parts ensure: a zone is a rule text, each period of a pairing
-- is as it was planned, and the period of an actual has a number from 1 to 10.
abbrev pub IsTyped : Instruction → Type 0
IsTyped (AddBase id zone) = is_zone_text zone ≡ true
IsTyped (AddPairing plan) = map as_planned plan.periods ≡ plan.periods
IsTyped (Actual id a) = (1 ≤ a.period) × (a.period ≤ 10)
IsTyped instruction = Unit {0}

-- An instruction is a command: it has no fault, and its parts are of their types.
abbrev pub IsMade : Instruction → Type 0
IsMade instruction = (instruction_fault instruction ≡ None) × IsTyped instruction
