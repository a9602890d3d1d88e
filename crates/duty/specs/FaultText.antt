-- Refusals of duties as they are printed: number, name, and the period or field where there is one.
use Rattle.std.specs.Prelude.{ℕ, List, ◌++◌, codes}
use Rattle.std.specs.Fmt.{decimal}
use Rattle.duty.specs.declared.fault.DutyFault.{DutyFault}
use Rattle.duty.specs.declared.fault.DutyFault.TheVariants.{BadTimes, BadChain, BadField}
use Rattle.duty.specs.declared.fault.DutyFault.TheVariants.{SegmentCount, Memory}
use Rattle.duty.specs.declared.fault.Field.{Field}
use Rattle.duty.specs.declared.fault.Field.TheVariants.{Crew, Name, Pairing, Periods, OtherPairing}
use Rattle.duty.specs.declared.fault.Field.TheVariants.{OtherCrew, Ground, Task, Base, Outside}

-- the text of a field: what the commands name the field
abbrev pub field_text : Field → List ℕ
field_text Crew = codes "crew"
field_text Name = codes "name"
field_text Pairing = codes "pairing"
field_text Periods = codes "periods"
field_text OtherPairing = codes "other_pairing"
field_text OtherCrew = codes "other_crew"
field_text Ground = codes "ground"
field_text Task = codes "task"
field_text Base = codes "base"
field_text Outside = codes "outside"

-- a refusal of a duty as it is printed: its number, its name, and the period or field, if the
-- refusal has one
abbrev pub duty_fault_text : DutyFault → List ℕ
duty_fault_text (BadTimes period) = codes "16 BadTimes " ++ decimal period
duty_fault_text (BadChain period) = codes "17 BadChain " ++ decimal period
duty_fault_text (BadField field) = codes "18 BadField " ++ field_text field
duty_fault_text (SegmentCount period) = codes "19 SegmentCount " ++ decimal period
duty_fault_text Memory = codes "91 Memory"
