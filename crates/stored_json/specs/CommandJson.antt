-- What the members of a command are read as, and which members are refused. Members are looked for
-- in the order in which they stand here. The first member that is missing or isn't read is refused
-- by its name. If each member is read, the command as a whole may be refused.
use Rattle.std.specs.Prelude.{ℕ, List, Option, Some, None, is_some, ok_or, option_and_then, Result}
use Rattle.std.specs.Prelude.{Ok, Err, if◌then◌else◌}
use Rattle.std.specs.Option.{option_map_or}
use Rattle.serde_json.specs.Data.{Data}
use Rattle.serde_json.specs.Find.{get, as_str, as_object}
use Rattle.serde_json.specs.Read.{read}
use Rattle.duty.specs.Plans.{plan}
use Rattle.duty.specs.Shape.{home}
use Rattle.duty.specs.declared.fault.DutyFault.{DutyFault}
use Rattle.command.specs.Instructions.{instruction_fault}
use Rattle.command.specs.declared.instruction.Instruction.{Instruction}
use Rattle.command.specs.declared.instruction.Instruction.TheVariants as instruction
use Rattle.stored_json.specs.Fields.{field_name}
use Rattle.stored_json.specs.Parts.{read_named_part, read_list, read_time, read_times, read_seat}
use Rattle.stored_json.specs.Parts.{read_verb, read_zone, read_period, read_period_number}
use Rattle.stored_json.specs.declared.fault.CodecFault.{CodecFault}
use Rattle.stored_json.specs.declared.fault.CodecFault.TheVariants.{BadJson, Duty}
use Rattle.stored_json.specs.declared.field.JsonField.{JsonField}
use Rattle.stored_json.specs.declared.field.JsonField.TheVariants.{Body, Do, Crew, Seat, Name}
use Rattle.stored_json.specs.declared.field.JsonField.TheVariants.{Pairing, Periods, OtherPairing}
use Rattle.stored_json.specs.declared.field.JsonField.TheVariants.{OtherCrew, Ground, Begin, End}
use Rattle.stored_json.specs.declared.field.JsonField.TheVariants.{Task, Period, Report, Release}
use Rattle.stored_json.specs.declared.field.JsonField.TheVariants.{Segments, Base, Zone, Outside}
use Rattle.stored_json.specs.declared.verb.Verb.{Verb}
use Rattle.stored_json.specs.declared.verb.Verb.TheVariants as verb

-- the next step, with what the step before it gave, or the fault with which that step was refused
abbrev pub and_then :
    {A B : Type 0} → Result A CodecFault → (A → Result B CodecFault) → Result B CodecFault
and_then (Ok x) next = next x
and_then (Err fault) next = Err fault

-- what a member of a command is read as; the member is refused by its name if it is missing or
-- isn't read
abbrev pub field_of : {A : Type 0} → (Data → Option A) → JsonField → Data → Result A CodecFault
field_of reads field d = ok_or (read_named_part reads (field_name field) d) (BadJson field)

-- what a member of a command is read as that may be missing, and then has this value
abbrev pub field_or : {A : Type 0} → A → (Data → Option A) → JsonField → Data → Result A CodecFault
field_or missing reads field d =
    option_map_or (λ value. ok_or (reads value) (BadJson field)) (get (field_name field) d)
    (Ok missing)

-- what the members after `do` are read as: the instruction of this verb
abbrev pub read_members : Verb → Data → Result Instruction CodecFault
read_members verb.AddBase d =
    and_then (field_of as_str Base d) (λ base.
    and_then (field_of read_zone Zone d) (λ zone. Ok (instruction.AddBase base zone)))
read_members verb.AddCrew d =
    and_then (field_of as_str Crew d) (λ crew.
    and_then (field_of read_seat Seat d) (λ seat.
    and_then (field_of as_str Name d) (λ name.
    and_then (field_or home as_str Base d) (λ base.
    Ok (instruction.AddCrew crew (record { seat = seat; name = name; base = base }))))))
read_members verb.AddPairing d =
    and_then (field_of as_str Pairing d) (λ pairing.
    and_then (field_of (read_list read_period) Periods d) (λ periods.
    Ok (instruction.AddPairing (plan pairing periods))))
read_members verb.CancelPairing d =
    and_then (field_of as_str Pairing d) (λ pairing. Ok (instruction.CancelPairing pairing))
read_members verb.Assign d =
    and_then (field_of as_str Pairing d) (λ pairing.
    and_then (field_of as_str Crew d) (λ crew. Ok (instruction.Assign pairing crew)))
read_members verb.Release d =
    and_then (field_of as_str Pairing d) (λ pairing.
    and_then (field_of as_str Crew d) (λ crew. Ok (instruction.Release pairing crew)))
read_members verb.Swap d =
    and_then (field_of as_str Pairing d) (λ pairing.
    and_then (field_of as_str Crew d) (λ crew.
    and_then (field_of as_str OtherPairing d) (λ other_pairing.
    and_then (field_of as_str OtherCrew d) (λ other_crew.
    Ok (instruction.Swap (record {
      pairing = pairing;
      crew = crew;
      other_pairing = other_pairing;
      other_crew = other_crew;
    }))))))
read_members verb.AddGround d =
    and_then (field_of as_str Ground d) (λ id.
    and_then (field_of as_str Crew d) (λ crew.
    and_then (field_of read_time Begin d) (λ begin.
    and_then (field_of read_time End d) (λ end.
    and_then (field_of as_str Task d) (λ task.
    Ok (instruction.AddGround (record {
      id = id;
      crew = crew;
      begin = begin;
      end = end;
      task = task;
    })))))))
read_members verb.CancelGround d =
    and_then (field_of as_str Ground d) (λ id. Ok (instruction.CancelGround id))
read_members verb.Actual d =
    and_then (field_of as_str Pairing d) (λ pairing.
    and_then (field_of read_period_number Period d) (λ period.
    and_then (field_of read_time Report d) (λ report.
    and_then (field_of read_time Release d) (λ release.
    and_then (field_of (read_list read_times) Segments d) (λ segments.
    Ok (instruction.Actual pairing (record {
      period = period;
      report = report;
      release = release;
      segments = segments;
    })))))))
read_members verb.RecordOutside d =
    and_then (field_of as_str Outside d) (λ id.
    and_then (field_of as_str Crew d) (λ crew.
    and_then (field_of read_time Report d) (λ report.
    and_then (field_of read_time Release d) (λ release.
    and_then (field_of (read_list read_times) Segments d) (λ segments.
    Ok (instruction.RecordOutside crew (record {
      id = id;
      report = report;
      release = release;
      segments = segments;
    })))))))

-- this instruction, or its fault, if it has one
abbrev pub unless_fault : Option DutyFault → Instruction → Result Instruction CodecFault
unless_fault None asked = Ok asked
unless_fault (Some fault) asked = Err (Duty fault)

-- an instruction as a command, or its fault, if it has one
abbrev pub made_command : Instruction → Result Instruction CodecFault
made_command asked = unless_fault (instruction_fault asked) asked

-- what an object's members are read as: a command
unfoldable pub read_instruction : Data → Result Instruction CodecFault
read_instruction d =
    and_then (and_then (field_of read_verb Do d) (λ verb. read_members verb d)) made_command

-- the object that a JSON text is; the text is refused as a whole if it is no object
abbrev pub read_object : List ℕ → Result Data CodecFault
read_object text =
    ok_or (option_and_then (λ d. if is_some (as_object d) then Some d else None) (read text))
    (BadJson Body)

-- what a kept text is read as: a command
abbrev pub read_kept : List ℕ → Result Instruction CodecFault
read_kept text = and_then (read_object text) read_instruction
