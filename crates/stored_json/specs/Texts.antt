-- Faults as they are printed: number, name, and the member or record where there is one.
use Rattle.std.specs.Prelude.{ℕ, List, ◌++◌, codes}
use Rattle.std.specs.Fmt.{decimal}
use Rattle.duty.specs.FaultText as duty
use Rattle.stored_json.specs.Fields.{field_name}
use Rattle.stored_json.specs.declared.fault.CodecFault.{CodecFault}
use Rattle.stored_json.specs.declared.fault.CodecFault.TheVariants.{BadJson, BadCsv, Duty, Memory}

-- a fault of a command's text as it is printed
abbrev pub codec_fault_text : CodecFault → List ℕ
codec_fault_text (BadJson field) = codes "31 BadJson " ++ field_name field
codec_fault_text (BadCsv line) = codes "30 BadCsv " ++ decimal line
codec_fault_text (Duty fault) = duty.duty_fault_text fault
codec_fault_text Memory = codes "91 Memory"
