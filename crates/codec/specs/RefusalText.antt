-- Refusals as JSON: number and name, and what is reported with them; the members in byte order of
-- their names.
use Rattle.std.specs.Prelude.{ℕ, List, [], ◌∷◌, map, codes}
use Rattle.serde_json.specs.Data.{Data, number, unsigned, string}
use Rattle.serde_json.specs.Written.{compact_text}
use Rattle.duty.specs.FaultText.{field_text}
use Rattle.duty.specs.declared.fault.DutyFault.{DutyFault}
use Rattle.duty.specs.declared.fault.DutyFault.TheVariants as duty
use Rattle.command.specs.Texts.{refusal_number, refusal_name}
use Rattle.command.specs.declared.exceedance.Exceedance.{Exceedance}
use Rattle.command.specs.declared.refusal.Refusal.{Refusal}
use Rattle.command.specs.declared.refusal.Refusal.TheVariants.{Limits, SegmentCount}
use Rattle.stored_json.specs.Fields.{field_name}
use Rattle.stored_json.specs.ReplyText.{exceedance_json}
use Rattle.stored_json.specs.Values.{object_of, array_of}
use Rattle.stored_json.specs.declared.fault.CodecFault.{CodecFault}
use Rattle.stored_json.specs.declared.fault.CodecFault.TheVariants.{BadJson, BadCsv, Duty, Memory}

-- the last members of each refusal: its number, and that the result is a refusal
abbrev pub refused_members : ℕ → List (List ℕ × Data)
refused_members n =
    (codes "refusal", number (unsigned n)) ∷ (codes "result", string (codes "refused")) ∷ []

-- a refusal that reports its number and its name alone
abbrev pub plain_refusal : ℕ → List ℕ → Data
plain_refusal n name = object_of ((codes "name", string name) ∷ refused_members n)

-- a refusal that reports a period
abbrev pub period_refusal : ℕ → List ℕ → ℕ → Data
period_refusal n name period =
    object_of ((codes "name", string name) ∷ (codes "period", number (unsigned period))
    ∷ refused_members n)

-- a refusal that reports a field
abbrev pub field_refusal : ℕ → List ℕ → List ℕ → Data
field_refusal n name field =
    object_of ((codes "field", string field) ∷ (codes "name", string name) ∷ refused_members n)

-- a refusal that reports a line of a schedule
abbrev pub line_refusal : ℕ → List ℕ → ℕ → Data
line_refusal n name line =
    object_of ((codes "line", number (unsigned line)) ∷ (codes "name", string name)
    ∷ refused_members n)

-- a refusal that reports the limits that are broken
abbrev pub limits_refusal : ℕ → List ℕ → List Exceedance → Data
limits_refusal n name broken =
    object_of ((codes "limits", array_of (map exceedance_json broken)) ∷ (codes "name", string name)
    ∷ refused_members n)

-- a refusal of the book as JSON
abbrev pub refusal_json : Refusal → Data
refusal_json (Limits broken) =
    limits_refusal (refusal_number (Limits broken)) (refusal_name (Limits broken)) broken
refusal_json (SegmentCount period) =
    period_refusal (refusal_number (SegmentCount period)) (refusal_name (SegmentCount period))
    period
refusal_json refusal = plain_refusal (refusal_number refusal) (refusal_name refusal)

-- the compact text of a refusal of the book
unfoldable pub refusal_json_text : Refusal → List ℕ
refusal_json_text refusal = compact_text (refusal_json refusal)

-- the fault of a pairing, a ground duty or an actual, as the JSON of a refusal
abbrev pub duty_fault_json : DutyFault → Data
duty_fault_json (duty.BadTimes period) = period_refusal 16 (codes "BadTimes") period
duty_fault_json (duty.BadChain period) = period_refusal 17 (codes "BadChain") period
duty_fault_json (duty.BadField field) = field_refusal 18 (codes "BadField") (field_text field)
duty_fault_json (duty.SegmentCount period) = period_refusal 19 (codes "SegmentCount") period
duty_fault_json duty.Memory = plain_refusal 91 (codes "Memory")

-- the fault of a request that isn't read, as the JSON of a refusal
abbrev pub fault_json : CodecFault → Data
fault_json (BadJson field) = field_refusal 31 (codes "BadJson") (field_name field)
fault_json (BadCsv line) = line_refusal 30 (codes "BadCsv") line
fault_json (Duty fault) = duty_fault_json fault
fault_json Memory = plain_refusal 91 (codes "Memory")

-- the compact text of the fault of a request that isn't read
unfoldable pub fault_reply : CodecFault → List ℕ
fault_reply fault = compact_text (fault_json fault)
