-- The reply to an accepted command as JSON, its members in byte order of their names, and what the
-- text of a reply is read as.
use Rattle.std.specs.Prelude.{ℕ, List, [], ◌∷◌, map, codes, Option, Some, None, ok_or}
use Rattle.std.specs.Prelude.{option_and_then, Result, if◌then◌else◌}
use Rattle.std.specs.Str.{bytes_eq}
use Rattle.serde_json.specs.Data.{Data, string}
use Rattle.serde_json.specs.Find.{as_str}
use Rattle.serde_json.specs.Read.{read}
use Rattle.serde_json.specs.Written.{compact_text}
use Rattle.limits.specs.Judgement.{all_sections}
use Rattle.limits.specs.SectionText.{section_text}
use Rattle.limits.specs.declared.section.Section.{Section}
use Rattle.command.specs.declared.exceedance.Exceedance.{Exceedance}
use Rattle.command.specs.declared.exceedance.Reply.{Reply}
use Rattle.stored_json.specs.Fields.{worded}
use Rattle.stored_json.specs.Parts.{read_named_part, read_list, with_part}
use Rattle.stored_json.specs.Values.{object_of, array_of}
use Rattle.stored_json.specs.declared.fault.CodecFault.{CodecFault}
use Rattle.stored_json.specs.declared.fault.CodecFault.TheVariants.{BadJson}
use Rattle.stored_json.specs.declared.field.JsonField.TheVariants.{Body}

-- the object of an exceedance: the member and the section
abbrev pub exceedance_json : Exceedance → Data
exceedance_json e =
    object_of ((codes "crew", string e.crew) ∷ (codes "section", string (section_text e.section))
    ∷ [])

-- the object of a reply: its exceedances, and the word `accepted`
abbrev pub reply_json : Reply → Data
reply_json r = object_of ((codes "exceedances", array_of (map exceedance_json r.exceedances))
    ∷ (codes "result", string (codes "accepted")) ∷ [])

-- the compact text of a reply
unfoldable pub reply_text : Reply → List ℕ
reply_text reply = compact_text (reply_json reply)

-- the section that a JSON text names
abbrev pub read_section : Data → Option Section
read_section d = option_and_then (worded section_text all_sections) (as_str d)

-- what the object of an exceedance is read as
abbrev pub read_exceedance : Data → Option Exceedance
read_exceedance d =
    with_part (read_named_part as_str (codes "crew") d) (λ crew.
    with_part (read_named_part read_section (codes "section") d) (λ section.
    Some (record { crew = crew; section = section })))

-- what the object of a reply is read as, if its `result` is `accepted`
abbrev pub read_accepted : Data → Option Reply
read_accepted d =
    with_part (read_named_part as_str (codes "result") d) (λ result.
    with_part (read_named_part (read_list read_exceedance) (codes "exceedances") d) (λ exceedances.
    if bytes_eq result (codes "accepted")
    then Some (record { exceedances = exceedances })
    else None))

-- what a kept text is read as: its reply, or a refusal of the whole text if it is no reply
unfoldable pub read_reply : List ℕ → Result Reply CodecFault
read_reply text = ok_or (option_and_then read_accepted (read text)) (BadJson Body)
