-- The text of a reply is read as it.
use Rattle.std.proofs.Common.{◌≡◌, true, false, List, [], ◌∷◌, Some, Ok, refl, arith, rules}
use Rattle.std.specs.List.{list_all}
use Rattle.serde_json.specs.Read.{max_depth}
use Rattle.serde_json.specs.Written.{has_float}
use Rattle.limits.specs.SectionText.{section_text}
use Rattle.limits.specs.declared.section.Section.TheVariants.{FlightTime, FlightDutyPeriod, FlightTime672Hours, FlightTime365Days, FlightDutyPeriods168Hours, FlightDutyPeriods672Hours, ThirtyHourRest, TenHourRest}
use Rattle.limits.specs.declared.section.Section.{Section}
use Rattle.command.specs.declared.exceedance.Exceedance.{Exceedance}
use Rattle.command.specs.declared.exceedance.Reply.{Reply}
use Rattle.serde_json.specs.Data.{string}
use Rattle.stored_json.specs.ReplyText.{exceedance_json, reply_json, reply_text, read_section, read_exceedance, read_reply}
use Rattle.stored_json.proofs.CompactTexts.{IsKept, items_kept, read_compact}
use Rattle.stored_json.proofs.KeptBack.{each_back}

section_back : (s : Section) → read_section (string (section_text s)) ≡ Some s
section_back FlightTime = refl
section_back FlightDutyPeriod = refl
section_back FlightTime672Hours = refl
section_back FlightTime365Days = refl
section_back FlightDutyPeriods168Hours = refl
section_back FlightDutyPeriods672Hours = refl
section_back ThirtyHourRest = refl
section_back TenHourRest = refl

exceedance_back : (e : Exceedance) → true ≡ true → read_exceedance (exceedance_json e) ≡ Some e
exceedance_back e _ = rw (section_back e.section) refl

exceedance_kept : (e : Exceedance) → IsKept 1 (exceedance_json e)
exceedance_kept e = record { same = refl; numbers = search rules; no_float = refl; shallow = omega arith }

all_true : (es : List Exceedance) → list_all (λ _. true) es ≡ true
all_true [] = refl
all_true (e ∷ es) = all_true es

reply_kept : (r : Reply) → IsKept max_depth (reply_json r)
reply_kept r =
    let exceedances = items_kept 1 exceedance_json exceedance_kept r.exceedances in
    record {
      same = rw exceedances.same refl;
      numbers = (exceedances.numbers, (tt, tt));
      no_float = rw exceedances.no_float refl;
      shallow = omega (arith, exceedances.shallow);
    }

pub reply_no_float : (r : Reply) → has_float (reply_json r) ≡ false
reply_no_float r = (reply_kept r).no_float

pub reply_back : (r : Reply) → read_reply (reply_text r) ≡ Ok r
unfolding read_reply reply_text
reply_back r =
    rw (read_compact (reply_json r) (reply_kept r), each_back read_exceedance exceedance_json (λ _. true) exceedance_back r.exceedances (all_true r.exceedances)) refl
