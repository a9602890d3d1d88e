-- What is shown as JSON of the part that is handed out for a report is what is shown of the state.
use Rattle.std.proofs.Common.{◌≡◌, ◌↔◌, refl, ◌++◌, ◌∷◌, [], ap, sym, subst, ◌∙◌, ℕ, List, map, Result, Ok, Err, Option, IsSome}
use Rattle.std.specs.FinMap as fin
use Rattle.std.specs.List.{flat_map}
use Rattle.std.specs.Option.{option_map}
use Rattle.std.specs.Prelude.{codes}
use Rattle.std.specs.Str.{bytes_eq}
use Rattle.serde_json.specs.Data.{string}
use Rattle.request.specs.declared.subject.Subject.{Subject}
use Rattle.request.specs.declared.subject.Subject.TheVariants.{Crew, Limits, Pairing, Exceedances, Members, Pairings, Board, Request}
use Rattle.request.specs.declared.subject.Listed.{Listed}
use Rattle.command.specs.Texts.{seat_text}
use Rattle.command.specs.declared.member.Member.{Member}
use Rattle.roster.specs.Bases.{zone_at}
use Rattle.roster.specs.State.{State}
use Rattle.limits_report.specs.NearestLimits.{judged_duties}
use Rattle.part.specs.Shown.{Absence, no_crew, no_pairing, exceedances_part, limits_part, member_part, pairing_part, shown_part}
use Rattle.part.proofs.LimitsTexts.{judged_same}
use Rattle.part.proofs.Retained.{same_name, retained}
use Rattle.part.proofs.ShownTexts.{crew_same, grounds_same, outsides_same, pairings_same}
use Rattle.stored_json.specs.Values.{object_of, array_of}
use Rattle.report_json.specs.ExceedancesJson.{IsExceedancesJson}
use Rattle.report_json.specs.LimitsJson.{IsLimitsJson}
use Rattle.report_json.specs.Objects.{json_text}
use Rattle.report_json.specs.PairingJson.{entry_json, pairing_json}
use Rattle.report_json.specs.RosterJson.{duties_json, ground_duty_json, outside_duty_json, period_duties_json, roster_json}
use Rattle.request.specs.Days.{Days}
use Rattle.part_json.proofs.BoardSame.{board_same, request_same}
use Rattle.part_json.specs.ShownJson.{IsShownJson, PartIsShownAlikeJson}

-- ---- The values of the parts

module _ (s : State) (who : List ℕ) where
  duties_same : duties_json (member_part s who) who ≡ duties_json s who
  duties_same i =
      flat_map period_duties_json (pairings_same s who i)
      ++ map ground_duty_json (grounds_same s who i)
      ++ map outside_duty_json (outsides_same s who i)

  roster_same : roster_json (member_part s who) who ≡ roster_json s who
  roster_same i = option_map (λ (m : Member).
      object_of ((codes "base", string m.base) ∷ (codes "crew", string who) ∷ (codes "duties", array_of (duties_same i))
      ∷ (codes "name", string m.name) ∷ (codes "seat", string (seat_text m.seat)) ∷ (codes "zone", string (zone_at s.bases m.base)) ∷ []))
      (crew_same s who i)

pairing_there : (s : State) (id : List ℕ) → fin.get (pairing_part s id).pairings id ≡ fin.get s.pairings id
pairing_there s id = retained s.pairings (bytes_eq id) id (same_name id)

pairing_same : (s : State) (id : List ℕ) → pairing_json (pairing_part s id) id ≡ pairing_json s id
pairing_same s id = ap (option_map (entry_json id)) (pairing_there s id)

module _ (s t : State) (who : List ℕ) (named : Option (List ℕ)) (crew : fin.get s.crew who ≡ fin.get t.crew who) (same : judged_duties s who named ≡ judged_duties t who named) where
  limits_on : (text : List ℕ) → IsLimitsJson s who named text → IsLimitsJson t who named text
  limits_on text is = record {
    value = is.value;
    of_state = record {
      member = is.of_state.member;
      is_there = sym crew ∙ is.of_state.is_there;
      limits = is.of_state.limits;
      are = record {
        of = is.of_state.are.of;
        are_judged = sym same ∙ is.of_state.are.are_judged;
        are = is.of_state.are.are;
      };
      is = is.of_state.is;
    };
    is = is.is;
  }

exceedances_on : (s t : State) → s.exceedances ≡ t.exceedances → (text : List ℕ) → IsExceedancesJson s text → IsExceedancesJson t text
exceedances_on s t same text is = record {
  value = is.value;
  of_state = record { rows = is.of_state.rows; are = is.of_state.are ∙ ap fin.entries same; is = is.of_state.is };
  is = is.is;
}

-- ---- What is shown

module _ (s : State) where
  abbrev Alike : Subject (List ℕ) (List ℕ) → Type 0
  Alike what = (answer : Result (List ℕ) Absence) → IsShownJson (shown_part s what) what answer ↔ IsShownJson s what answer

  of_member : (who : List ℕ) → Alike (Crew who)
  of_member who (Ok text) = let same = ap (option_map json_text) (roster_same s who) in (λ is. sym same ∙ is, λ is. same ∙ is)
  of_member who (Err no_crew) = let same = crew_same s who in (λ none. sym same ∙ none, λ none. same ∙ none)
  of_member who (Err no_pairing) = (λ never. never, λ never. never)

  of_limits : (who : List ℕ) (named : Option (List ℕ)) → Alike (Limits who named)
  of_limits who named (Ok text) = (
    limits_on (limits_part s who named) s who named (crew_same s who) (judged_same s who named) text,
    limits_on s (limits_part s who named) who named (sym (crew_same s who)) (sym (judged_same s who named)) text,
  )
  of_limits who named (Err no_crew) = let same = crew_same s who in (λ none. sym same ∙ none, λ none. same ∙ none)
  of_limits who named (Err no_pairing) =
      let crew = crew_same s who in
      let judged = judged_same s who named in
      (λ (there, none). (subst IsSome crew there, sym judged ∙ none), λ (there, none). (subst IsSome (sym crew) there, judged ∙ none))

  of_pairing : (id : List ℕ) → Alike (Pairing id)
  of_pairing id (Ok text) = let same = ap (option_map json_text) (pairing_same s id) in (λ is. sym same ∙ is, λ is. same ∙ is)
  of_pairing id (Err no_crew) = (λ never. never, λ never. never)
  of_pairing id (Err no_pairing) = let same = pairing_there s id in (λ none. sym same ∙ none, λ none. same ∙ none)

  of_exceedances : Alike Exceedances
  of_exceedances (Ok text) = (exceedances_on (exceedances_part s) s refl text, exceedances_on s (exceedances_part s) refl text)
  of_exceedances (Err absence) = (λ never. never, λ never. never)

  of_members : Alike Members
  of_members (Ok text) = (λ is. is, λ is. is)
  of_members (Err absence) = (λ never. never, λ never. never)

  of_pairings : (which : Listed) → Alike (Pairings which)
  of_pairings which (Ok text) = (λ is. is, λ is. is)
  of_pairings which (Err absence) = (λ never. never, λ never. never)

  of_board : (days : Days) → Alike (Board days)
  of_board days (Ok text) = let same = ap json_text (board_same s days) in (λ is. is ∙ same, λ is. is ∙ sym same)
  of_board days (Err absence) = (λ never. never, λ never. never)

  of_request : (number : ℕ) → Alike (Request number)
  of_request number (Ok text) = let same = ap json_text (request_same s number) in (λ is. is ∙ same, λ is. is ∙ sym same)
  of_request number (Err absence) = (λ never. never, λ never. never)

pub part_is_shown_alike_json : PartIsShownAlikeJson
part_is_shown_alike_json s (Crew who) = of_member s who
part_is_shown_alike_json s (Limits who named) = of_limits s who named
part_is_shown_alike_json s (Pairing id) = of_pairing s id
part_is_shown_alike_json s Exceedances = of_exceedances s
part_is_shown_alike_json s Members = of_members s
part_is_shown_alike_json s (Pairings which) = of_pairings s which
part_is_shown_alike_json s (Board days) = of_board s days
part_is_shown_alike_json s (Request number) = of_request s number
