-- Of a sound state something is shown as JSON, whatever is asked.
use Rattle.std.proofs.Common.{◌≡◌, ap, sym, subst, refl, ℕ, List, Option, Some, None, IsSome, Result, Ok, Err}
use Rattle.std.specs.FinMap as fin
use Rattle.std.specs.Option.{option_map}
use Rattle.request.specs.declared.subject.Subject.{Subject}
use Rattle.request.specs.declared.subject.Subject.TheVariants.{Crew, Limits, Pairing, Exceedances, Members, Pairings, Board, Request}
use Rattle.command.specs.declared.member.Member.{Member}
use Rattle.roster.specs.State.{State}
use Rattle.roster.specs.declared.state.PairingEntry.{PairingEntry}
use Rattle.limits_report.specs.NearestLimits.{Judged, judged_duties}
use Rattle.part.specs.Shown.{Absence, no_crew, no_pairing}
use Rattle.report_json.proofs.EachJson.{each_exceedances_json, each_limits_json}
use Rattle.report_json.specs.BoardJson.{board_json}
use Rattle.report_json.specs.MembersJson.{members_json}
use Rattle.report_json.specs.RequestJson.{request_json}
use Rattle.report_json.specs.Objects.{json_text}
use Rattle.report_json.specs.PairingJson.{entry_json}
use Rattle.report_json.specs.PairingsJson.{pairings_json}
use Rattle.report_json.specs.RosterJson.{member_roster_json}
use Rattle.part_json.specs.ShownJson.{EachIsShownJson, IsShownJson}

module _ (s : State) where
  abbrev Something : Subject (List ℕ) (List ℕ) → Type 0
  Something what = (answer : Result (List ℕ) Absence) × IsShownJson s what answer

  of_member : (who : List ℕ) (member : Option Member) → fin.get s.crew who ≡ member → Something (Crew who)
  of_member who None none = (Err no_crew, none)
  of_member who (Some member) there =
      (Ok (json_text (member_roster_json s who member)), ap (λ o. option_map json_text (option_map (member_roster_json s who) o)) there)

  of_limits : (who : List ℕ) (named : Option (List ℕ)) (member : Option Member) (of : Option Judged) → fin.get s.crew who ≡ member → judged_duties s who named ≡ of →
      Something (Limits who named)
  of_limits who named None of none is = (Err no_crew, none)
  of_limits who named (Some member) None there none = (Err no_pairing, (subst IsSome (sym there) refl, none))
  of_limits who named (Some member) (Some of) there are = let text = each_limits_json s who named member of there are in (Ok text.0, text.1)

  of_pairing : (id : List ℕ) (entry : Option PairingEntry) → fin.get s.pairings id ≡ entry → Something (Pairing id)
  of_pairing id None none = (Err no_pairing, none)
  of_pairing id (Some entry) there =
      (Ok (json_text (entry_json id entry)), ap (λ o. option_map json_text (option_map (entry_json id) o)) there)

pub each_is_shown_json : EachIsShownJson
each_is_shown_json s (Crew who) sound = of_member s who (fin.get s.crew who) refl
each_is_shown_json s (Limits who named) sound = of_limits s who named (fin.get s.crew who) (judged_duties s who named) refl refl
each_is_shown_json s (Pairing id) sound = of_pairing s id (fin.get s.pairings id) refl
each_is_shown_json s Exceedances sound = let text = each_exceedances_json s sound in (Ok text.0, text.1)
each_is_shown_json s Members sound = (Ok (json_text (members_json s)), refl)
each_is_shown_json s (Pairings which) sound = (Ok (json_text (pairings_json s which)), refl)
each_is_shown_json s (Board days) sound = (Ok (json_text (board_json s days)), refl)
each_is_shown_json s (Request number) sound = (Ok (json_text (request_json s number)), refl)
