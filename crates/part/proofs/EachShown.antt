-- Of a sound state something is shown, whatever is asked.
use Rattle.std.proofs.Common.{◌≡◌, sym, subst, refl, ℕ, List, Option, Some, None, IsSome, Result, Ok, Err}
use Rattle.std.specs.FinMap as fin
use Rattle.request.specs.declared.subject.Subject.{Subject}
use Rattle.request.specs.declared.subject.Subject.TheVariants.{Crew, Limits, Pairing, Exceedances, Members, Pairings, Board, Request}
use Rattle.command.specs.declared.member.Member.{Member}
use Rattle.roster.specs.State.{State}
use Rattle.report.specs.PairingText.{pairing_text}
use Rattle.report.specs.RequestText.{request_text}
use Rattle.report.proofs.EachText.{each_board_text, each_exceedance_text, each_members_text, each_pairings_text, each_roster}
use Rattle.limits_report.specs.NearestLimits.{Judged, judged_duties}
use Rattle.limits_report.proofs.EachText.{each_text}
use Rattle.part.specs.Shown.{Absence, no_crew, no_pairing, EachIsShown, IsShown}

module _ (s : State) where
  abbrev Something : Subject (List ℕ) (List ℕ) → Type 0
  Something what = (answer : Result (List ℕ) Absence) × IsShown s what answer

  of_member : (who : List ℕ) (member : Option Member) → fin.get s.crew who ≡ member → Something (Crew who)
  of_member who None none = (Err no_crew, none)
  of_member who (Some member) there = let text = each_roster s who member there in (Ok text.0, text.1)

  of_limits : (who : List ℕ) (named : Option (List ℕ)) (member : Option Member) (of : Option Judged) → fin.get s.crew who ≡ member → judged_duties s who named ≡ of →
      Something (Limits who named)
  of_limits who named None of none is = (Err no_crew, none)
  of_limits who named (Some member) None there none = (Err no_pairing, (subst IsSome (sym there) refl, none))
  of_limits who named (Some member) (Some of) there are = let text = each_text s who named member of there are in (Ok text.0, text.1)

  of_pairing : (id : List ℕ) (text : Option (List ℕ)) → pairing_text s id ≡ text → Something (Pairing id)
  of_pairing id None none = (Err no_pairing, none)
  of_pairing id (Some text) is = (Ok text, is)

pub each_is_shown : EachIsShown
each_is_shown s (Crew who) sound = of_member s who (fin.get s.crew who) refl
each_is_shown s (Limits who named) sound = of_limits s who named (fin.get s.crew who) (judged_duties s who named) refl refl
each_is_shown s (Pairing id) sound = of_pairing s id (pairing_text s id) refl
each_is_shown s Exceedances sound = let text = each_exceedance_text s sound in (Ok text.0, text.1)
each_is_shown s Members sound = let text = each_members_text s in (Ok text.0, text.1)
each_is_shown s (Pairings which) sound = let text = each_pairings_text s which in (Ok text.0, text.1)
each_is_shown s (Board days) sound = let text = each_board_text s days in (Ok text.0, text.1)
each_is_shown s (Request number) sound = (Ok (request_text s number), refl)
