-- What is shown of the part that is handed out for a text is what is shown of the state.
use Rattle.std.proofs.Common.{◌↔◌, sym, subst, ◌∙◌, ℕ, List, Result, Ok, Err, Option, IsSome}
use Rattle.request.specs.declared.subject.Subject.{Subject}
use Rattle.request.specs.declared.subject.Subject.TheVariants.{Crew, Limits, Pairing, Exceedances, Members, Pairings, Board, Request}
use Rattle.request.specs.declared.subject.Listed.{Listed}
use Rattle.roster.specs.State.{State}
use Rattle.part.specs.Shown.{Absence, no_crew, no_pairing, IsShown, PartIsShownAlike, shown_part}
use Rattle.request.specs.Days.{Days}
use Rattle.part.proofs.BoardTexts.{board_shown_text, request_shown_text}
use Rattle.part.proofs.LimitsTexts.{judged_same, limits_shown_text}
use Rattle.part.proofs.ShownTexts.{crew_same, exceedance_shown_text, member_text, pairing_shown_text, pairings_shown_text}

module _ (s : State) where
  abbrev Alike : Subject (List ℕ) (List ℕ) → Type 0
  Alike what = (answer : Result (List ℕ) Absence) → IsShown (shown_part s what) what answer ↔ IsShown s what answer

  of_member : (who : List ℕ) → Alike (Crew who)
  of_member who (Ok text) = member_text s who text
  of_member who (Err no_crew) = let same = crew_same s who in (λ none. sym same ∙ none, λ none. same ∙ none)
  of_member who (Err no_pairing) = (λ never. never, λ never. never)

  of_limits : (who : List ℕ) (named : Option (List ℕ)) → Alike (Limits who named)
  of_limits who named (Ok text) = limits_shown_text s who named text
  of_limits who named (Err no_crew) = let same = crew_same s who in (λ none. sym same ∙ none, λ none. same ∙ none)
  of_limits who named (Err no_pairing) =
      let crew = crew_same s who in
      let judged = judged_same s who named in
      (λ (there, none). (subst IsSome crew there, sym judged ∙ none), λ (there, none). (subst IsSome (sym crew) there, judged ∙ none))

  of_pairing : (id : List ℕ) → Alike (Pairing id)
  of_pairing id (Ok text) = let same = pairing_shown_text s id in (λ is. sym same ∙ is, λ is. same ∙ is)
  of_pairing id (Err no_crew) = (λ never. never, λ never. never)
  of_pairing id (Err no_pairing) = let same = pairing_shown_text s id in (λ is. sym same ∙ is, λ is. same ∙ is)

  of_exceedances : Alike Exceedances
  of_exceedances (Ok text) = exceedance_shown_text s text
  of_exceedances (Err absence) = (λ never. never, λ never. never)

  of_members : Alike Members
  of_members (Ok text) = (λ is. is, λ is. is)
  of_members (Err absence) = (λ never. never, λ never. never)

  of_pairings : (which : Listed) → Alike (Pairings which)
  of_pairings which (Ok text) = pairings_shown_text s which text
  of_pairings which (Err absence) = (λ never. never, λ never. never)

  of_board : (days : Days) → Alike (Board days)
  of_board days (Ok text) = board_shown_text s days text
  of_board days (Err absence) = (λ never. never, λ never. never)

  of_request : (number : ℕ) → Alike (Request number)
  of_request number (Ok text) = let same = request_shown_text s number in (λ is. is ∙ same, λ is. is ∙ sym same)
  of_request number (Err absence) = (λ never. never, λ never. never)

pub part_is_shown_alike : PartIsShownAlike
part_is_shown_alike s (Crew who) = of_member s who
part_is_shown_alike s (Limits who named) = of_limits s who named
part_is_shown_alike s (Pairing id) = of_pairing s id
part_is_shown_alike s Exceedances = of_exceedances s
part_is_shown_alike s Members = of_members s
part_is_shown_alike s (Pairings which) = of_pairings s which
part_is_shown_alike s (Board days) = of_board s days
part_is_shown_alike s (Request number) = of_request s number
