-- For each subject one thing at most is shown of a state as JSON.
use Rattle.std.proofs.Common.{◌∙◌, ap, sym, subst, refl, Ok, Err, IsSome}
use Rattle.std.specs.Option.{option_map}
use Rattle.std.proofs.lemmas.Option.{same_Some}
use Rattle.request.specs.declared.subject.Subject.TheVariants.{Crew, Limits, Pairing, Exceedances, Members, Pairings, Board, Request}
use Rattle.part.specs.Shown.{no_crew, no_pairing}
use Rattle.report_json.proofs.OneJson.{one_exceedances_json, one_limits_json}
use Rattle.report_json.specs.Objects.{json_text}
use Rattle.report_json.specs.PairingJson.{entry_json}
use Rattle.report_json.specs.RosterJson.{member_roster_json}
use Rattle.part_json.specs.ShownJson.{HasOneShownJson}

pub one_shown_json : HasOneShownJson
one_shown_json s (Crew id) (Ok a) (Ok b) is is' = ap Ok (same_Some a b (sym is ∙ is'))
one_shown_json s (Crew id) (Ok a) (Err no_crew) is is' = let never = sym is ∙ ap (λ o. option_map json_text (option_map (member_roster_json s id) o)) is' in absurd cc
one_shown_json s (Crew id) (Ok a) (Err no_pairing) is is' = absurd is'
one_shown_json s (Crew id) (Err no_crew) (Ok b) is is' = let never = sym is' ∙ ap (λ o. option_map json_text (option_map (member_roster_json s id) o)) is in absurd cc
one_shown_json s (Crew id) (Err no_crew) (Err no_crew) is is' = refl
one_shown_json s (Crew id) (Err no_crew) (Err no_pairing) is is' = absurd is'
one_shown_json s (Crew id) (Err no_pairing) b is is' = absurd is
one_shown_json s (Limits id named) (Ok a) (Ok b) is is' = ap Ok (one_limits_json s id named a b is is')
one_shown_json s (Limits id named) (Ok a) (Err no_crew) is is' = let never = sym is.of_state.is_there ∙ is' in absurd cc
one_shown_json s (Limits id named) (Ok a) (Err no_pairing) is is' = let never = sym is.of_state.are.are_judged ∙ is'.1 in absurd cc
one_shown_json s (Limits id named) (Err no_crew) (Ok b) is is' = let never = sym is'.of_state.is_there ∙ is in absurd cc
one_shown_json s (Limits id named) (Err no_crew) (Err no_crew) is is' = refl
one_shown_json s (Limits id named) (Err no_crew) (Err no_pairing) is is' = let never = subst IsSome is is'.0 in absurd cc
one_shown_json s (Limits id named) (Err no_pairing) (Ok b) is is' = let never = sym is'.of_state.are.are_judged ∙ is.1 in absurd cc
one_shown_json s (Limits id named) (Err no_pairing) (Err no_crew) is is' = let never = subst IsSome is' is.0 in absurd cc
one_shown_json s (Limits id named) (Err no_pairing) (Err no_pairing) is is' = refl
one_shown_json s (Pairing id) (Ok a) (Ok b) is is' = ap Ok (same_Some a b (sym is ∙ is'))
one_shown_json s (Pairing id) (Ok a) (Err no_crew) is is' = absurd is'
one_shown_json s (Pairing id) (Ok a) (Err no_pairing) is is' = let never = sym is ∙ ap (λ o. option_map json_text (option_map (entry_json id) o)) is' in absurd cc
one_shown_json s (Pairing id) (Err no_crew) b is is' = absurd is
one_shown_json s (Pairing id) (Err no_pairing) (Ok b) is is' = let never = sym is' ∙ ap (λ o. option_map json_text (option_map (entry_json id) o)) is in absurd cc
one_shown_json s (Pairing id) (Err no_pairing) (Err no_crew) is is' = absurd is'
one_shown_json s (Pairing id) (Err no_pairing) (Err no_pairing) is is' = refl
one_shown_json s Exceedances (Ok a) (Ok b) is is' = ap Ok (one_exceedances_json s a b is is')
one_shown_json s Exceedances (Ok a) (Err absence) is is' = absurd is'
one_shown_json s Exceedances (Err absence) b is is' = absurd is
one_shown_json s Members (Ok a) (Ok b) is is' = ap Ok (is ∙ sym is')
one_shown_json s Members (Ok a) (Err absence) is is' = absurd is'
one_shown_json s Members (Err absence) b is is' = absurd is
one_shown_json s (Pairings which) (Ok a) (Ok b) is is' = ap Ok (is ∙ sym is')
one_shown_json s (Pairings which) (Ok a) (Err absence) is is' = absurd is'
one_shown_json s (Pairings which) (Err absence) b is is' = absurd is
one_shown_json s (Board days) (Ok a) (Ok b) is is' = ap Ok (is ∙ sym is')
one_shown_json s (Board days) (Ok a) (Err absence) is is' = absurd is'
one_shown_json s (Board days) (Err absence) b is is' = absurd is
one_shown_json s (Request number) (Ok a) (Ok b) is is' = ap Ok (is ∙ sym is')
one_shown_json s (Request number) (Ok a) (Err absence) is is' = absurd is'
one_shown_json s (Request number) (Err absence) b is is' = absurd is
