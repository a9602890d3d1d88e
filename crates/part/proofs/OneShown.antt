-- For each subject one thing at most is shown of a state.
use Rattle.std.proofs.Common.{◌∙◌, ap, sym, subst, refl, Ok, Err, IsSome}
use Rattle.std.proofs.lemmas.Option.{same_Some}
use Rattle.request.specs.declared.subject.Subject.TheVariants.{Crew, Limits, Pairing, Exceedances, Members, Pairings, Board, Request}
use Rattle.report.proofs.OneText.{one_board_text, one_exceedance_text, one_members_text, one_pairings_text, one_roster}
use Rattle.limits_report.proofs.OneText.{one_text}
use Rattle.part.specs.Shown.{no_crew, no_pairing, HasOneShown}

pub one_shown : HasOneShown
one_shown s (Crew id) (Ok a) (Ok b) is is' = ap Ok (one_roster s id a b is is')
one_shown s (Crew id) (Ok a) (Err no_crew) is is' = let never = sym is.is_there ∙ is' in absurd cc
one_shown s (Crew id) (Ok a) (Err no_pairing) is is' = absurd is'
one_shown s (Crew id) (Err no_crew) (Ok b) is is' = let never = sym is'.is_there ∙ is in absurd cc
one_shown s (Crew id) (Err no_crew) (Err no_crew) is is' = refl
one_shown s (Crew id) (Err no_crew) (Err no_pairing) is is' = absurd is'
one_shown s (Crew id) (Err no_pairing) b is is' = absurd is
one_shown s (Limits id named) (Ok a) (Ok b) is is' = ap Ok (one_text s id named a b is is')
one_shown s (Limits id named) (Ok a) (Err no_crew) is is' = let never = sym is.is_there ∙ is' in absurd cc
one_shown s (Limits id named) (Ok a) (Err no_pairing) is is' = let never = sym is.are_judged ∙ is'.1 in absurd cc
one_shown s (Limits id named) (Err no_crew) (Ok b) is is' = let never = sym is'.is_there ∙ is in absurd cc
one_shown s (Limits id named) (Err no_crew) (Err no_crew) is is' = refl
one_shown s (Limits id named) (Err no_crew) (Err no_pairing) is is' = let never = subst IsSome is is'.0 in absurd cc
one_shown s (Limits id named) (Err no_pairing) (Ok b) is is' = let never = sym is'.are_judged ∙ is.1 in absurd cc
one_shown s (Limits id named) (Err no_pairing) (Err no_crew) is is' = let never = subst IsSome is' is.0 in absurd cc
one_shown s (Limits id named) (Err no_pairing) (Err no_pairing) is is' = refl
one_shown s (Pairing id) (Ok a) (Ok b) is is' = ap Ok (same_Some a b (sym is ∙ is'))
one_shown s (Pairing id) (Ok a) (Err no_crew) is is' = absurd is'
one_shown s (Pairing id) (Ok a) (Err no_pairing) is is' = let never = sym is ∙ is' in absurd cc
one_shown s (Pairing id) (Err no_crew) b is is' = absurd is
one_shown s (Pairing id) (Err no_pairing) (Ok b) is is' = let never = sym is ∙ is' in absurd cc
one_shown s (Pairing id) (Err no_pairing) (Err no_crew) is is' = absurd is'
one_shown s (Pairing id) (Err no_pairing) (Err no_pairing) is is' = refl
one_shown s Exceedances (Ok a) (Ok b) is is' = ap Ok (one_exceedance_text s a b is is')
one_shown s Exceedances (Ok a) (Err absence) is is' = absurd is'
one_shown s Exceedances (Err absence) b is is' = absurd is
one_shown s Members (Ok a) (Ok b) is is' = ap Ok (one_members_text s a b is is')
one_shown s Members (Ok a) (Err absence) is is' = absurd is'
one_shown s Members (Err absence) b is is' = absurd is
one_shown s (Pairings which) (Ok a) (Ok b) is is' = ap Ok (one_pairings_text s which a b is is')
one_shown s (Pairings which) (Ok a) (Err absence) is is' = absurd is'
one_shown s (Pairings which) (Err absence) b is is' = absurd is
one_shown s (Board days) (Ok a) (Ok b) is is' = ap Ok (one_board_text s days a b is is')
one_shown s (Board days) (Ok a) (Err absence) is is' = absurd is'
one_shown s (Board days) (Err absence) b is is' = absurd is
one_shown s (Request number) (Ok a) (Ok b) is is' = ap Ok (is ∙ sym is')
one_shown s (Request number) (Ok a) (Err absence) is is' = absurd is'
one_shown s (Request number) (Err absence) b is is' = absurd is
