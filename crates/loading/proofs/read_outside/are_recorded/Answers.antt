use Rattle.std.proofs.Common.{rules, tests, ◌≡◌, sym, ◌∙◌, refl}
use Rattle.std.specs.List.{list_all}
use Rattle.std.proofs.lemmas.Iterator.Consumers.{YieldsList-from_rest}
use Rattle.std.proofs.lemmas.Iterator.Search.{all_from_yields_List}
use Rattle.roster.specs.declared.state.DutyId.{DutyId}
use Rattle.roster.specs.declared.state.ExceedanceId.{ExceedanceId}
use Rattle.entries.specs.Right.{name_of}
use Rattle.loading.specs.OutsideTables.{is_there}
use Rattle.entries.proofs.Entries.{values_pass}
use Rattle.loading.proofs.read_outside.are_recorded.Goals as goal

pub returns : goal.returns
returns c =
    let outsides = c.args.outsides.now in
    let all_is : c.all.result ≡ list_all (λ (x : ExceedanceId × DutyId). is_there outsides x.1) c.iter.result =
    all_from_yields_List (λ (x : ExceedanceId × DutyId). is_there outsides x.1) _ _ _ c.all.ensures.ran (YieldsList-from_rest c.iter.result refl) (λ x b q k. search (rules, tests)) in
    let both = values_pass name_of (is_there outsides) c.iter.result c.args.roster.now.exceedances c.iter.ensures in
    (λ yes. both.0 (sym all_is ∙ yes), λ recorded. all_is ∙ both.1 recorded)
