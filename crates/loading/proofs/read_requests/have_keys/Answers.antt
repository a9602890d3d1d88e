use Rattle.std.proofs.Common.{rules, tests, ◌≡◌, refl}
use Rattle.std.specs.FinMap as fin
use Rattle.std.specs.List.{list_all}
use Rattle.std.proofs.lemmas.Iterator.Consumers.{YieldsList-from_rest}
use Rattle.std.proofs.lemmas.Iterator.Search.{all_from_yields_List}
use Rattle.command.specs.Keys.{key_name}
use Rattle.roster.specs.declared.state.ExceedanceId.{ExceedanceId}
use Rattle.roster.specs.declared.state.DutyId.{DutyId}
use Rattle.loading.proofs.ReadRequests.{keys_if}
use Rattle.loading.proofs.read_requests.have_keys.Goals as goal

pub returns : goal.returns
returns c =
    let keys = c.args.keys.now in
    let all_is : c.all.result ≡ list_all (λ (x : ExceedanceId × DutyId). fin.contains_key keys (key_name x.0.key)) c.iter.result =
    all_from_yields_List (λ (x : ExceedanceId × DutyId). fin.contains_key keys (key_name x.0.key)) _ _ _ c.all.ensures.ran (YieldsList-from_rest c.iter.result refl) (λ x b q k. search (rules, tests)) in
    keys_if c.args.roster.now keys c.iter.result c.iter.ensures c.all.result all_is
