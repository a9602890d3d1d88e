use Rattle.std.proofs.Common.{◌∙◌, ap}
use Rattle.std.proofs.lemmas.Result.{err_from_is_err_and}
use Rattle.command.specs.Keys.{key_name}
use Rattle.roster.specs.State.{State}
use Rattle.part.proofs.Causes.{caused_then}
use Rattle.part.proofs.Picked.{entry_is}
use Rattle.part.specs.Part.{Part}
use Rattle.part.specs.Sources.{pick}
use Rattle.part.proofs.gathering.add_needed.Goals as goal

pub returns-clause-told : goal.returns-clause-told
returns-clause-told g c = (
  λ clean. c.pick_request.ensures.told.0 (c.add_named.ensures.told.0 (c.add_histories.ensures.told.0 clean)),
  λ clean s shows.
      let second = c.add_histories.ensures.told.0 clean in
      let first = c.add_named.ensures.told.0 second in
      let request = c.in_ok-pick_request.ensures.told.1 first s shows in
      let named = c.in_ok-add_named.ensures.told.1 second s request.0 in
      let whole = c.in_ok-add_histories.ensures.told.1 clean s named.0 in
      let key = c.args.key in
      let name = key_name key in (
        whole.0,
        λ bases.
            let kept = request.1 ∙ ap (λ m. pick s.requests m name) (ap (λ (x : State). x.requests) bases) ∙ entry_is s.requests name in
            whole.1 key (named.1 key (λ i. record {
              bases = (bases i).bases;
              crew = (bases i).crew;
              pairings = (bases i).pairings;
              grounds = (bases i).grounds;
              outsides = (bases i).outsides;
              exceedances = (bases i).exceedances;
              requests = kept i;
            })) ∙ ap (Part s key) c.instruction-instruction.ensures.instruction,
      ),
)

pub returns-in_err-add_named-clause-left : goal.returns-in_err-add_named-clause-left
returns-in_err-add_named-clause-left g c = g.S.Source.and_then _ _ _ c.pick_request.ensures.left c.add_named.ensures.left

pub returns-in_err-add_named-clause-caused : goal.returns-in_err-add_named-clause-caused
returns-in_err-add_named-clause-caused g c =
    let p = err_from_is_err_and c.from_residual-in_err-add_named.result c.from_residual-in_err-add_named.ensures.1 in
    rw (p.1, p.2) (caused_then g.S.Source.fails g.S.Fault.From.from_gives g.S.Source.stays g.S.Source.fails_then _ _ _ _ c.pick_request.ensures.left c.add_named.ensures.left c.in_err-add_named.ensures.caused)

pub returns-in_err-add_histories-clause-left : goal.returns-in_err-add_histories-clause-left
returns-in_err-add_histories-clause-left g c = g.S.Source.and_then _ _ _ c.pick_request.ensures.left (g.S.Source.and_then _ _ _ c.add_named.ensures.left c.add_histories.ensures.left)

pub returns-in_err-add_histories-clause-caused : goal.returns-in_err-add_histories-clause-caused
returns-in_err-add_histories-clause-caused g c =
    let p = err_from_is_err_and c.from_residual-in_err-add_histories.result c.from_residual-in_err-add_histories.ensures.1 in
    rw (p.1, p.2) (caused_then g.S.Source.fails g.S.Fault.From.from_gives g.S.Source.stays g.S.Source.fails_then _ _ _ _ (g.S.Source.and_then _ _ _ c.pick_request.ensures.left c.add_named.ensures.left) c.add_histories.ensures.left c.in_err-add_histories.ensures.caused)

pub returns-clause-left : goal.returns-clause-left
returns-clause-left g c = g.S.Source.and_then _ _ _ c.pick_request.ensures.left (g.S.Source.and_then _ _ _ c.add_named.ensures.left c.add_histories.ensures.left)

pub returns-clause-serves : goal.returns-clause-serves
returns-clause-serves g c = g.S.Source.serves_then _ _ _ c.in_ok-pick_request.ensures.serves (g.S.Source.serves_then _ _ _ c.in_ok-add_named.ensures.serves c.in_ok-add_histories.ensures.serves)
