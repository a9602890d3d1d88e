use Rattle.std.proofs.Common.{ap}
use Rattle.std.proofs.lemmas.Result.{err_from_is_err_and}
use Rattle.roster.specs.State.{State}
use Rattle.part.proofs.Causes.{caused_then}
use Rattle.part.proofs.Picked.{names_are_as}
use Rattle.part.proofs.gathering.add_named.Goals as goal

pub returns-clause-told : goal.returns-clause-told
returns-clause-told g c = (
  λ clean. c.pick_members.ensures.told.0 (c.pick_pairings.ensures.told.0 (c.pick_grounds.ensures.told.0 (c.pick_outsides.ensures.told.0 clean))),
  λ clean s shows.
      let third = c.pick_outsides.ensures.told.0 clean in
      let second = c.pick_grounds.ensures.told.0 third in
      let first = c.pick_pairings.ensures.told.0 second in
      let members = c.in_ok-pick_members.ensures.told.1 first s shows in
      let plans = c.in_ok-pick_pairings.ensures.told.1 second s members.0 in
      let tasks = c.in_ok-pick_grounds.ensures.told.1 third s plans.0 in
      let flown = c.in_ok-pick_outsides.ensures.told.1 clean s tasks.0 in (
        flown.0,
        λ key was.
            let crew = names_are_as s.crew _ _ _ _ _ (ap (λ (x : State). x.crew) was) c.in_ok-ids.ensures.members c.deref.ensures.value members.1 in
            let pairings = names_are_as s.pairings _ _ _ _ _ (ap (λ (x : State). x.pairings) was) c.in_ok-ids.ensures.pairings c.deref-2.ensures.value plans.1 in
            let grounds = names_are_as s.grounds _ _ _ _ _ (ap (λ (x : State). x.grounds) was) c.in_ok-ids.ensures.grounds c.deref-3.ensures.value tasks.1 in
            let outsides = names_are_as s.outsides _ _ _ _ _ (ap (λ (x : State). x.outsides) was) c.in_ok-ids.ensures.outsides c.deref-4.ensures.value flown.1 in
            λ i. record {
              bases = (was i).bases;
              crew = crew i;
              pairings = pairings i;
              grounds = grounds i;
              outsides = outsides i;
              exceedances = (was i).exceedances;
              requests = (was i).requests;
            },
      ),
)

pub returns-in_err-pick_pairings-clause-left : goal.returns-in_err-pick_pairings-clause-left
returns-in_err-pick_pairings-clause-left g c = g.S.Source.and_then _ _ _ c.pick_members.ensures.left c.pick_pairings.ensures.left

pub returns-in_err-pick_pairings-clause-caused : goal.returns-in_err-pick_pairings-clause-caused
returns-in_err-pick_pairings-clause-caused g c =
    let p = err_from_is_err_and c.from_residual-in_err-pick_pairings.result c.from_residual-in_err-pick_pairings.ensures.1 in
    rw (p.1, p.2) (caused_then g.S.Source.fails g.S.Fault.From.from_gives g.S.Source.stays g.S.Source.fails_then _ _ _ _ c.pick_members.ensures.left c.pick_pairings.ensures.left c.in_err-pick_pairings.ensures.caused)

pub returns-in_err-pick_grounds-clause-left : goal.returns-in_err-pick_grounds-clause-left
returns-in_err-pick_grounds-clause-left g c = g.S.Source.and_then _ _ _ c.pick_members.ensures.left (g.S.Source.and_then _ _ _ c.pick_pairings.ensures.left c.pick_grounds.ensures.left)

pub returns-in_err-pick_grounds-clause-caused : goal.returns-in_err-pick_grounds-clause-caused
returns-in_err-pick_grounds-clause-caused g c =
    let p = err_from_is_err_and c.from_residual-in_err-pick_grounds.result c.from_residual-in_err-pick_grounds.ensures.1 in
    rw (p.1, p.2) (caused_then g.S.Source.fails g.S.Fault.From.from_gives g.S.Source.stays g.S.Source.fails_then _ _ _ _ (g.S.Source.and_then _ _ _ c.pick_members.ensures.left c.pick_pairings.ensures.left) c.pick_grounds.ensures.left c.in_err-pick_grounds.ensures.caused)

pub returns-in_err-pick_outsides-clause-left : goal.returns-in_err-pick_outsides-clause-left
returns-in_err-pick_outsides-clause-left g c = g.S.Source.and_then _ _ _ c.pick_members.ensures.left (g.S.Source.and_then _ _ _ c.pick_pairings.ensures.left (g.S.Source.and_then _ _ _ c.pick_grounds.ensures.left c.pick_outsides.ensures.left))

pub returns-in_err-pick_outsides-clause-caused : goal.returns-in_err-pick_outsides-clause-caused
returns-in_err-pick_outsides-clause-caused g c =
    let p = err_from_is_err_and c.from_residual-in_err-pick_outsides.result c.from_residual-in_err-pick_outsides.ensures.1 in
    rw (p.1, p.2) (caused_then g.S.Source.fails g.S.Fault.From.from_gives g.S.Source.stays g.S.Source.fails_then _ _ _ _ (g.S.Source.and_then _ _ _ c.pick_members.ensures.left (g.S.Source.and_then _ _ _ c.pick_pairings.ensures.left c.pick_grounds.ensures.left)) c.pick_outsides.ensures.left c.in_err-pick_outsides.ensures.caused)

pub returns-clause-left : goal.returns-clause-left
returns-clause-left g c = g.S.Source.and_then _ _ _ c.pick_members.ensures.left (g.S.Source.and_then _ _ _ c.pick_pairings.ensures.left (g.S.Source.and_then _ _ _ c.pick_grounds.ensures.left c.pick_outsides.ensures.left))

pub returns-clause-serves : goal.returns-clause-serves
returns-clause-serves g c = g.S.Source.serves_then _ _ _ c.in_ok-pick_members.ensures.serves (g.S.Source.serves_then _ _ _ c.in_ok-pick_pairings.ensures.serves (g.S.Source.serves_then _ _ _ c.in_ok-pick_grounds.ensures.serves c.in_ok-pick_outsides.ensures.serves))
