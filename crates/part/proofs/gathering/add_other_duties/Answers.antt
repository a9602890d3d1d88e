use Rattle.std.proofs.lemmas.Result.{err_from_is_err_and}
use Rattle.part.proofs.Causes.{caused_then}
use Rattle.part.proofs.Picked.{grounds_as, outsides_as}
use Rattle.part.proofs.gathering.add_other_duties.Goals as goal

pub returns-clause-told : goal.returns-clause-told
returns-clause-told g c = (
  λ clean. c.grounds_of_one.ensures.told.0 (c.pick_grounds.ensures.told.0 (c.outsides_of_one.ensures.told.0 (c.pick_outsides.ensures.told.0 clean))),
  λ clean s shows.
      let third = c.pick_outsides.ensures.told.0 clean in
      let second = c.outsides_of_one.ensures.told.0 third in
      let first = c.pick_grounds.ensures.told.0 second in
      let theirs = c.in_ok-theirs.ensures.told.1 first s shows in
      let tasks = c.in_ok-pick_grounds.ensures.told.1 second s theirs.0 in
      let flown = c.in_ok-flown.ensures.told.1 third s tasks.0 in
      let periods = c.in_ok-pick_outsides.ensures.told.1 clean s flown.0 in (
        periods.0,
        λ instruction judged named_grounds named_outsides.
            let grounds = grounds_as s instruction _ _ _ _ _ named_grounds judged theirs.1 c.deref.ensures.value tasks.1 in
            let outsides = outsides_as s instruction _ _ _ _ _ named_outsides judged flown.1 c.deref-2.ensures.value periods.1 in
            λ i. record c.args.part.now {
              grounds = grounds i;
              outsides = outsides i;
            },
      ),
)

pub returns-in_err-pick_grounds-clause-left : goal.returns-in_err-pick_grounds-clause-left
returns-in_err-pick_grounds-clause-left g c = g.S.Source.and_then _ _ _ c.grounds_of_one.ensures.left c.pick_grounds.ensures.left

pub returns-in_err-pick_grounds-clause-caused : goal.returns-in_err-pick_grounds-clause-caused
returns-in_err-pick_grounds-clause-caused g c =
    let p = err_from_is_err_and c.from_residual-in_err-pick_grounds.result c.from_residual-in_err-pick_grounds.ensures.1 in
    rw (p.1, p.2) (caused_then g.S.Source.fails g.S.Fault.From.from_gives g.S.Source.stays g.S.Source.fails_then _ _ _ _ c.grounds_of_one.ensures.left c.pick_grounds.ensures.left c.in_err-pick_grounds.ensures.caused)

pub returns-in_err-flown-clause-left : goal.returns-in_err-flown-clause-left
returns-in_err-flown-clause-left g c = g.S.Source.and_then _ _ _ c.grounds_of_one.ensures.left (g.S.Source.and_then _ _ _ c.pick_grounds.ensures.left c.outsides_of_one.ensures.left)

pub returns-in_err-flown-clause-caused : goal.returns-in_err-flown-clause-caused
returns-in_err-flown-clause-caused g c =
    let p = err_from_is_err_and c.from_residual-in_err-flown.result c.from_residual-in_err-flown.ensures.1 in
    rw (p.1, p.2) (caused_then g.S.Source.fails g.S.Fault.From.from_gives g.S.Source.stays g.S.Source.fails_then _ _ _ _ (g.S.Source.and_then _ _ _ c.grounds_of_one.ensures.left c.pick_grounds.ensures.left) c.outsides_of_one.ensures.left c.in_err-flown.ensures.caused)

pub returns-in_err-pick_outsides-clause-left : goal.returns-in_err-pick_outsides-clause-left
returns-in_err-pick_outsides-clause-left g c = g.S.Source.and_then _ _ _ c.grounds_of_one.ensures.left (g.S.Source.and_then _ _ _ c.pick_grounds.ensures.left (g.S.Source.and_then _ _ _ c.outsides_of_one.ensures.left c.pick_outsides.ensures.left))

pub returns-in_err-pick_outsides-clause-caused : goal.returns-in_err-pick_outsides-clause-caused
returns-in_err-pick_outsides-clause-caused g c =
    let p = err_from_is_err_and c.from_residual-in_err-pick_outsides.result c.from_residual-in_err-pick_outsides.ensures.1 in
    rw (p.1, p.2) (caused_then g.S.Source.fails g.S.Fault.From.from_gives g.S.Source.stays g.S.Source.fails_then _ _ _ _ (g.S.Source.and_then _ _ _ c.grounds_of_one.ensures.left (g.S.Source.and_then _ _ _ c.pick_grounds.ensures.left c.outsides_of_one.ensures.left)) c.pick_outsides.ensures.left c.in_err-pick_outsides.ensures.caused)

pub returns-clause-left : goal.returns-clause-left
returns-clause-left g c = g.S.Source.and_then _ _ _ c.grounds_of_one.ensures.left (g.S.Source.and_then _ _ _ c.pick_grounds.ensures.left (g.S.Source.and_then _ _ _ c.outsides_of_one.ensures.left c.pick_outsides.ensures.left))

pub returns-clause-serves : goal.returns-clause-serves
returns-clause-serves g c = g.S.Source.serves_then _ _ _ c.in_ok-theirs.ensures.serves (g.S.Source.serves_then _ _ _ c.in_ok-pick_grounds.ensures.serves (g.S.Source.serves_then _ _ _ c.in_ok-flown.ensures.serves c.in_ok-pick_outsides.ensures.serves))
