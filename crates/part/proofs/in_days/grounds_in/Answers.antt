use Rattle.std.proofs.lemmas.Result.{err_from_is_err_and}
use Rattle.part.proofs.Causes.{caused_then}
use Rattle.part.proofs.InDays.{grounds_are_in}
use Rattle.part.proofs.in_days.grounds_in.Goals as goal

pub returns-clause-told : goal.returns-clause-told
returns-clause-told g c = (
  λ clean. c.crew_ids.ensures.told.0 (c.grounds_of_one.ensures.told.0 (c.pick_grounds_in.ensures.told.0 clean)),
  λ clean s shows.
      let second = c.pick_grounds_in.ensures.told.0 clean in
      let first = c.grounds_of_one.ensures.told.0 second in
      let are = c.in_ok-members.ensures.told.1 first s shows in
      let just = c.in_ok-ids.ensures.told.1 second s are.0 in
      let found = c.in_ok-pick_grounds_in.ensures.told.1 clean s just.0 in
      (found.0, grounds_are_in s c.args.days _ _ _ _ _ _ c.new-grounds.ensures are.1 c.deref.ensures.value just.1 c.deref-2.ensures.value found.1),
)

pub returns-in_err-ids-clause-caused : goal.returns-in_err-ids-clause-caused
returns-in_err-ids-clause-caused g c =
    let p = err_from_is_err_and c.from_residual-in_err-ids.result c.from_residual-in_err-ids.ensures.1 in
    rw (p.1, p.2) (caused_then g.S.Source.fails g.S.Fault.From.from_gives g.S.Source.stays g.S.Source.fails_then _ _ _ _ c.crew_ids.ensures.left c.grounds_of_one.ensures.left c.in_err-ids.ensures.caused)

pub returns-in_err-pick_grounds_in-clause-caused : goal.returns-in_err-pick_grounds_in-clause-caused
returns-in_err-pick_grounds_in-clause-caused g c =
    let p = err_from_is_err_and c.from_residual-in_err-pick_grounds_in.result c.from_residual-in_err-pick_grounds_in.ensures.1 in
    rw (p.1, p.2) (caused_then g.S.Source.fails g.S.Fault.From.from_gives g.S.Source.stays g.S.Source.fails_then _ _ _ _ (g.S.Source.and_then _ _ _ c.crew_ids.ensures.left c.grounds_of_one.ensures.left) c.pick_grounds_in.ensures.left c.in_err-pick_grounds_in.ensures.caused)

pub returns-in_err-ids-clause-left : goal.returns-in_err-ids-clause-left
returns-in_err-ids-clause-left g c = g.S.Source.and_then _ _ _ c.crew_ids.ensures.left c.grounds_of_one.ensures.left

pub returns-in_err-pick_grounds_in-clause-left : goal.returns-in_err-pick_grounds_in-clause-left
returns-in_err-pick_grounds_in-clause-left g c = g.S.Source.and_then _ _ _ c.crew_ids.ensures.left (g.S.Source.and_then _ _ _ c.grounds_of_one.ensures.left c.pick_grounds_in.ensures.left)

pub returns-clause-left : goal.returns-clause-left
returns-clause-left g c = g.S.Source.and_then _ _ _ c.crew_ids.ensures.left (g.S.Source.and_then _ _ _ c.grounds_of_one.ensures.left c.pick_grounds_in.ensures.left)

pub returns-clause-serves : goal.returns-clause-serves
returns-clause-serves g c = g.S.Source.serves_then _ _ _ c.in_ok-members.ensures.serves (g.S.Source.serves_then _ _ _ c.in_ok-ids.ensures.serves c.in_ok-pick_grounds_in.ensures.serves)
