use Rattle.std.proofs.lemmas.Result.{err_from_is_err_and}
use Rattle.part.proofs.Causes.{caused_then}
use Rattle.part.proofs.ShownParts.{all_are_as}
use Rattle.part.proofs.in_days.all_members.Goals as goal

pub returns-clause-told : goal.returns-clause-told
returns-clause-told g c = (
  λ clean. c.crew_ids.ensures.told.0 (c.pick_members.ensures.told.0 clean),
  λ clean s shows.
      let first = c.pick_members.ensures.told.0 clean in
      let just = c.in_ok-ids.ensures.told.1 first s shows in
      let found = c.in_ok-pick_members.ensures.told.1 clean s just.0 in
      (found.0, all_are_as s.crew _ _ _ _ c.new-crew.ensures just.1 c.deref.ensures.value found.1),
)

pub returns-in_err-pick_members-clause-caused : goal.returns-in_err-pick_members-clause-caused
returns-in_err-pick_members-clause-caused g c =
    let p = err_from_is_err_and c.from_residual-in_err-pick_members.result c.from_residual-in_err-pick_members.ensures.1 in
    rw (p.1, p.2) (caused_then g.S.Source.fails g.S.Fault.From.from_gives g.S.Source.stays g.S.Source.fails_then _ _ _ _ c.crew_ids.ensures.left c.pick_members.ensures.left c.in_err-pick_members.ensures.caused)

pub returns-clause-serves : goal.returns-clause-serves
returns-clause-serves g c = g.S.Source.serves_then _ _ _ c.in_ok-ids.ensures.serves c.in_ok-pick_members.ensures.serves

pub returns-clause-left : goal.returns-clause-left
returns-clause-left g c = g.S.Source.and_then _ _ _ c.crew_ids.ensures.left c.pick_members.ensures.left
