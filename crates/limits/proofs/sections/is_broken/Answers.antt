use Rattle.std.proofs.lemmas.Bool.Decides.{same_from_decides}
use Rattle.limits.specs.Laws.Decisions.{breaks, breaks_is}
use Rattle.limits.proofs.sections.is_broken.Goals as goal

pub returns : goal.returns
returns g c =
    let section = g.L.Limit.SECTION in
    same_from_decides c.is_broken_by.result (breaks section c.args.history.now c.args.new.now) c.is_broken_by.ensures
    (breaks_is section c.args.history.now c.args.new.now)
