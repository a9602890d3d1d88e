use Rattle.std.proofs.lemmas.Result.{err_from_is_err_and}
use Rattle.part.proofs.Causes.{caused_then}
use Rattle.part.proofs.gathering.gather.Goals as goal

pub returns-clause-told : goal.returns-clause-told
returns-clause-told g c = (
  λ clean. c.gather_bases.ensures.told.0 (c.add_needed.ensures.told.0 clean),
  λ clean s shows.
      let bases = c.in_ok-part.ensures.told.1 (c.add_needed.ensures.told.0 clean) s shows in
      let whole = c.in_ok-add_needed.ensures.told.1 clean s bases.0 in
      (whole.0, whole.1 bases.1),
)

pub returns-in_err-add_needed-clause-left : goal.returns-in_err-add_needed-clause-left
returns-in_err-add_needed-clause-left g c = g.S.Source.and_then _ _ _ c.gather_bases.ensures.left c.add_needed.ensures.left

pub returns-in_err-add_needed-clause-caused : goal.returns-in_err-add_needed-clause-caused
returns-in_err-add_needed-clause-caused g c =
    let p = err_from_is_err_and c.from_residual-in_err-add_needed.result c.from_residual-in_err-add_needed.ensures.1 in
    rw (p.1, p.2) (caused_then g.S.Source.fails g.S.Fault.From.from_gives g.S.Source.stays g.S.Source.fails_then _ _ _ _ c.gather_bases.ensures.left c.add_needed.ensures.left c.in_err-add_needed.ensures.caused)

pub returns-clause-left : goal.returns-clause-left
returns-clause-left g c = g.S.Source.and_then _ _ _ c.gather_bases.ensures.left c.add_needed.ensures.left

pub returns-clause-serves : goal.returns-clause-serves
returns-clause-serves g c = g.S.Source.serves_then _ _ _ c.in_ok-part.ensures.serves c.in_ok-add_needed.ensures.serves

pub returns-clause-there : goal.returns-clause-there
returns-clause-there g c = g.S.Source.still_there _ _ c.in_ok-add_needed.ensures.serves c.in_ok-part.ensures.there
