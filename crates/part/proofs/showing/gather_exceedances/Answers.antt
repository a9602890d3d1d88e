use Rattle.std.proofs.Common.{inl}
use Rattle.std.proofs.lemmas.Result.{err_from_is_err_and}
use Rattle.part.proofs.Causes.{caused_then}
use Rattle.part.proofs.showing.gather_exceedances.Goals as goal

pub returns-in_err-exceedances-clause-left : goal.returns-in_err-exceedances-clause-left
returns-in_err-exceedances-clause-left g c = g.S.Source.and_then _ _ _ c.bases.ensures.left c.exceedances.ensures.left

pub returns-clause-left : goal.returns-clause-left
returns-clause-left g c = g.S.Source.and_then _ _ _ c.bases.ensures.left c.exceedances.ensures.left

pub returns-clause-serves : goal.returns-clause-serves
returns-clause-serves g c = g.S.Source.serves_then _ _ _ c.in_ok-bases.ensures.serves c.in_ok-exceedances.ensures.serves

pub returns-clause-there : goal.returns-clause-there
returns-clause-there g c = g.S.Source.still_there _ _ c.in_ok-exceedances.ensures.serves c.in_ok-bases.ensures.there

pub returns-in_err-exceedances-clause-caused : goal.returns-in_err-exceedances-clause-caused
returns-in_err-exceedances-clause-caused g c =
    let p = err_from_is_err_and c.from_residual-in_err-exceedances.result c.from_residual-in_err-exceedances.ensures.1 in
    rw (p.1, p.2) (caused_then g.S.Source.fails g.S.Fault.From.from_gives g.S.Source.stays g.S.Source.fails_then _ _ _ _ c.bases.ensures.left c.exceedances.ensures.left (inl c.in_err-exceedances.ensures.caused))
