use Rattle.std.proofs.Common.{inl}
use Rattle.std.proofs.lemmas.Result.{err_from_is_err_and}
use Rattle.part.proofs.Causes.{caused_then}
use Rattle.part.proofs.showing.gather_request.Goals as goal

pub returns-in_err-bases-clause-left : goal.returns-in_err-bases-clause-left
returns-in_err-bases-clause-left g c = g.S.Source.and_then _ _ _ c.requests_of.ensures.left c.bases.ensures.left

pub returns-in_err-bases-clause-caused : goal.returns-in_err-bases-clause-caused
returns-in_err-bases-clause-caused g c =
    let p = err_from_is_err_and c.from_residual-in_err-bases.result c.from_residual-in_err-bases.ensures.1 in
    rw (p.1, p.2) (caused_then g.S.Source.fails g.S.Fault.From.from_gives g.S.Source.stays g.S.Source.fails_then _ _ _ _ c.requests_of.ensures.left c.bases.ensures.left (inl c.in_err-bases.ensures.caused))

pub returns-clause-left : goal.returns-clause-left
returns-clause-left g c = g.S.Source.and_then _ _ _ c.requests_of.ensures.left c.bases.ensures.left

pub returns-clause-serves : goal.returns-clause-serves
returns-clause-serves g c = g.S.Source.serves_then _ _ _ c.in_ok-requests.ensures.serves c.in_ok-bases.ensures.serves
