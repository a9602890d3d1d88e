use Rattle.std.proofs.Common.{◌≡◌, ◌+◌, ◌++◌, ◌∷◌, [], inl, take}
use Rattle.std.proofs.lemmas.Grind.{take_at_read}
use Rattle.std.proofs.lemmas.Result.{err_from_is_err_and}
use Rattle.report.specs.Board.{has_period_in}
use Rattle.part.proofs.Causes.{caused_then}
use Rattle.part.proofs.InDays.{one_more_in}
use Rattle.part.proofs.in_days.pick_pairings_in.Goals as goal

pub loop-id-preserved : goal.loop-id-preserved
loop-id-preserved g c = (
  g.S.Source.and_then _ _ _ c.loop-id.invariant.0 c.pairing.ensures.left,
  g.S.Source.serves_then _ _ _ c.loop-id.invariant.1 c.in_ok-found.ensures.serves,
  λ clean. c.loop-id.invariant.2 (c.pairing.ensures.told.0 clean),
  λ clean s shows.
      let was = c.loop-id.invariant.3 (c.pairing.ensures.told.0 clean) s shows in
      let told = c.in_ok-found.ensures.told.1 clean s was.0 in
      let ids = c.args.ids.now in
      let i = c.loop-id.id-index in
      let id = c.id-item.result in
      let more : take (i + 1) ids ≡ take i ids ++ id ∷ [] = rw c.id-item.is ((take_at_read ids i id c.loop-id-test.true).1) in (
        told.0,
        one_more_in (has_period_in c.args.days) s.pairings c.args.pairings.now c.loop-id.pairings c.put_found.new.map ids i id c.in_ok-found.found c.in_ok-kept.kept
            c.in_ok-put_found.ensures c.in_ok-kept.ensures told.1 was.1 more,
      ),
)

pub returns-in_err-found-clause-caused : goal.returns-in_err-found-clause-caused
returns-in_err-found-clause-caused g c =
    let p = err_from_is_err_and c.from_residual.result c.from_residual.ensures.1 in
    rw (p.1, p.2) (caused_then g.S.Source.fails g.S.Fault.From.from_gives g.S.Source.stays g.S.Source.fails_then _ _ _ _ c.loop-id.invariant.0 c.pairing.ensures.left (inl c.in_err-found.ensures.caused))

pub returns-in_err-found-clause-left : goal.returns-in_err-found-clause-left
returns-in_err-found-clause-left g c = g.S.Source.and_then _ _ _ c.loop-id.invariant.0 c.pairing.ensures.left

pub returns-in_err-put_found-clause-left : goal.returns-in_err-put_found-clause-left
returns-in_err-put_found-clause-left g c = g.S.Source.and_then _ _ _ c.loop-id.invariant.0 c.pairing.ensures.left

pub returns-in_err-kept-clause-left : goal.returns-in_err-kept-clause-left
returns-in_err-kept-clause-left g c = g.S.Source.and_then _ _ _ c.loop-id.invariant.0 c.pairing.ensures.left
