use Rattle.std.proofs.Common.{inl}
use Rattle.std.proofs.lemmas.Result.{err_from_is_err_and}
use Rattle.part.proofs.Causes.{caused_then}
use Rattle.part.proofs.showing.ids_held.Goals as goal

pub returns-clause-told : goal.returns-clause-told
returns-clause-told g c = (
  λ clean. c.pairings_of.ensures.told.0 (c.grounds_of.ensures.told.0 (c.outsides_of.ensures.told.0 clean)),
  λ clean s shows.
      let second = c.outsides_of.ensures.told.0 clean in
      let first = c.grounds_of.ensures.told.0 second in
      let held = c.in_ok-pairings.ensures.told.1 first s shows in
      let tasks = c.in_ok-grounds.ensures.told.1 second s held.0 in
      let flown = c.in_ok-outsides.ensures.told.1 clean s tasks.0 in
      (flown.0, (held.1, tasks.1, flown.1)),
)

pub returns-in_err-grounds-clause-left : goal.returns-in_err-grounds-clause-left
returns-in_err-grounds-clause-left g c = g.S.Source.and_then _ _ _ c.pairings_of.ensures.left c.grounds_of.ensures.left

pub returns-in_err-grounds-clause-caused : goal.returns-in_err-grounds-clause-caused
returns-in_err-grounds-clause-caused g c =
    let p = err_from_is_err_and c.from_residual-in_err-grounds.result c.from_residual-in_err-grounds.ensures.1 in
    rw (p.1, p.2) (caused_then g.S.Source.fails g.S.Fault.From.from_gives g.S.Source.stays g.S.Source.fails_then _ _ _ _ c.pairings_of.ensures.left c.grounds_of.ensures.left (inl c.in_err-grounds.ensures.caused))

pub returns-in_err-outsides-clause-left : goal.returns-in_err-outsides-clause-left
returns-in_err-outsides-clause-left g c = g.S.Source.and_then _ _ _ c.pairings_of.ensures.left (g.S.Source.and_then _ _ _ c.grounds_of.ensures.left c.outsides_of.ensures.left)

pub returns-in_err-outsides-clause-caused : goal.returns-in_err-outsides-clause-caused
returns-in_err-outsides-clause-caused g c =
    let p = err_from_is_err_and c.from_residual-in_err-outsides.result c.from_residual-in_err-outsides.ensures.1 in
    rw (p.1, p.2) (caused_then g.S.Source.fails g.S.Fault.From.from_gives g.S.Source.stays g.S.Source.fails_then _ _ _ _ (g.S.Source.and_then _ _ _ c.pairings_of.ensures.left c.grounds_of.ensures.left) c.outsides_of.ensures.left (inl c.in_err-outsides.ensures.caused))

pub returns-clause-left : goal.returns-clause-left
returns-clause-left g c = g.S.Source.and_then _ _ _ c.pairings_of.ensures.left (g.S.Source.and_then _ _ _ c.grounds_of.ensures.left c.outsides_of.ensures.left)

pub returns-clause-serves : goal.returns-clause-serves
returns-clause-serves g c = g.S.Source.serves_then _ _ _ c.in_ok-pairings.ensures.serves (g.S.Source.serves_then _ _ _ c.in_ok-grounds.ensures.serves c.in_ok-outsides.ensures.serves)
