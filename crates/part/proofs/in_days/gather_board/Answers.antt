use Rattle.std.proofs.Common.{inl}
use Rattle.std.proofs.lemmas.Result.{err_from_is_err_and}
use Rattle.part.proofs.Causes.{caused_then}
use Rattle.part.proofs.in_days.gather_board.Goals as goal

pub returns-clause-told : goal.returns-clause-told
returns-clause-told g c = (
  λ clean. c.all_members.ensures.told.0 (c.pairings_in.ensures.told.0 (c.grounds_in.ensures.told.0 (c.outsides_in.ensures.told.0 (c.exceedances.ensures.told.0 (c.bases.ensures.told.0 clean))))),
  λ clean s shows.
      let fifth = c.bases.ensures.told.0 clean in
      let fourth = c.exceedances.ensures.told.0 fifth in
      let third = c.outsides_in.ensures.told.0 fourth in
      let second = c.grounds_in.ensures.told.0 third in
      let first = c.pairings_in.ensures.told.0 second in
      let crew = c.in_ok-crew.ensures.told.1 first s shows in
      let pairings = c.in_ok-pairings.ensures.told.1 second s crew.0 in
      let grounds = c.in_ok-grounds.ensures.told.1 third s pairings.0 in
      let outsides = c.in_ok-outsides.ensures.told.1 fourth s grounds.0 in
      let exceedances = c.in_ok-exceedances.ensures.told.1 fifth s outsides.0 in
      let bases = c.in_ok-bases.ensures.told.1 clean s exceedances.0 in (
        bases.0,
        λ i. record {
          bases = bases.1 i;
          crew = crew.1 i;
          pairings = pairings.1 i;
          grounds = grounds.1 i;
          outsides = outsides.1 i;
          exceedances = exceedances.1 i;
          requests = c.new.ensures i;
        },
      ),
)

pub returns-in_err-pairings-clause-left : goal.returns-in_err-pairings-clause-left
returns-in_err-pairings-clause-left g c = g.S.Source.and_then _ _ _ c.all_members.ensures.left c.pairings_in.ensures.left

pub returns-in_err-pairings-clause-caused : goal.returns-in_err-pairings-clause-caused
returns-in_err-pairings-clause-caused g c =
    let p = err_from_is_err_and c.from_residual-in_err-pairings.result c.from_residual-in_err-pairings.ensures.1 in
    rw (p.1, p.2) (caused_then g.S.Source.fails g.S.Fault.From.from_gives g.S.Source.stays g.S.Source.fails_then _ _ _ _ c.all_members.ensures.left c.pairings_in.ensures.left c.in_err-pairings.ensures.caused)

pub returns-in_err-grounds-clause-left : goal.returns-in_err-grounds-clause-left
returns-in_err-grounds-clause-left g c = g.S.Source.and_then _ _ _ c.all_members.ensures.left (g.S.Source.and_then _ _ _ c.pairings_in.ensures.left c.grounds_in.ensures.left)

pub returns-in_err-grounds-clause-caused : goal.returns-in_err-grounds-clause-caused
returns-in_err-grounds-clause-caused g c =
    let p = err_from_is_err_and c.from_residual-in_err-grounds.result c.from_residual-in_err-grounds.ensures.1 in
    rw (p.1, p.2) (caused_then g.S.Source.fails g.S.Fault.From.from_gives g.S.Source.stays g.S.Source.fails_then _ _ _ _ (g.S.Source.and_then _ _ _ c.all_members.ensures.left c.pairings_in.ensures.left) c.grounds_in.ensures.left c.in_err-grounds.ensures.caused)

pub returns-in_err-outsides-clause-left : goal.returns-in_err-outsides-clause-left
returns-in_err-outsides-clause-left g c = g.S.Source.and_then _ _ _ c.all_members.ensures.left (g.S.Source.and_then _ _ _ c.pairings_in.ensures.left (g.S.Source.and_then _ _ _ c.grounds_in.ensures.left c.outsides_in.ensures.left))

pub returns-in_err-outsides-clause-caused : goal.returns-in_err-outsides-clause-caused
returns-in_err-outsides-clause-caused g c =
    let p = err_from_is_err_and c.from_residual-in_err-outsides.result c.from_residual-in_err-outsides.ensures.1 in
    rw (p.1, p.2) (caused_then g.S.Source.fails g.S.Fault.From.from_gives g.S.Source.stays g.S.Source.fails_then _ _ _ _ (g.S.Source.and_then _ _ _ c.all_members.ensures.left (g.S.Source.and_then _ _ _ c.pairings_in.ensures.left c.grounds_in.ensures.left)) c.outsides_in.ensures.left c.in_err-outsides.ensures.caused)

pub returns-in_err-exceedances-clause-left : goal.returns-in_err-exceedances-clause-left
returns-in_err-exceedances-clause-left g c = g.S.Source.and_then _ _ _ c.all_members.ensures.left (g.S.Source.and_then _ _ _ c.pairings_in.ensures.left (g.S.Source.and_then _ _ _ c.grounds_in.ensures.left (g.S.Source.and_then _ _ _ c.outsides_in.ensures.left c.exceedances.ensures.left)))

pub returns-in_err-exceedances-clause-caused : goal.returns-in_err-exceedances-clause-caused
returns-in_err-exceedances-clause-caused g c =
    let p = err_from_is_err_and c.from_residual-in_err-exceedances.result c.from_residual-in_err-exceedances.ensures.1 in
    rw (p.1, p.2) (caused_then g.S.Source.fails g.S.Fault.From.from_gives g.S.Source.stays g.S.Source.fails_then _ _ _ _ (g.S.Source.and_then _ _ _ c.all_members.ensures.left (g.S.Source.and_then _ _ _ c.pairings_in.ensures.left (g.S.Source.and_then _ _ _ c.grounds_in.ensures.left c.outsides_in.ensures.left))) c.exceedances.ensures.left (inl c.in_err-exceedances.ensures.caused))

pub returns-in_err-bases-clause-left : goal.returns-in_err-bases-clause-left
returns-in_err-bases-clause-left g c = g.S.Source.and_then _ _ _ c.all_members.ensures.left (g.S.Source.and_then _ _ _ c.pairings_in.ensures.left (g.S.Source.and_then _ _ _ c.grounds_in.ensures.left (g.S.Source.and_then _ _ _ c.outsides_in.ensures.left (g.S.Source.and_then _ _ _ c.exceedances.ensures.left c.bases.ensures.left))))

pub returns-in_err-bases-clause-caused : goal.returns-in_err-bases-clause-caused
returns-in_err-bases-clause-caused g c =
    let p = err_from_is_err_and c.from_residual-in_err-bases.result c.from_residual-in_err-bases.ensures.1 in
    rw (p.1, p.2) (caused_then g.S.Source.fails g.S.Fault.From.from_gives g.S.Source.stays g.S.Source.fails_then _ _ _ _ (g.S.Source.and_then _ _ _ c.all_members.ensures.left (g.S.Source.and_then _ _ _ c.pairings_in.ensures.left (g.S.Source.and_then _ _ _ c.grounds_in.ensures.left (g.S.Source.and_then _ _ _ c.outsides_in.ensures.left c.exceedances.ensures.left)))) c.bases.ensures.left (inl c.in_err-bases.ensures.caused))

pub returns-clause-left : goal.returns-clause-left
returns-clause-left g c = g.S.Source.and_then _ _ _ c.all_members.ensures.left (g.S.Source.and_then _ _ _ c.pairings_in.ensures.left (g.S.Source.and_then _ _ _ c.grounds_in.ensures.left (g.S.Source.and_then _ _ _ c.outsides_in.ensures.left (g.S.Source.and_then _ _ _ c.exceedances.ensures.left c.bases.ensures.left))))

pub returns-clause-serves : goal.returns-clause-serves
returns-clause-serves g c = g.S.Source.serves_then _ _ _ c.in_ok-crew.ensures.serves (g.S.Source.serves_then _ _ _ c.in_ok-pairings.ensures.serves (g.S.Source.serves_then _ _ _ c.in_ok-grounds.ensures.serves (g.S.Source.serves_then _ _ _ c.in_ok-outsides.ensures.serves (g.S.Source.serves_then _ _ _ c.in_ok-exceedances.ensures.serves c.in_ok-bases.ensures.serves))))
