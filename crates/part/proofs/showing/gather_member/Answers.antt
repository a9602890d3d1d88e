use Rattle.std.proofs.Common.{inl}
use Rattle.std.proofs.lemmas.Result.{err_from_is_err_and}
use Rattle.part.proofs.Causes.{caused_then}
use Rattle.part.proofs.ShownParts.{held_are_as, grounds_of_are_as, outsides_of_are_as}
use Rattle.part.proofs.showing.gather_member.Goals as goal

pub returns-clause-told : goal.returns-clause-told
returns-clause-told g c = (
  λ clean. c.one_member.ensures.told.0 (c.ids_held.ensures.told.0 (c.pick_pairings.ensures.told.0 (c.pick_grounds.ensures.told.0 (c.pick_outsides.ensures.told.0 (c.bases.ensures.told.0 clean))))),
  λ clean s shows.
      let fifth = c.bases.ensures.told.0 clean in
      let fourth = c.pick_outsides.ensures.told.0 fifth in
      let third = c.pick_grounds.ensures.told.0 fourth in
      let second = c.pick_pairings.ensures.told.0 third in
      let first = c.ids_held.ensures.told.0 second in
      let crew = c.in_ok-crew.ensures.told.1 first s shows in
      let ids = c.in_ok-ids.ensures.told.1 second s crew.0 in
      let plans = c.in_ok-pick_pairings.ensures.told.1 third s ids.0 in
      let tasks = c.in_ok-pick_grounds.ensures.told.1 fourth s plans.0 in
      let flown = c.in_ok-pick_outsides.ensures.told.1 fifth s tasks.0 in
      let bases = c.in_ok-bases.ensures.told.1 clean s flown.0 in
      let who = c.args.who.now in
      let pairings = held_are_as s who _ _ _ _ c.new-pairings.ensures ids.1.0 c.deref.ensures.value plans.1 in
      let grounds = grounds_of_are_as s who _ _ _ _ c.new-grounds.ensures ids.1.1 c.deref-2.ensures.value tasks.1 in
      let outsides = outsides_of_are_as s who _ _ _ _ c.new-outsides.ensures ids.1.2 c.deref-3.ensures.value flown.1 in (
        bases.0,
        λ i. record {
          bases = bases.1 i;
          crew = crew.1 i;
          pairings = pairings i;
          grounds = grounds i;
          outsides = outsides i;
          exceedances = c.new.ensures i;
          requests = c.new-2.ensures i;
        },
      ),
)

pub returns-in_err-ids-clause-left : goal.returns-in_err-ids-clause-left
returns-in_err-ids-clause-left g c = g.S.Source.and_then _ _ _ c.one_member.ensures.left c.ids_held.ensures.left

pub returns-in_err-ids-clause-caused : goal.returns-in_err-ids-clause-caused
returns-in_err-ids-clause-caused g c =
    let p = err_from_is_err_and c.from_residual-in_err-ids.result c.from_residual-in_err-ids.ensures.1 in
    rw (p.1, p.2) (caused_then g.S.Source.fails g.S.Fault.From.from_gives g.S.Source.stays g.S.Source.fails_then _ _ _ _ c.one_member.ensures.left c.ids_held.ensures.left c.in_err-ids.ensures.caused)

pub returns-in_err-pick_pairings-clause-left : goal.returns-in_err-pick_pairings-clause-left
returns-in_err-pick_pairings-clause-left g c = g.S.Source.and_then _ _ _ c.one_member.ensures.left (g.S.Source.and_then _ _ _ c.ids_held.ensures.left c.pick_pairings.ensures.left)

pub returns-in_err-pick_pairings-clause-caused : goal.returns-in_err-pick_pairings-clause-caused
returns-in_err-pick_pairings-clause-caused g c =
    let p = err_from_is_err_and c.from_residual-in_err-pick_pairings.result c.from_residual-in_err-pick_pairings.ensures.1 in
    rw (p.1, p.2) (caused_then g.S.Source.fails g.S.Fault.From.from_gives g.S.Source.stays g.S.Source.fails_then _ _ _ _ (g.S.Source.and_then _ _ _ c.one_member.ensures.left c.ids_held.ensures.left) c.pick_pairings.ensures.left c.in_err-pick_pairings.ensures.caused)

pub returns-in_err-pick_grounds-clause-left : goal.returns-in_err-pick_grounds-clause-left
returns-in_err-pick_grounds-clause-left g c = g.S.Source.and_then _ _ _ c.one_member.ensures.left (g.S.Source.and_then _ _ _ c.ids_held.ensures.left (g.S.Source.and_then _ _ _ c.pick_pairings.ensures.left c.pick_grounds.ensures.left))

pub returns-in_err-pick_grounds-clause-caused : goal.returns-in_err-pick_grounds-clause-caused
returns-in_err-pick_grounds-clause-caused g c =
    let p = err_from_is_err_and c.from_residual-in_err-pick_grounds.result c.from_residual-in_err-pick_grounds.ensures.1 in
    rw (p.1, p.2) (caused_then g.S.Source.fails g.S.Fault.From.from_gives g.S.Source.stays g.S.Source.fails_then _ _ _ _ (g.S.Source.and_then _ _ _ c.one_member.ensures.left (g.S.Source.and_then _ _ _ c.ids_held.ensures.left c.pick_pairings.ensures.left)) c.pick_grounds.ensures.left c.in_err-pick_grounds.ensures.caused)

pub returns-in_err-pick_outsides-clause-left : goal.returns-in_err-pick_outsides-clause-left
returns-in_err-pick_outsides-clause-left g c = g.S.Source.and_then _ _ _ c.one_member.ensures.left (g.S.Source.and_then _ _ _ c.ids_held.ensures.left (g.S.Source.and_then _ _ _ c.pick_pairings.ensures.left (g.S.Source.and_then _ _ _ c.pick_grounds.ensures.left c.pick_outsides.ensures.left)))

pub returns-in_err-pick_outsides-clause-caused : goal.returns-in_err-pick_outsides-clause-caused
returns-in_err-pick_outsides-clause-caused g c =
    let p = err_from_is_err_and c.from_residual-in_err-pick_outsides.result c.from_residual-in_err-pick_outsides.ensures.1 in
    rw (p.1, p.2) (caused_then g.S.Source.fails g.S.Fault.From.from_gives g.S.Source.stays g.S.Source.fails_then _ _ _ _ (g.S.Source.and_then _ _ _ c.one_member.ensures.left (g.S.Source.and_then _ _ _ c.ids_held.ensures.left (g.S.Source.and_then _ _ _ c.pick_pairings.ensures.left c.pick_grounds.ensures.left))) c.pick_outsides.ensures.left c.in_err-pick_outsides.ensures.caused)

pub returns-in_err-bases-clause-left : goal.returns-in_err-bases-clause-left
returns-in_err-bases-clause-left g c = g.S.Source.and_then _ _ _ c.one_member.ensures.left (g.S.Source.and_then _ _ _ c.ids_held.ensures.left (g.S.Source.and_then _ _ _ c.pick_pairings.ensures.left (g.S.Source.and_then _ _ _ c.pick_grounds.ensures.left (g.S.Source.and_then _ _ _ c.pick_outsides.ensures.left c.bases.ensures.left))))

pub returns-in_err-bases-clause-caused : goal.returns-in_err-bases-clause-caused
returns-in_err-bases-clause-caused g c =
    let p = err_from_is_err_and c.from_residual-in_err-bases.result c.from_residual-in_err-bases.ensures.1 in
    rw (p.1, p.2) (caused_then g.S.Source.fails g.S.Fault.From.from_gives g.S.Source.stays g.S.Source.fails_then _ _ _ _ (g.S.Source.and_then _ _ _ c.one_member.ensures.left (g.S.Source.and_then _ _ _ c.ids_held.ensures.left (g.S.Source.and_then _ _ _ c.pick_pairings.ensures.left (g.S.Source.and_then _ _ _ c.pick_grounds.ensures.left c.pick_outsides.ensures.left)))) c.bases.ensures.left (inl c.in_err-bases.ensures.caused))

pub returns-clause-left : goal.returns-clause-left
returns-clause-left g c = g.S.Source.and_then _ _ _ c.one_member.ensures.left (g.S.Source.and_then _ _ _ c.ids_held.ensures.left (g.S.Source.and_then _ _ _ c.pick_pairings.ensures.left (g.S.Source.and_then _ _ _ c.pick_grounds.ensures.left (g.S.Source.and_then _ _ _ c.pick_outsides.ensures.left c.bases.ensures.left))))

pub returns-clause-serves : goal.returns-clause-serves
returns-clause-serves g c = g.S.Source.serves_then _ _ _ c.in_ok-crew.ensures.serves (g.S.Source.serves_then _ _ _ c.in_ok-ids.ensures.serves (g.S.Source.serves_then _ _ _ c.in_ok-pick_pairings.ensures.serves (g.S.Source.serves_then _ _ _ c.in_ok-pick_grounds.ensures.serves (g.S.Source.serves_then _ _ _ c.in_ok-pick_outsides.ensures.serves c.in_ok-bases.ensures.serves))))
