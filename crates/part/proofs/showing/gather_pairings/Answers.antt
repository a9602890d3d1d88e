use Rattle.std.proofs.Common.{inl}
use Rattle.std.proofs.lemmas.Result.{err_from_is_err_and}
use Rattle.part.proofs.Causes.{caused_then}
use Rattle.part.proofs.ShownParts.{all_are_as}
use Rattle.part.proofs.showing.gather_pairings.Goals as goal

pub returns-clause-told : goal.returns-clause-told
returns-clause-told g c = (
  λ clean. c.pairing_ids.ensures.told.0 (c.pick_pairings.ensures.told.0 (c.bases.ensures.told.0 clean)),
  λ clean s shows.
      let second = c.bases.ensures.told.0 clean in
      let first = c.pick_pairings.ensures.told.0 second in
      let just = c.in_ok-ids.ensures.told.1 first s shows in
      let found = c.in_ok-pick_pairings.ensures.told.1 second s just.0 in
      let bases = c.in_ok-bases.ensures.told.1 clean s found.0 in
      let all = all_are_as s.pairings _ _ _ _ c.new-pairings.ensures just.1 c.deref.ensures.value found.1 in (
        bases.0,
        λ i. record {
          bases = bases.1 i;
          crew = c.new.ensures i;
          pairings = all i;
          grounds = c.new-2.ensures i;
          outsides = c.new-3.ensures i;
          exceedances = c.new-4.ensures i;
          requests = c.new-5.ensures i;
        },
      ),
)

pub returns-in_err-pick_pairings-clause-left : goal.returns-in_err-pick_pairings-clause-left
returns-in_err-pick_pairings-clause-left g c = g.S.Source.and_then _ _ _ c.pairing_ids.ensures.left c.pick_pairings.ensures.left

pub returns-in_err-pick_pairings-clause-caused : goal.returns-in_err-pick_pairings-clause-caused
returns-in_err-pick_pairings-clause-caused g c =
    let p = err_from_is_err_and c.from_residual-in_err-pick_pairings.result c.from_residual-in_err-pick_pairings.ensures.1 in
    rw (p.1, p.2) (caused_then g.S.Source.fails g.S.Fault.From.from_gives g.S.Source.stays g.S.Source.fails_then _ _ _ _ c.pairing_ids.ensures.left c.pick_pairings.ensures.left c.in_err-pick_pairings.ensures.caused)

pub returns-in_err-bases-clause-left : goal.returns-in_err-bases-clause-left
returns-in_err-bases-clause-left g c = g.S.Source.and_then _ _ _ c.pairing_ids.ensures.left (g.S.Source.and_then _ _ _ c.pick_pairings.ensures.left c.bases.ensures.left)

pub returns-in_err-bases-clause-caused : goal.returns-in_err-bases-clause-caused
returns-in_err-bases-clause-caused g c =
    let p = err_from_is_err_and c.from_residual-in_err-bases.result c.from_residual-in_err-bases.ensures.1 in
    rw (p.1, p.2) (caused_then g.S.Source.fails g.S.Fault.From.from_gives g.S.Source.stays g.S.Source.fails_then _ _ _ _ (g.S.Source.and_then _ _ _ c.pairing_ids.ensures.left c.pick_pairings.ensures.left) c.bases.ensures.left (inl c.in_err-bases.ensures.caused))

pub returns-clause-left : goal.returns-clause-left
returns-clause-left g c = g.S.Source.and_then _ _ _ c.pairing_ids.ensures.left (g.S.Source.and_then _ _ _ c.pick_pairings.ensures.left c.bases.ensures.left)

pub returns-clause-serves : goal.returns-clause-serves
returns-clause-serves g c = g.S.Source.serves_then _ _ _ c.in_ok-ids.ensures.serves (g.S.Source.serves_then _ _ _ c.in_ok-pick_pairings.ensures.serves c.in_ok-bases.ensures.serves)
