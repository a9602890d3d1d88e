use Rattle.std.proofs.lemmas.Result.{err_from_is_err_and}
use Rattle.part.proofs.Causes.{caused_then}
use Rattle.part.proofs.InDays.{pairings_are_in}
use Rattle.part.proofs.in_days.pairings_in.Goals as goal

pub returns-clause-told : goal.returns-clause-told
returns-clause-told g c = (
  λ clean. c.pairing_ids.ensures.told.0 (c.pick_pairings_in.ensures.told.0 clean),
  λ clean s shows.
      let first = c.pick_pairings_in.ensures.told.0 clean in
      let just = c.in_ok-ids.ensures.told.1 first s shows in
      let found = c.in_ok-pick_pairings_in.ensures.told.1 clean s just.0 in
      (found.0, pairings_are_in s c.args.days _ _ _ _ c.new-pairings.ensures just.1 c.deref.ensures.value found.1),
)

pub returns-in_err-pick_pairings_in-clause-caused : goal.returns-in_err-pick_pairings_in-clause-caused
returns-in_err-pick_pairings_in-clause-caused g c =
    let p = err_from_is_err_and c.from_residual-in_err-pick_pairings_in.result c.from_residual-in_err-pick_pairings_in.ensures.1 in
    rw (p.1, p.2) (caused_then g.S.Source.fails g.S.Fault.From.from_gives g.S.Source.stays g.S.Source.fails_then _ _ _ _ c.pairing_ids.ensures.left c.pick_pairings_in.ensures.left c.in_err-pick_pairings_in.ensures.caused)

pub returns-clause-serves : goal.returns-clause-serves
returns-clause-serves g c = g.S.Source.serves_then _ _ _ c.in_ok-ids.ensures.serves c.in_ok-pick_pairings_in.ensures.serves
