use Rattle.part.proofs.NearPairings.{adds_held}
use Rattle.part.proofs.near.add_near_of.Goals as goal

pub returns-clause-told : goal.returns-clause-told
returns-clause-told g c = (
  c.pairings_near.ensures.told.0,
  λ clean s shows.
      let near = c.in_ok-found.ensures.told.1 clean s shows in
      let sound = g.S.Source.shown_is_sound c.args.source.now s shows in
      (near.0, λ flies so. adds_held s sound c.args.seat c.args.who.now flies c.args.spans.now c.in_ok-found.found.items (near.1 so) _ _ c.in_ok-add_all_held.ensures),
)
