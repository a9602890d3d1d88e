use Rattle.lookup.proofs.ReadLemmas.{over_on}
use Rattle.store.proofs.source.StoreSource.crew_ids.Goals as goal

pub invariant_of-self : goal.invariant_of-self
invariant_of-self g c = (c.crew_ids_at.ensures.stays.outside, over_on _ _ c.crew_ids_at.ensures.stays c.self.invariant.1)
