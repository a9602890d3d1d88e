use Rattle.lookup.proofs.ReadLemmas.{over_on}
use Rattle.store.proofs.source.StoreSource.requests_of.Goals as goal

pub invariant_of-self : goal.invariant_of-self
invariant_of-self g c = (c.requests_at.ensures.stays.outside, over_on _ _ c.requests_at.ensures.stays c.self.invariant.1)

pub returns-clause-told : goal.returns-clause-told
returns-clause-told g c = rw (← c.self.view_is) (c.requests_at.ensures.stays.nothing_new.disk, c.requests_at.ensures.told)
