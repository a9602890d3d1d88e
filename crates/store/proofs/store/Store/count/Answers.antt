use Rattle.lookup.proofs.Changes.{of_stays}
use Rattle.lookup.proofs.ReadLemmas.{over_on}
use Rattle.lookup.specs.Count.{IsCount}
use Rattle.store.proofs.Parting.{is_told}
use Rattle.store.proofs.store.Store.count.Goals as goal

pub invariant_of-self : goal.invariant_of-self
invariant_of-self g c = (c.count_at-count.ensures.stays.outside, over_on _ _ c.count_at-count.ensures.stays c.self.invariant.1)

pub returns-clause-count : goal.returns-clause-count
returns-clause-count g c = rw (← c.self.view_is) (is_told IsCount _ _ c.count_at-count.result c.count_at-count.ensures.told)

pub returns-clause-unchanged : goal.returns-clause-unchanged
returns-clause-unchanged g c = rw (← c.self.view_is) (of_stays _ _ c.count_at-count.ensures.stays)
