-- The sort leaves the records in the order of their pairings.
use Rattle.std.proofs.Common.{rules, of_calls}
use Rattle.std.specs.Ordering.{is_lt}
use Rattle.std.proofs.lemmas.Cmp.{nat_list_cmp_total}
use Rattle.std.proofs.lemmas.Fn.{always_returns_same}
use Rattle.std.proofs.lemmas.List.Sorted.{ranks_by}
use Rattle.values.specs.Name.{name_cmp}
use Rattle.tables.specs.declared.period.PeriodRecord.{PeriodRecord}
use Rattle.lookup.proofs.near.in_order.Goals as goal

pub returns-clause-ordered : goal.returns-clause-ordered
returns-clause-ordered c =
    c.sort_unstable_by.ensures.sorted (λ a b. is_lt (name_cmp a.pairing b.pairing)) (ranks_by nat_list_cmp_total (λ (it : PeriodRecord). it.pairing))
    (always_returns_same _ _ _ (λ a r f k. search (rules, of_calls)))
