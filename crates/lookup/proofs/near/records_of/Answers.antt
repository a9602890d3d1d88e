-- The two places that are found bound the records of the pairing.
use Rattle.std.proofs.Common.{rules, of_calls, drop}
use Rattle.std.specs.Ordering.{is_le, is_lt}
use Rattle.std.proofs.lemmas.List.{take_rest}
use Rattle.std.proofs.lemmas.List.Sorted.{IsPartitionPoint-from_clause}
use Rattle.values.specs.Name.{name_cmp}
use Rattle.lookup.proofs.NearOrder.{parted_below, parted_from, side_by_side}
use Rattle.lookup.proofs.near.records_of.Goals as goal

pub returns : goal.returns
returns c =
    let records = c.args.records.now in
    let id = c.args.id.now in
    let first = c.partition_point-first.result in
    let count = c.partition_point-count.result in
    let rest = take_rest records first in
    rw rest (side_by_side id records first count c.partition_point-first.ensures.bound (rw rest at c.partition_point-count.ensures.bound)
    (IsPartitionPoint-from_clause (λ it. is_lt (name_cmp it.pairing id)) records first c.partition_point-first.ensures.partitioned (parted_below id records c.requires) (λ a r f k. search (rules, of_calls)))
    (IsPartitionPoint-from_clause (λ it. is_le (name_cmp it.pairing id)) (drop first records) count (rw rest at c.partition_point-count.ensures.partitioned) (parted_from id records c.requires first) (λ a r f k. search (rules, of_calls))))
