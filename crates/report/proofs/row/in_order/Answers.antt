use Rattle.report.proofs.InOrder.{rows_sorted_by_key}
use Rattle.report.proofs.row.in_order.Goals as goal

pub returns : goal.returns
returns c = record {
  same = c.sort.ensures.permutation;
  order = rows_sorted_by_key c.sort.new.self.items c.in_ok-sort.ensures.sorted;
}
