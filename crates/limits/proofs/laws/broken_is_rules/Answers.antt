use Rattle.limits.specs.Laws.Broken.{broken_is}
use Rattle.limits.proofs.Ordered.{broken_is_in_order}
use Rattle.limits.proofs.laws.broken_is_rules.Goals as goal

pub returns-clause-rules : goal.returns-clause-rules
returns-clause-rules c = broken_is

pub returns-clause-order : goal.returns-clause-order
returns-clause-order c = broken_is_in_order
