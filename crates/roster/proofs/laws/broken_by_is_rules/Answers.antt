use Rattle.roster.proofs.Listed.{lists_broken, lists_in_order}
use Rattle.roster.proofs.laws.broken_by_is_rules.Goals as goal

pub returns-clause-rules : goal.returns-clause-rules
returns-clause-rules c = lists_broken

pub returns-clause-order : goal.returns-clause-order
returns-clause-order c = lists_in_order
