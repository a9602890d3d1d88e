use Rattle.tables.specs.Schema.{period_table}
use Rattle.tables.proofs.PeriodTexts.{create_period_declares}
use Rattle.tables.proofs.period.is_period_there.Goals as goal

pub returns-clause-there : goal.returns-clause-there
returns-clause-there g c = c.is_there.ensures.there period_table create_period_declares

pub returns-clause-fault : goal.returns-clause-fault
returns-clause-fault g c = c.is_there.ensures.fault period_table create_period_declares
