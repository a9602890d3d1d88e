use Rattle.tables.specs.Schema.{exceedance_table}
use Rattle.tables.proofs.ExceedanceTexts.{create_exceedance_declares}
use Rattle.tables.proofs.exceedance.is_exceedance_there.Goals as goal

pub returns-clause-there : goal.returns-clause-there
returns-clause-there g c = c.is_there.ensures.there exceedance_table create_exceedance_declares

pub returns-clause-fault : goal.returns-clause-fault
returns-clause-fault g c = c.is_there.ensures.fault exceedance_table create_exceedance_declares
