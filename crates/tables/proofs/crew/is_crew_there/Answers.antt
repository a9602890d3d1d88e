use Rattle.tables.specs.Schema.{crew_table}
use Rattle.tables.proofs.CrewTexts.{create_crew_declares}
use Rattle.tables.proofs.crew.is_crew_there.Goals as goal

pub returns-clause-there : goal.returns-clause-there
returns-clause-there g c = c.is_there.ensures.there crew_table create_crew_declares

pub returns-clause-fault : goal.returns-clause-fault
returns-clause-fault g c = c.is_there.ensures.fault crew_table create_crew_declares
