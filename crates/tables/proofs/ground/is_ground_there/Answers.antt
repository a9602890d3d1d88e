use Rattle.tables.specs.Schema.{ground_table}
use Rattle.tables.proofs.GroundTexts.{create_ground_declares}
use Rattle.tables.proofs.ground.is_ground_there.Goals as goal

pub returns-clause-there : goal.returns-clause-there
returns-clause-there g c = c.is_there.ensures.there ground_table create_ground_declares

pub returns-clause-fault : goal.returns-clause-fault
returns-clause-fault g c = c.is_there.ensures.fault ground_table create_ground_declares
