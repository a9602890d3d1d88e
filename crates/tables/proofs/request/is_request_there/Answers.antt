use Rattle.tables.specs.Schema.{request_table}
use Rattle.tables.proofs.RequestTexts.{create_request_declares}
use Rattle.tables.proofs.request.is_request_there.Goals as goal

pub returns-clause-there : goal.returns-clause-there
returns-clause-there g c = c.is_there.ensures.there request_table create_request_declares

pub returns-clause-fault : goal.returns-clause-fault
returns-clause-fault g c = c.is_there.ensures.fault request_table create_request_declares
