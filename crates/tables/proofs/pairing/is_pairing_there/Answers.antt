use Rattle.tables.specs.Schema.{pairing_table}
use Rattle.tables.proofs.PairingTexts.{create_pairing_declares}
use Rattle.tables.proofs.pairing.is_pairing_there.Goals as goal

pub returns-clause-there : goal.returns-clause-there
returns-clause-there g c = c.is_there.ensures.there pairing_table create_pairing_declares

pub returns-clause-fault : goal.returns-clause-fault
returns-clause-fault g c = c.is_there.ensures.fault pairing_table create_pairing_declares
