use Rattle.codec.proofs.OneReading.{has_one_fault}
use Rattle.codec.proofs.laws.schedule_has_one_fault.Goals as goal

pub returns : goal.returns
returns c = has_one_fault
