use Rattle.codec.proofs.OneReading.{has_no_fault}
use Rattle.codec.proofs.laws.schedule_has_no_fault.Goals as goal

pub returns : goal.returns
returns c = has_no_fault
