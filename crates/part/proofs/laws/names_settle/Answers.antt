use Rattle.part.proofs.Settled.{names_settle}
use Rattle.part.proofs.laws.names_settle.Goals as goal

pub returns : goal.returns
returns c = names_settle
