use Rattle.part.proofs.OneShown.{one_shown}
use Rattle.part.proofs.laws.one_shown.Goals as goal

pub returns : goal.returns
returns c = one_shown
