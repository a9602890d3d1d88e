use Rattle.asking.proofs.ShownAs.{one_shown_as}
use Rattle.asking.proofs.laws.one_shown_as.Goals as goal

pub returns : goal.returns
returns c = one_shown_as
