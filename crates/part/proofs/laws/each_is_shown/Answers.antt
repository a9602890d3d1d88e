use Rattle.part.proofs.EachShown.{each_is_shown}
use Rattle.part.proofs.laws.each_is_shown.Goals as goal

pub returns : goal.returns
returns c = each_is_shown
