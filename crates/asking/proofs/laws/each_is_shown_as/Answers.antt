use Rattle.asking.proofs.ShownAs.{each_is_shown_as}
use Rattle.asking.proofs.laws.each_is_shown_as.Goals as goal

pub returns : goal.returns
returns c = each_is_shown_as
