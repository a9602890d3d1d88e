use Rattle.part.proofs.ShownAlike.{part_is_shown_alike}
use Rattle.part.proofs.laws.part_is_shown_alike.Goals as goal

pub returns : goal.returns
returns c = part_is_shown_alike
