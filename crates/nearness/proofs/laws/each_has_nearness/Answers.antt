use Rattle.nearness.proofs.EachNearness.{each_nearness}
use Rattle.nearness.proofs.laws.each_has_nearness.Goals as goal

pub returns : goal.returns
returns c = each_nearness
