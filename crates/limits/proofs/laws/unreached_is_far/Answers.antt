use Rattle.limits.proofs.Unreached.{unreached_is_far}
use Rattle.limits.proofs.laws.unreached_is_far.Goals as goal

pub returns : goal.returns
returns c = unreached_is_far
