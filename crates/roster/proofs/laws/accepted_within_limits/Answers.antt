use Rattle.roster.proofs.WithinLimits.{accepted_within_limits}
use Rattle.roster.proofs.laws.accepted_within_limits.Goals as goal

pub returns : goal.returns
returns c = accepted_within_limits
