use Rattle.roster.proofs.Ascending.{refusals_ascend}
use Rattle.roster.proofs.laws.refusals_ascend.Goals as goal

pub returns : goal.returns
returns c = refusals_ascend
