use Rattle.report.proofs.OneText.{one_roster}
use Rattle.report.proofs.laws.one_roster.Goals as goal

pub returns : goal.returns
returns c = one_roster
