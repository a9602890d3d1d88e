use Rattle.report.proofs.EachText.{each_roster}
use Rattle.report.proofs.laws.each_roster.Goals as goal

pub returns : goal.returns
returns c = each_roster
