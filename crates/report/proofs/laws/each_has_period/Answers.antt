use Rattle.report.proofs.EachText.{each_has_period}
use Rattle.report.proofs.laws.each_has_period.Goals as goal

pub returns : goal.returns
returns c = each_has_period
