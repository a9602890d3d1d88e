use Rattle.limits_report.proofs.EachText.{each_nearest}
use Rattle.limits_report.proofs.laws.each_nearest.Goals as goal

pub returns : goal.returns
returns c = each_nearest
