use Rattle.limits_report.proofs.OneText.{one_nearest_list}
use Rattle.limits_report.proofs.laws.one_nearest.Goals as goal

pub returns : goal.returns
returns c = one_nearest_list
