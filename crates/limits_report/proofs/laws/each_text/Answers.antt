use Rattle.limits_report.proofs.EachText.{each_text}
use Rattle.limits_report.proofs.laws.each_text.Goals as goal

pub returns : goal.returns
returns c = each_text
