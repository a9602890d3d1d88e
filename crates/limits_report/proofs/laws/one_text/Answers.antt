use Rattle.limits_report.proofs.OneText.{one_text}
use Rattle.limits_report.proofs.laws.one_text.Goals as goal

pub returns : goal.returns
returns c = one_text
