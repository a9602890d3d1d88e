use Rattle.limits_report.proofs.TextRules.{is_broken}
use Rattle.limits_report.proofs.laws.exceeds_is_broken.Goals as goal

pub returns : goal.returns
returns c = is_broken
