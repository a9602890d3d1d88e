use Rattle.limits_report.proofs.TextRules.{is_refused}
use Rattle.limits_report.proofs.laws.exceeds_is_refused.Goals as goal

pub returns : goal.returns
returns c = is_refused
