use Rattle.limits_report.proofs.TextRules.{is_rule}
use Rattle.limits_report.proofs.laws.exceeds_is_rule.Goals as goal

pub returns : goal.returns
returns c = is_rule
