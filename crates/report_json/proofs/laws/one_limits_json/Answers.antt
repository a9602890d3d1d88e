use Rattle.report_json.proofs.OneJson.{one_limits_json}
use Rattle.report_json.proofs.laws.one_limits_json.Goals as goal

pub returns : goal.returns
returns c = one_limits_json
