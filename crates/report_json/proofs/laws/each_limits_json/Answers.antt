use Rattle.report_json.proofs.EachJson.{each_limits_json}
use Rattle.report_json.proofs.laws.each_limits_json.Goals as goal

pub returns : goal.returns
returns c = each_limits_json
