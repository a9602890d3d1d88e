use Rattle.report_json.proofs.EachJson.{each_exceedances_json}
use Rattle.report_json.proofs.laws.each_exceedances_json.Goals as goal

pub returns : goal.returns
returns c = each_exceedances_json
