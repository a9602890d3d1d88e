use Rattle.report_json.proofs.OneJson.{one_exceedances_json}
use Rattle.report_json.proofs.laws.one_exceedances_json.Goals as goal

pub returns : goal.returns
returns c = one_exceedances_json
