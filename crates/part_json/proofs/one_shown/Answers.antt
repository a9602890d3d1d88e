use Rattle.part_json.proofs.One.{one_shown_json}
use Rattle.part_json.proofs.one_shown.Goals as goal

pub returns : goal.returns
returns c = one_shown_json
