use Rattle.part_json.proofs.Each.{each_is_shown_json}
use Rattle.part_json.proofs.each_is_shown.Goals as goal

pub returns : goal.returns
returns c = each_is_shown_json
