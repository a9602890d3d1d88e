use Rattle.part_json.proofs.Alike.{part_is_shown_alike_json}
use Rattle.part_json.proofs.part_is_shown_alike.Goals as goal

pub returns : goal.returns
returns c = part_is_shown_alike_json
