use Rattle.stored_json.proofs.InstructionsBack.{kept_back}
use Rattle.stored_json.proofs.laws.kept_texts_are_read.Goals as goal

pub returns : goal.returns
returns c = λ instruction made. kept_back instruction made.0 made.1
