use Rattle.stored_json.proofs.InstructionsBack.{kept_differ}
use Rattle.stored_json.proofs.laws.kept_texts_differ.Goals as goal

pub returns : goal.returns
returns c = kept_differ
