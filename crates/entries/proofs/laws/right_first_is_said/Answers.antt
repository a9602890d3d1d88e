use Rattle.entries.proofs.RightSound.{right_first}
use Rattle.entries.proofs.laws.right_first_is_said.Goals as goal

pub returns : goal.returns
returns c = right_first
