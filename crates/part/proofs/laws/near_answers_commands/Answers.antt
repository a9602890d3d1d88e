use Rattle.part.proofs.NearAnswers.{near_answers_commands}
use Rattle.part.proofs.laws.near_answers_commands.Goals as goal

pub returns : goal.returns
returns c = near_answers_commands
