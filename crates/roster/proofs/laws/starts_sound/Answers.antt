use Rattle.roster.proofs.MadeByCommands.{starts_sound}
use Rattle.roster.proofs.laws.starts_sound.Goals as goal

pub returns : goal.returns
returns c = starts_sound
