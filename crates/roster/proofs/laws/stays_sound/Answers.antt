use Rattle.roster.proofs.MadeByCommands.{stays_sound}
use Rattle.roster.proofs.Sound.{keeps_sound}
use Rattle.roster.proofs.laws.stays_sound.Goals as goal

pub returns : goal.returns
returns c = stays_sound keeps_sound
