use Rattle.roster.proofs.KeepsHonest.{keeps_honest}
use Rattle.roster.proofs.MadeByCommands.{stays_honest}
use Rattle.roster.proofs.Sound.{keeps_sound}
use Rattle.roster.proofs.laws.stays_honest.Goals as goal

pub returns : goal.returns
returns c = stays_honest keeps_sound keeps_honest
