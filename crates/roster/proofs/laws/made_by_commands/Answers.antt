use Rattle.roster.proofs.KeepsHonest.{keeps_honest}
use Rattle.roster.proofs.MadeByCommands.{made_by_commands}
use Rattle.roster.proofs.Sound.{keeps_sound}
use Rattle.roster.proofs.laws.made_by_commands.Goals as goal

pub returns : goal.returns
returns c = made_by_commands keeps_sound keeps_honest
