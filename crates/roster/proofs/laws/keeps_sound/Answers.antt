use Rattle.roster.proofs.Sound.{keeps_sound}
use Rattle.roster.proofs.laws.keeps_sound.Goals as goal

pub returns : goal.returns
returns c = keeps_sound
