use Rattle.roster.proofs.Requests.{repeats_both}
use Rattle.roster.proofs.laws.repeats.Goals as goal

pub returns : goal.returns
returns c = repeats_both
