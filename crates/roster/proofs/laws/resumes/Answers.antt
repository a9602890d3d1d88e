use Rattle.roster.proofs.Resuming.{resumes}
use Rattle.roster.proofs.laws.resumes.Goals as goal

pub returns : goal.returns
returns c = resumes
