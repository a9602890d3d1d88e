use Rattle.roster.proofs.Requests.{keeps_requests}
use Rattle.roster.proofs.laws.keeps_requests.Goals as goal

pub returns : goal.returns
returns c = keeps_requests
