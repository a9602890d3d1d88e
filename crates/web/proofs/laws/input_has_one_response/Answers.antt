use Rattle.web.proofs.OneResponse.{one_response}
use Rattle.web.proofs.laws.input_has_one_response.Goals as goal

pub returns : goal.returns
returns c = one_response
