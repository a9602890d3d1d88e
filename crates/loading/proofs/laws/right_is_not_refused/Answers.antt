use Rattle.loading.proofs.OneRefusal.{is_not_refused}
use Rattle.loading.proofs.laws.right_is_not_refused.Goals as goal

pub returns : goal.returns
returns c = is_not_refused
