use Rattle.loading.proofs.OneRefusal.{is_one_refusal}
use Rattle.loading.proofs.laws.one_refusal_is_true.Goals as goal

pub returns : goal.returns
returns c = is_one_refusal
