use Rattle.asking.proofs.CountTexts.{one_count_text}
use Rattle.asking.proofs.laws.one_count_text.Goals as goal

pub returns : goal.returns
returns c = one_count_text
