use Rattle.asking.proofs.CountTexts.{each_has_count_text}
use Rattle.asking.proofs.laws.each_has_count_text.Goals as goal

pub returns : goal.returns
returns c = each_has_count_text
