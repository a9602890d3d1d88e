use Rattle.report.proofs.EachText.{each_pairings_text}
use Rattle.report.proofs.laws.each_pairings_text.Goals as goal

pub returns : goal.returns
returns c = each_pairings_text
