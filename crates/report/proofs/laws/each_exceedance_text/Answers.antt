use Rattle.report.proofs.EachText.{each_exceedance_text}
use Rattle.report.proofs.laws.each_exceedance_text.Goals as goal

pub returns : goal.returns
returns c = each_exceedance_text
