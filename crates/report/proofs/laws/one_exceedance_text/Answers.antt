use Rattle.report.proofs.OneText.{one_exceedance_text}
use Rattle.report.proofs.laws.one_exceedance_text.Goals as goal

pub returns : goal.returns
returns c = one_exceedance_text
