use Rattle.report.proofs.OneText.{one_pairings_text}
use Rattle.report.proofs.laws.one_pairings_text.Goals as goal

pub returns : goal.returns
returns c = one_pairings_text
