use Rattle.report.proofs.OneText.{one_members_text}
use Rattle.report.proofs.laws.one_members_text.Goals as goal

pub returns : goal.returns
returns c = one_members_text
