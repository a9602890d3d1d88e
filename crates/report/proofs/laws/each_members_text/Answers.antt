use Rattle.report.proofs.EachText.{each_members_text}
use Rattle.report.proofs.laws.each_members_text.Goals as goal

pub returns : goal.returns
returns c = each_members_text
