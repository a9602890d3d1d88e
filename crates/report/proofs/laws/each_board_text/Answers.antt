use Rattle.report.proofs.EachText.{each_board_text}
use Rattle.report.proofs.laws.each_board_text.Goals as goal

pub returns : goal.returns
returns c = each_board_text
