use Rattle.report.proofs.OneText.{one_board_text}
use Rattle.report.proofs.laws.one_board_text.Goals as goal

pub returns : goal.returns
returns c = one_board_text
