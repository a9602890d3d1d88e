use Rattle.std.proofs.Common.{subst, sym}
use Rattle.report.proofs.BoardLemmas.{IsCutAt, day_cut}
use Rattle.report.proofs.board.day.Goals as goal

pub truncate-requires : goal.truncate-requires
truncate-requires c = λ _. subst (λ bytes. IsCutAt bytes 10) (sym c.in_ok-text.ensures) (day_cut c.args.minute)
