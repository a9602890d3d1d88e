use Rattle.std.proofs.lemmas.Result.{IfErr-weaker, IfOk-weaker}
use Rattle.rosterbook.proofs.Checked.{body_stopped}
use Rattle.rosterbook.proofs.LinesChecked.{body_checked, none_checked}
use Rattle.rosterbook.proofs.LinesRead.{no_line, one_line}
use Rattle.rosterbook.proofs.check_command.check_line.Goals as goal

pub returns-then-is_empty-clause-checked : goal.returns-then-is_empty-clause-checked
returns-then-is_empty-clause-checked g c = rw (no_line c.args.line.now c.if-is_empty.ensures) (none_checked g.S.Store c.args.book.now _)

pub returns-clause-checked : goal.returns-clause-checked
returns-clause-checked g c =
    rw (one_line c.args.line.now c.if-is_empty.ensures)
    (IfOk-weaker c.check_body.result _ _ (λ status it. body_checked g.S.Store c.args.book.now _ _ _ c.args.line.now status it) c.check_body.ensures.told)

pub returns-clause-stopped : goal.returns-clause-stopped
returns-clause-stopped g c =
    IfErr-weaker c.check_body.result _ _ (λ stop it. body_stopped g.S.Store c.args.book.now _ _ _ c.args.line.now stop it) c.check_body.ensures.untold
