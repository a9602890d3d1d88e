use Rattle.std.proofs.lemmas.Result.{IfErr-weaker, IfOk-weaker}
use Rattle.rosterbook.proofs.LinesAnswered.{body_answered, body_stopped, none_answered}
use Rattle.rosterbook.proofs.LinesRead.{no_line, one_line}
use Rattle.rosterbook.proofs.lines_command.ask_line.Goals as goal

pub returns-then-is_empty-clause-answered : goal.returns-then-is_empty-clause-answered
returns-then-is_empty-clause-answered g c = rw (no_line c.args.line.now c.if-is_empty.ensures) (none_answered g.S.Store c.args.book.now _)

pub returns-clause-answered : goal.returns-clause-answered
returns-clause-answered g c =
    rw (one_line c.args.line.now c.if-is_empty.ensures)
    (IfOk-weaker c.ask_body.result _ _ (λ status it. body_answered g.S.Store c.args.book.now _ _ _ c.args.line.now status it) c.ask_body.ensures.told)

pub returns-clause-stopped : goal.returns-clause-stopped
returns-clause-stopped g c =
    rw (one_line c.args.line.now c.if-is_empty.ensures)
    (IfErr-weaker c.ask_body.result _ _ (λ stop it. body_stopped g.S.Store c.args.book.now _ _ _ c.args.line.now stop it) c.ask_body.ensures.untold)
