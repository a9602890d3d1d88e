use Rattle.std.proofs.lemmas.Result.{IfErr-weaker, IfOk-weaker}
use Rattle.rosterbook.proofs.Answering.{request_checked}
use Rattle.rosterbook.proofs.Checked.{body_stopped}
use Rattle.rosterbook.proofs.check_command.check_json.Goals as goal

pub returns-clause-checked : goal.returns-clause-checked
returns-clause-checked g c =
    let body = c.in_ok-body.body.items in
    IfOk-weaker c.check_body.result _ _
    (λ status it. request_checked g.S.Store c.args.book.now c.check_body.new.book _ _ _ body it.answer status c.in_ok-body.ensures it.asked it.ends it.printed)
    (rw c.deref.ensures.value at c.check_body.ensures.told)

pub returns-clause-stopped : goal.returns-clause-stopped
returns-clause-stopped g c =
    let body = c.in_ok-body.body.items in
    IfErr-weaker c.check_body.result _ _
    (λ stop it. body_stopped g.S.Store c.args.book.now c.check_body.new.book _ _ body stop it)
    (rw c.deref.ensures.value at c.check_body.ensures.untold)
