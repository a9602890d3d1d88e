use Rattle.std.proofs.lemmas.Result.{IfErr-weaker, IfOk-weaker}
use Rattle.rosterbook.proofs.Answering.{request_answered}
use Rattle.rosterbook.proofs.Stopping.{body_stopped}
use Rattle.rosterbook.proofs.do_command.ask_json.Goals as goal

pub returns-clause-asked : goal.returns-clause-asked
returns-clause-asked g c =
    let body = c.in_ok-body.body.items in
    IfOk-weaker c.ask_body.result _ _
    (λ status it. request_answered g.S.Store c.args.book.now c.ask_body.new.book _ _ _ body it.answer status c.in_ok-body.ensures it.asked it.ends it.printed)
    (rw c.deref.ensures.value at c.ask_body.ensures.told)

pub returns-clause-stopped : goal.returns-clause-stopped
returns-clause-stopped g c =
    let body = c.in_ok-body.body.items in
    IfErr-weaker c.ask_body.result _ _
    (λ stop it. body_stopped g.S.Store c.args.book.now c.ask_body.new.book _ _ _ body stop c.in_ok-body.ensures it)
    (rw c.deref.ensures.value at c.ask_body.ensures.untold)
