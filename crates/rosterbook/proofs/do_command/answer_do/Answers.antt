use Rattle.rosterbook.proofs.ByFiles.{answered_at, input_left, no_input_left, no_session, refused_as, session}
use Rattle.rosterbook.proofs.do_command.answer_do.Goals as goal

pub returns-in-Ok-clause-done : goal.returns-in-Ok-clause-done
returns-in-Ok-clause-done g c err =
    answered_at _ c.in-Ok.book c.ask_input-done.new.book c.let_go.result c.in-Ok.ensures.means c.let_go.ensures.disk c.let_go.ensures.kept c.args.dry_run c.args.lines _ _ _ err
    c.ask_input-done.result c.ask_input-done.ensures.answered

pub returns-in-Ok-clause-left : goal.returns-in-Ok-clause-left
returns-in-Ok-clause-left g c =
    input_left _ c.in-Ok.book c.ask_input-done.new.book c.let_go.result c.in-Ok.ensures.means c.let_go.ensures.disk c.let_go.ensures.crash c.args.dry_run c.args.lines _ _ _
    c.ask_input-done.result c.ask_input-done.ensures.answered c.ask_input-done.ensures.stopped c.ask_input-done.ensures.kept c.let_go.ensures.unclosed

pub returns-in-Err-clause-left : goal.returns-in-Err-clause-left
returns-in-Err-clause-left g c = no_input_left _ _ c.of_refusal.ensures.left c.args.dry_run c.args.lines _

pub returns-in-Err-clause-refused : goal.returns-in-Err-clause-refused
returns-in-Err-clause-refused g c = refused_as _ _ c.of_refusal.ensures.left c.in-Err.refused.fault c.in-Err.refused.left _ _ c.of_refusal.ensures.refused c.of_refusal.ensures.done c.in-Err.ensures.refused

pub returns-in-Ok-clause-session : goal.returns-in-Ok-clause-session
returns-in-Ok-clause-session g c = (
  c.in-Ok.book,
  c.ask_input-done.new.book,
  session _ c.in-Ok.book c.ask_input-done.new.book c.let_go.result c.in-Ok.ensures.means c.let_go.ensures.disk c.let_go.ensures.crash c.in-Ok.ensures.fresh c.ask_input-done.ensures.calls,
)

pub returns-in-Err-clause-session : goal.returns-in-Err-clause-session
returns-in-Err-clause-session g c = no_session _ _ c.of_refusal.ensures.left
