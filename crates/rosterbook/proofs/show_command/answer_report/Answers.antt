use Rattle.rosterbook.proofs.ByFiles.{left_as_found, no_session, none_let_go, refused_as, session, shown_at}
use Rattle.rosterbook.proofs.show_command.answer_report.Goals as goal

pub returns-in-Ok-clause-done : goal.returns-in-Ok-clause-done
returns-in-Ok-clause-done g c =
    shown_at _ c.in-Ok.book c.show_text-done.new.book c.leave.result c.in-Ok.ensures.means c.leave.ensures.disk c.leave.ensures.kept _ _ _ _ _ _
    c.show_text-done.result c.show_text-done.ensures.some c.show_text-done.ensures.told c.show_text-done.ensures.kept

pub returns-in-Ok-clause-left : goal.returns-in-Ok-clause-left
returns-in-Ok-clause-left g c = (
  left_as_found _ c.in-Ok.book c.show_text-done.new.book c.leave.result c.in-Ok.ensures.means c.leave.ensures.disk c.leave.ensures.crash c.show_text-done.ensures.kept,
  c.leave.ensures.unclosed,
)

pub returns-in-Err-clause-left : goal.returns-in-Err-clause-left
returns-in-Err-clause-left g c = none_let_go _ _ c.of_refusal.ensures.left

pub returns-in-Err-clause-refused : goal.returns-in-Err-clause-refused
returns-in-Err-clause-refused g c = refused_as _ _ c.of_refusal.ensures.left c.in-Err.refused.fault c.in-Err.refused.left _ _ c.of_refusal.ensures.refused c.of_refusal.ensures.done c.in-Err.ensures.refused

pub returns-in-Ok-clause-session : goal.returns-in-Ok-clause-session
returns-in-Ok-clause-session g c = (
  c.in-Ok.book,
  c.show_text-done.new.book,
  session _ c.in-Ok.book c.show_text-done.new.book c.leave.result c.in-Ok.ensures.means c.leave.ensures.disk c.leave.ensures.crash c.in-Ok.ensures.fresh c.show_text-done.ensures.calls,
)

pub returns-in-Err-clause-session : goal.returns-in-Err-clause-session
returns-in-Err-clause-session g c = no_session _ _ c.of_refusal.ensures.left
