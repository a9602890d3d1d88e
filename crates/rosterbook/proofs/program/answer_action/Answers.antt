use Rattle.std.proofs.Common.{refl}
use Rattle.std.proofs.lemmas.Result.{IfOk-weaker}
use Rattle.rosterbook.proofs.Performing.{had_session, not_for_memory, not_unmade, passed_on, silent_as}
use Rattle.rosterbook.proofs.program.answer_action.Goals as goal

pub returns-in-Duty-clause-done : goal.returns-in-Duty-clause-done
returns-in-Duty-clause-done g c =
    rw c.without_files.ensures.done (passed_on _ c.answer_duty.result c.done_of-done.result c.done_of-done.ensures
    (IfOk-weaker c.answer_duty.result _ _ (λ status it other. rw c.in-Duty.is (rw (c.deref.ensures, c.deref-in-Duty.ensures, c.deref-in-Duty-2.ensures.value) at (it other)))
    (not_for_memory _ c.answer_duty.result _ _ _ _ c.answer_duty.ensures)))

pub returns-in-Init-clause-done : goal.returns-in-Init-clause-done
returns-in-Init-clause-done g c =
    IfOk-weaker c.answer_init.result.done _ _ (λ status it other. rw c.in-Init.is (rw c.deref-in-Init-2.ensures at (it other)))
    (not_unmade _ _ c.answer_init.result.done _ _ _ _ _ c.answer_init.ensures.answered c.answer_init.ensures.made)

pub returns-in-Do-clause-done : goal.returns-in-Do-clause-done
returns-in-Do-clause-done g c = IfOk-weaker c.answer_do.result.done _ _ (λ status told _. rw c.in-Do.is told) (c.answer_do.ensures.done _)

pub returns-in-Do-clause-left : goal.returns-in-Do-clause-left
returns-in-Do-clause-left g c = rw c.in-Do.is c.answer_do.ensures.left

pub returns-in-Do-clause-session : goal.returns-in-Do-clause-session
returns-in-Do-clause-session g c = rw c.in-Do.is c.answer_do.ensures.session

pub returns-in-Do-clause-silent : goal.returns-in-Do-clause-silent
returns-in-Do-clause-silent g c = silent_as _ c.answer_do.result.left c.answer_do.result.refused c.answer_do.result.done _ c.answer_do.ensures.refused (λ none. let un = c.answer_do.ensures.unopened none in (un.2, refl))

pub returns-in-Import-clause-done : goal.returns-in-Import-clause-done
returns-in-Import-clause-done g c = IfOk-weaker c.answer_import.result.done _ _ (λ status told _. rw c.in-Import.is told) c.answer_import.ensures.done

pub returns-in-Import-clause-left : goal.returns-in-Import-clause-left
returns-in-Import-clause-left g c = rw c.in-Import.is c.answer_import.ensures.left

pub returns-in-Import-clause-session : goal.returns-in-Import-clause-session
returns-in-Import-clause-session g c = rw c.in-Import.is c.answer_import.ensures.session

pub returns-in-Import-clause-silent : goal.returns-in-Import-clause-silent
returns-in-Import-clause-silent g c = silent_as _ c.answer_import.result.left c.answer_import.result.refused c.answer_import.result.done _ c.answer_import.ensures.refused (λ none. let un = c.answer_import.ensures.unopened none in (un.2, un.3))

pub returns-in-Report-clause-done : goal.returns-in-Report-clause-done
returns-in-Report-clause-done g c = IfOk-weaker c.answer_report.result.done _ _ (λ status told _. rw c.in-Report.is (rw c.as_deref.ensures at told)) c.answer_report.ensures.done

pub returns-in-Report-clause-session : goal.returns-in-Report-clause-session
returns-in-Report-clause-session g c = rw c.in-Report.is c.answer_report.ensures.session

pub returns-in-Report-clause-silent : goal.returns-in-Report-clause-silent
returns-in-Report-clause-silent g c = silent_as _ c.answer_report.result.left c.answer_report.result.refused c.answer_report.result.done _ c.answer_report.ensures.refused (λ none. let un = c.answer_report.ensures.unopened none in (un.1, un.2))

pub returns-in-Serve-clause-done : goal.returns-in-Serve-clause-done
returns-in-Serve-clause-done g c = IfOk-weaker c.answer_serve.result.done _ _ (λ status told _. rw c.in-Serve.is told) c.answer_serve.ensures.served

pub returns-in-Serve-clause-left : goal.returns-in-Serve-clause-left
returns-in-Serve-clause-left g c = rw c.in-Serve.is (had_session _ c.answer_serve.result.left c.answer_serve.result.done _ _ _ _ _ _ c.answer_serve.ensures.served c.answer_serve.ensures.stopped)

pub returns-in-Serve-clause-session : goal.returns-in-Serve-clause-session
returns-in-Serve-clause-session g c = rw c.in-Serve.is (had_session _ c.answer_serve.result.left c.answer_serve.result.done _ _ _ _ _ _ c.answer_serve.ensures.served c.answer_serve.ensures.stopped)

pub returns-in-Serve-clause-silent : goal.returns-in-Serve-clause-silent
returns-in-Serve-clause-silent g c = silent_as _ c.answer_serve.result.left c.answer_serve.result.refused c.answer_serve.result.done _ c.answer_serve.ensures.refused (λ none. let un = c.answer_serve.ensures.unopened none in (un.1, un.2))
