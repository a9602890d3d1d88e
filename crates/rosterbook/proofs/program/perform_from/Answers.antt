use Rattle.rosterbook.proofs.Performing.{performed_so, refused_finished}
use Rattle.rosterbook.proofs.program.perform_from.Goals as goal

pub returns-clause-by_files : goal.returns-clause-by_files
returns-clause-by_files g c =
    performed_so _ c.answer_action.result.left c.finish.result.left c.finish.ensures.left g.E.Write.contents c.args.action.now _ _ _ _ c.answer_action.result.done _ c.answer_action.new.err _
    c.finish.ensures.done c.finish.ensures.failed c.answer_action.ensures.done

pub returns-clause-left : goal.returns-clause-left
returns-clause-left g c = rw c.finish.ensures.left c.answer_action.ensures.left

pub returns-clause-session : goal.returns-clause-session
returns-clause-session g c = rw c.finish.ensures.left c.answer_action.ensures.session

pub returns-clause-refused : goal.returns-clause-refused
returns-clause-refused g c =
    refused_finished _ c.answer_action.result.left c.finish.result.left c.finish.ensures.left g.O.Write.contents g.E.Write.contents c.answer_action.result.refused c.finish.result.refused c.answer_action.result.done _ _ c.args.out.now _ c.args.err.now _ _
    c.finish.ensures.refused c.answer_action.ensures.refused c.answer_action.ensures.silent
    c.finish.ensures.failed c.finish.ensures.told
