use Rattle.std.proofs.Common.{inl, []}
use Rattle.std.proofs.lemmas.Result.{IfOk-weaker}
use Rattle.rosterbook.proofs.ByFiles.{import_left, imported_at, no_session, none_left, refused_as, session}
use Rattle.rosterbook.proofs.import_command.answer_import.Goals as goal

pub returns-in-Ok-clause-done : goal.returns-in-Ok-clause-done
returns-in-Ok-clause-done g c =
    IfOk-weaker c.import_csv-done.result _ _
    (imported_at _ c.in-Ok.book c.import_csv-done.new.book c.close.result c.in-Ok.ensures.means c.close.ensures.disk c.close.ensures.kept c.args.number _ _ _ _ _)
    c.import_csv-done.ensures.imported

pub returns-in-Ok-clause-left : goal.returns-in-Ok-clause-left
returns-in-Ok-clause-left g c =
    import_left _ c.in-Ok.book c.import_csv-done.new.book c.close.result c.in-Ok.ensures.means c.close.ensures.disk c.close.ensures.crash c.args.number _ _ _ _ _
    c.import_csv-done.result c.import_csv-done.ensures.imported c.import_csv-done.ensures.stopped

pub returns-in-Err-clause-left : goal.returns-in-Err-clause-left
returns-in-Err-clause-left g c = inl (none_left _ _ c.of_refusal.ensures.left [])

pub returns-in-Err-clause-refused : goal.returns-in-Err-clause-refused
returns-in-Err-clause-refused g c = refused_as _ _ c.of_refusal.ensures.left c.in-Err.refused.fault c.in-Err.refused.left _ _ c.of_refusal.ensures.refused c.of_refusal.ensures.done c.in-Err.ensures.refused

pub returns-in-Ok-clause-session : goal.returns-in-Ok-clause-session
returns-in-Ok-clause-session g c = (
  c.in-Ok.book,
  c.import_csv-done.new.book,
  session _ c.in-Ok.book c.import_csv-done.new.book c.close.result c.in-Ok.ensures.means c.close.ensures.disk c.close.ensures.crash c.in-Ok.ensures.fresh c.import_csv-done.ensures.calls,
)

pub returns-in-Err-clause-session : goal.returns-in-Err-clause-session
returns-in-Err-clause-session g c = no_session _ _ c.of_refusal.ensures.left
