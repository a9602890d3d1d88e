use Rattle.std.proofs.Common.{inl, inr, refl}
use Rattle.rosterbook.proofs.Checked.{check_kept}
use Rattle.rosterbook.proofs.Stopping.{err_told}
use Rattle.rosterbook.proofs.check_command.check_body.Goals as goal

pub returns-clause-told : goal.returns-clause-told
returns-clause-told g c = record {
  answer = c.in_ok-answer.answer;
  asked = c.in_ok-answer.ensures.checked;
  ends = c.status_of.ensures;
  printed = rw c.deref.ensures at c.in_ok-write_line.ensures;
}

pub returns-clause-kept : goal.returns-clause-kept
returns-clause-kept g c = check_kept g.S.Store c.args.book.now c.check_request.new.book c.args.body.now _ c.in_ok-answer.ensures.checked

pub returns-in_err-answer-clause-untold : goal.returns-in_err-answer-clause-untold
returns-in_err-answer-clause-untold g c =
    err_told c.from_residual.result _ _ c.from_residual.ensures.1
    (λ stop is. inl (c.in_err-answer.field-0.0, c.in_err-answer.ensures.checked, is, refl))

pub returns-in_err-answer-clause-kept : goal.returns-in_err-answer-clause-kept
returns-in_err-answer-clause-kept g c = check_kept g.S.Store c.args.book.now c.check_request.new.book c.args.body.now _ c.in_err-answer.ensures.checked

pub returns-in_err-write_line-clause-untold : goal.returns-in_err-write_line-clause-untold
returns-in_err-write_line-clause-untold g c =
    err_told c.from_residual-in_err-write_line.result _ _ c.from_residual-in_err-write_line.ensures.1
    (λ stop which. inr (c.in_ok-answer.answer, c.in_ok-answer.ensures.checked, which))

pub returns-in_err-write_line-clause-kept : goal.returns-in_err-write_line-clause-kept
returns-in_err-write_line-clause-kept g c = check_kept g.S.Store c.args.book.now c.check_request.new.book c.args.body.now _ c.in_ok-answer.ensures.checked
