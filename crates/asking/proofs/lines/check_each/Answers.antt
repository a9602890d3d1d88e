use Rattle.std.proofs.Common.{◌≡◌, ◌∙◌, ◌+◌, [], Ok, Err, ap, arith, drop, refl, subst, sym, take, take_all}
use Rattle.std.proofs.lemmas.Result.{err_from_is_err_and}
use Rattle.book.proofs.CallLemmas.{then_calls}
use Rattle.asking.specs.Lines.{AreTaken}
use Rattle.asking.specs.Requests.{HasChecked}
use Rattle.asking.specs.declared.answers.AskFault.TheVariants.{Memory}
use Rattle.asking.proofs.LinesTaken.{AreSoFar, all_told, asked_around, asked_of, asked_up_to, body_answered, body_checked, body_unanswered, no_memory_at_end, no_memory_at_once, one_more_so_far, untold}
use Rattle.asking.proofs.lines.check_each.Goals as goal

pub loop-line-preserved : goal.loop-line-preserved
loop-line-preserved g c =
    let lines = c.args.lines.now in
    let i = c.loop-line.line-index in
    let first = asked_of (take i lines) in
    let was = c.loop-line.invariant.so_far in
    let taken = body_answered (HasChecked g.S.Store) c.args.book.now c.loop-line.book c.check_request.new.book first [] c.loop-line.answers was _ c.in_ok-answer.answer (body_checked g.S.Store c.loop-line.book c.check_request.new.book _ (Ok c.in_ok-answer.answer) c.in_ok-answer.ensures.checked) in
    record {
      so_far = subst (λ l. AreSoFar (HasChecked g.S.Store) c.args.book.now l c.check_request.new.book c.add.new.self) (sym (asked_up_to lines i _ c.loop-line-test.true c.if-is_empty.ensures))
          (one_more_so_far (HasChecked g.S.Store) c.args.book.now c.loop-line.book c.check_request.new.book first _ c.in_ok-answer.answer c.loop-line.answers c.add.new.self was taken (rw c.deref.ensures at c.in_ok-add.ensures));
      calls = then_calls g.S.Store c.loop-line.invariant.calls c.check_request.ensures.calls;
    }

-- there is no memory to begin the text
pub returns-in_err-answers-clause-checked : goal.returns-in_err-answers-clause-checked
returns-in_err-answers-clause-checked g c =
    let requests = asked_of c.args.lines.now in
    let err = err_from_is_err_and c.from_residual.result c.from_residual.ensures.1 in
    subst (AreTaken (HasChecked g.S.Store) c.args.book.now c.args.book.now requests) (sym (err.1 ∙ ap Err err.2))
    (no_memory_at_once (HasChecked g.S.Store) c.args.book.now requests)

-- a line has no answer
pub returns-in_err-answer : goal.returns-in_err-answer
returns-in_err-answer g c =
    let lines = c.args.lines.now in
    let i = c.loop-line.line-index in
    let first = asked_of (take i lines) in
    let rest = asked_of (drop (i + 1) lines) in
    let err = err_from_is_err_and c.from_residual-in_err-answer.result c.from_residual-in_err-answer.ensures.1 in
    let fault = c.in_err-answer.field-0.0 in
    let is : c.from_residual-in_err-answer.result ≡ Err fault = err.1 ∙ ap Err err.2 in
    record {
      checked = subst (AreTaken (HasChecked g.S.Store) c.args.book.now c.check_request.new.book (asked_of lines)) (sym is)
          (subst (λ l. AreTaken (HasChecked g.S.Store) c.args.book.now c.check_request.new.book l (Err fault)) (sym (asked_around lines i _ c.loop-line-test.true c.if-is_empty.ensures))
          (body_unanswered (HasChecked g.S.Store) c.args.book.now c.loop-line.book c.check_request.new.book first rest c.loop-line.answers c.loop-line.invariant.so_far _ fault (body_checked g.S.Store c.loop-line.book c.check_request.new.book _ (Err fault) c.in_err-answer.ensures.checked)));
      calls = then_calls g.S.Store c.loop-line.invariant.calls c.check_request.ensures.calls;
    }

-- there is no memory to tell of one
pub returns-in_err-add : goal.returns-in_err-add
returns-in_err-add g c =
    let lines = c.args.lines.now in
    let i = c.loop-line.line-index in
    let first = asked_of (take i lines) in
    let rest = asked_of (drop (i + 1) lines) in
    let err = err_from_is_err_and c.from_residual-in_err-add.result c.from_residual-in_err-add.ensures.1 in
    let taken = body_answered (HasChecked g.S.Store) c.args.book.now c.loop-line.book c.check_request.new.book first [] c.loop-line.answers c.loop-line.invariant.so_far _ c.in_ok-answer.answer (body_checked g.S.Store c.loop-line.book c.check_request.new.book _ (Ok c.in_ok-answer.answer) c.in_ok-answer.ensures.checked) in
    record {
      checked = subst (AreTaken (HasChecked g.S.Store) c.args.book.now c.check_request.new.book (asked_of lines)) (sym (err.1 ∙ ap Err err.2))
          (subst (λ l. AreTaken (HasChecked g.S.Store) c.args.book.now c.check_request.new.book l (Err Memory)) (sym (asked_around lines i _ c.loop-line-test.true c.if-is_empty.ensures))
          (untold (HasChecked g.S.Store) c.args.book.now c.loop-line.book c.check_request.new.book first _ rest c.loop-line.answers c.loop-line.invariant.so_far c.in_ok-answer.answer taken));
      calls = then_calls g.S.Store c.loop-line.invariant.calls c.check_request.ensures.calls;
    }

-- there is none to end the text
pub returns-in_err-end : goal.returns-in_err-end
returns-in_err-end g c =
    let lines = c.args.lines.now in
    let all : take c.loop-line.line-index lines ≡ lines = take_all c.loop-line.line-index lines (omega (arith, c.loop-line-test.false)) in
    let err = err_from_is_err_and c.from_residual-in_err-end.result c.from_residual-in_err-end.ensures.1 in
    record {
      checked = subst (AreTaken (HasChecked g.S.Store) c.args.book.now c.loop-line.book (asked_of lines)) (sym (err.1 ∙ ap Err err.2))
          (no_memory_at_end (HasChecked g.S.Store) c.args.book.now c.loop-line.book c.loop-line.book (asked_of lines) c.loop-line.answers
          (subst (λ l. AreSoFar (HasChecked g.S.Store) c.args.book.now (asked_of l) c.loop-line.book c.loop-line.answers) all c.loop-line.invariant.so_far) refl);
      calls = c.loop-line.invariant.calls;
    }

-- all were told of
pub returns : goal.returns
returns g c =
    let lines = c.args.lines.now in
    let all : take c.loop-line.line-index lines ≡ lines = take_all c.loop-line.line-index lines (omega (arith, c.loop-line-test.false)) in
    record {
      checked = all_told (HasChecked g.S.Store) c.args.book.now c.loop-line.book c.loop-line.book (asked_of lines) c.loop-line.answers c.in_ok-end.field-0
          (subst (λ l. AreSoFar (HasChecked g.S.Store) c.args.book.now (asked_of l) c.loop-line.book c.loop-line.answers) all c.loop-line.invariant.so_far) refl c.in_ok-end.ensures;
      calls = c.loop-line.invariant.calls;
    }
