use Rattle.std.proofs.Common.{◌++◌, ◌∙◌, ◌∷◌, [], inl, inr, refl, vec_items}
use Rattle.book.proofs.CallLemmas.{no_calls, then_calls}
use Rattle.asking.specs.Lines.{not_empty}
use Rattle.rosterbook.specs.declared.status.Status.TheVariants.{Done}
use Rattle.rosterbook.proofs.LinesAnswered.{lines_answered, lines_stopped, none_answered}
use Rattle.rosterbook.proofs.LinesRead.{all_read, first_read, none_read, none_so_far, one_more}
use Rattle.rosterbook.proofs.Stopping.{err_told}
use Rattle.rosterbook.proofs.lines_command.ask_lines.Goals as goal

pub loop-line-init : goal.loop-line-init
loop-line-init g c = record {
  feed = rw c.into_iter-line-iterator.ensures.into_iter_gives c.split-line-items.ensures.byte;
  lines = [];
  read = none_so_far _ _ _ _ c.in_ok-reader.ensures.capacity c.in_ok-reader.ensures.empty
      (rw c.into_iter-line-iterator.ensures.into_iter_gives (rw c.in_ok-reader.ensures.inner at c.split-line-items.ensures.bytes));
  answered = none_answered g.S.Store c.args.book.now _;
  calls = no_calls g.S.Store refl;
}

pub loop-line-preserved : goal.loop-line-preserved
loop-line-preserved g c =
    let so_far = c.loop-line.invariant in
    let more = not_empty (vec_items c.in_ok-line.line ∷ []) in
    let step = rw c.in_ok-line.was at c.in-Some.ensures.steps in
    record {
      feed = step.1 ∙ so_far.feed;
      lines = so_far.lines ++ more;
      read = one_more _ (vec_items c.in_ok-line.line) _ _ _ so_far.lines so_far.feed step.2 so_far.read;
      answered = lines_answered g.S.Store c.args.book.now c.loop-line.book c.ask_line.new.book _ _ _ so_far.lines more c.loop-line.status so_far.answered _ _
          (rw c.deref.ensures.value at c.in_ok-ask_line.ensures.answered) c.status_after-status.ensures;
      calls = then_calls g.S.Store so_far.calls c.ask_line.ensures.calls;
    }

-- all lines were read
pub returns-clause-answered : goal.returns-clause-answered
returns-clause-answered g c =
    let so_far = c.loop-line.invariant in
    (so_far.lines, all_read _ _ so_far.lines c.in-None.ensures.steps.2 so_far.read, so_far.answered)

-- (there is no memory to read lines)
pub returns-in_err-reader-clause-stopped : goal.returns-in_err-reader-clause-stopped
returns-in_err-reader-clause-stopped g c =
    err_told c.from_residual.result _ _ c.from_residual.ensures.1
    (λ stop which. ([], none_read _, inl (which, (Done, none_answered g.S.Store c.args.book.now _))))

-- (a line can't be read)
pub returns-in_err-line-clause-stopped : goal.returns-in_err-line-clause-stopped
returns-in_err-line-clause-stopped g c =
    let so_far = c.loop-line.invariant in
    err_told c.from_residual-in_err-line.result _ _ c.from_residual-in_err-line.ensures.1
    (λ stop which. (so_far.lines, first_read _ _ so_far.lines so_far.read, inl (which, (c.loop-line.status, so_far.answered))))

pub returns-in_err-line-clause-calls : goal.returns-in_err-line-clause-calls
returns-in_err-line-clause-calls g c = c.loop-line.invariant.calls

-- (the book or the writer stops the program)
pub returns-in_err-ask_line-clause-stopped : goal.returns-in_err-ask_line-clause-stopped
returns-in_err-ask_line-clause-stopped g c =
    let so_far = c.loop-line.invariant in
    let more = not_empty (vec_items c.in_ok-line.line ∷ []) in
    let step = rw c.in_ok-line.was at c.in-Some.ensures.steps in
    let stopped = rw c.deref.ensures.value at c.in_err-ask_line.ensures.stopped in
    err_told c.from_residual-in_err-ask_line.result _ _ c.from_residual-in_err-ask_line.ensures.1 (λ stop is. (
      so_far.lines ++ more,
      first_read _ _ (so_far.lines ++ more) (one_more _ (vec_items c.in_ok-line.line) _ _ _ so_far.lines so_far.feed step.2 so_far.read),
      inr (lines_stopped g.S.Store c.args.book.now c.loop-line.book c.ask_line.new.book _ _ _ so_far.lines more c.loop-line.status so_far.answered stop (rw is stopped)),
    ))

pub returns-in_err-ask_line-clause-calls : goal.returns-in_err-ask_line-clause-calls
returns-in_err-ask_line-clause-calls g c = then_calls g.S.Store c.loop-line.invariant.calls c.ask_line.ensures.calls
