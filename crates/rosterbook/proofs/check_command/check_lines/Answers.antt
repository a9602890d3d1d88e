use Rattle.std.proofs.Common.{◌++◌, ◌∙◌, ◌∷◌, [], refl, subst, sym, vec_items}
use Rattle.book.proofs.CallLemmas.{no_calls, then_calls}
use Rattle.asking.specs.Lines.{not_empty}
use Rattle.rosterbook.specs.Showing.{IsShowStopped}
use Rattle.rosterbook.specs.declared.status.Status.TheVariants.{Done}
use Rattle.rosterbook.proofs.LinesChecked.{lines_checked, none_checked}
use Rattle.rosterbook.proofs.LinesRead.{all_read, first_read, none_read, none_so_far, one_more}
use Rattle.rosterbook.proofs.Showing.{not_of_book}
use Rattle.rosterbook.proofs.Stopping.{err_told}
use Rattle.rosterbook.proofs.check_command.check_lines.Goals as goal

pub loop-line-init : goal.loop-line-init
loop-line-init g c = record {
  feed = rw c.into_iter-line-iterator.ensures.into_iter_gives c.split-line-items.ensures.byte;
  lines = [];
  read = none_so_far _ _ _ _ c.in_ok-reader.ensures.capacity c.in_ok-reader.ensures.empty
      (rw c.into_iter-line-iterator.ensures.into_iter_gives (rw c.in_ok-reader.ensures.inner at c.split-line-items.ensures.bytes));
  checked = none_checked g.S.Store c.args.book.now _;
  calls = no_calls g.S.Store refl;
}

pub loop-line-preserved : goal.loop-line-preserved
loop-line-preserved g c =
    let so_far = c.loop-line.invariant in
    let more = not_empty (vec_items c.in_ok-line.line ∷ []) in
    let step = rw c.in_ok-line.was at c.in-Some.ensures.steps in
    record {
      feed = step.1 ∙ so_far.feed;
      lines = so_far.lines ++ more;
      read = one_more _ (vec_items c.in_ok-line.line) _ _ _ so_far.lines so_far.feed step.2 so_far.read;
      checked = lines_checked g.S.Store c.args.book.now c.loop-line.book c.check_line.new.book _ _ _ so_far.lines more c.loop-line.status _ _ so_far.checked
          (rw c.deref.ensures.value at c.in_ok-check_line.ensures.checked) c.status_after-status.ensures;
      calls = then_calls g.S.Store so_far.calls c.check_line.ensures.calls;
    }

-- all lines were read
pub returns-clause-checked : goal.returns-clause-checked
returns-clause-checked g c =
    let so_far = c.loop-line.invariant in
    (so_far.lines, all_read _ _ so_far.lines c.in-None.ensures.steps.2 so_far.read, so_far.checked)

pub returns-clause-kept : goal.returns-clause-kept
returns-clause-kept g c = c.loop-line.invariant.checked.left

-- (there is no memory to read lines)
pub returns-in_err-reader-clause-stopped : goal.returns-in_err-reader-clause-stopped
returns-in_err-reader-clause-stopped g c =
    err_told c.from_residual.result _ _ c.from_residual.ensures.1
    (λ stop which. ([], none_read _, (c.args.book.now, _, Done, none_checked g.S.Store c.args.book.now _, not_of_book c.args.book.now _ _ stop which)))

-- (a line can't be read)
pub returns-in_err-line-clause-stopped : goal.returns-in_err-line-clause-stopped
returns-in_err-line-clause-stopped g c =
    let so_far = c.loop-line.invariant in
    err_told c.from_residual-in_err-line.result _ _ c.from_residual-in_err-line.ensures.1
    (λ stop which. (so_far.lines, first_read _ _ so_far.lines so_far.read, (c.loop-line.book, _, c.loop-line.status, so_far.checked, not_of_book c.loop-line.book _ _ stop which)))

pub returns-in_err-line-clause-calls : goal.returns-in_err-line-clause-calls
returns-in_err-line-clause-calls g c = c.loop-line.invariant.calls

pub returns-in_err-line-clause-kept : goal.returns-in_err-line-clause-kept
returns-in_err-line-clause-kept g c = c.loop-line.invariant.checked.left

-- (the book or the writer stops the program)
pub returns-in_err-check_line-clause-stopped : goal.returns-in_err-check_line-clause-stopped
returns-in_err-check_line-clause-stopped g c =
    let so_far = c.loop-line.invariant in
    let stopped = c.in_err-check_line.ensures.stopped in
    err_told c.from_residual-in_err-check_line.result _ _ c.from_residual-in_err-check_line.ensures.1 (λ stop is. (
      so_far.lines,
      first_read _ _ so_far.lines so_far.read,
      (c.loop-line.book, _, c.loop-line.status, so_far.checked, subst (IsShowStopped c.check_line.new.book _ _) (sym is) stopped),
    ))

pub returns-in_err-check_line-clause-calls : goal.returns-in_err-check_line-clause-calls
returns-in_err-check_line-clause-calls g c = then_calls g.S.Store c.loop-line.invariant.calls c.check_line.ensures.calls

pub returns-in_err-check_line-clause-kept : goal.returns-in_err-check_line-clause-kept
returns-in_err-check_line-clause-kept g c s at = c.check_line.ensures.kept s (c.loop-line.invariant.checked.left s at)
