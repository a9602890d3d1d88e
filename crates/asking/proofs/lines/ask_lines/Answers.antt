use Rattle.std.proofs.Common.{◌∙◌, Err, ap, refl, subst, sym}
use Rattle.std.proofs.lemmas.Result.{err_from_is_err_and}
use Rattle.book.specs.Answered.{IsAnswered}
use Rattle.book.proofs.CallLemmas.{no_calls}
use Rattle.asking.specs.Lines.{AreTaken, not_empty, requests_in, requests_of}
use Rattle.asking.proofs.LinesTaken.{no_memory_at_once}
use Rattle.asking.proofs.lines.ask_lines.Goals as goal

pub returns : goal.returns
returns g c = record {
  asked = subst (λ l. AreTaken (IsAnswered g.S.Store) c.args.book.now c.ask_each.new.book (requests_of (not_empty l)) c.ask_each.result) c.in_ok-lines.ensures (rw c.deref.ensures.value at c.ask_each.ensures.asked);
  calls = c.ask_each.ensures.calls;
}

-- there is no memory for the lines
pub returns-in_err-lines : goal.returns-in_err-lines
returns-in_err-lines g c =
    let err = err_from_is_err_and c.from_residual.result c.from_residual.ensures.1 in
    record {
      asked = subst (AreTaken (IsAnswered g.S.Store) c.args.book.now c.args.book.now (requests_in c.args.body.now)) (sym (err.1 ∙ ap Err err.2)) (no_memory_at_once (IsAnswered g.S.Store) c.args.book.now (requests_in c.args.body.now));
      calls = no_calls g.S.Store refl;
    }
