use Rattle.std.proofs.Common.{take}
use Rattle.book.specs.Answered.{IsAnswered}
use Rattle.book.specs.Calls.{IsAfterCalls}
use Rattle.asking.proofs.LinesTaken.{AreSoFar, asked_of}
use Rattle.asking.proofs.lines.ask_each.Given as goal

abbrev pub invariant-loop-line : goal.invariant-loop-line
invariant-loop-line g l = record {
  so_far : AreSoFar (IsAnswered g.S.Store) l.fn.book (asked_of (take l.line-index l.lines)) l.book l.answers;
  calls : IsAfterCalls g.S.Store l.fn.book l.book;
}
