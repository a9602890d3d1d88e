use Rattle.std.proofs.Common.{◌≡◌, ℕ, List}
use Rattle.std.specs.Io.Buffered.{reader_remaining}
use Rattle.std.specs.Io.Iter.{split_byte, split_known_bytes}
use Rattle.book.specs.Calls.{IsAfterCalls}
use Rattle.rosterbook.specs.InLines.{AreRequestsChecked}
use Rattle.asking.specs.Lines.{requests_of}
use Rattle.rosterbook.proofs.LinesRead.{AreReadSoFar}
use Rattle.rosterbook.proofs.check_command.check_lines.Given as goal

abbrev pub invariant-loop-line : goal.invariant-loop-line
invariant-loop-line g l = record {
  feed : split_byte l.line-iterator ≡ 10;
  lines : List (List ℕ);
  read : AreReadSoFar (g.R.Read.remaining l.fn.reader) (split_known_bytes (reader_remaining (λ r. g.R.Read.remaining r.now)) l.line-iterator) lines;
  checked : AreRequestsChecked g.S.Store l.fn.book l.book (g.O.Write.contents l.fn.out) (g.O.Write.contents l.out) (requests_of lines) l.status;
  calls : IsAfterCalls g.S.Store l.fn.book l.book;
}
