use Rattle.loading.proofs.ReadBook.{AreSame}
use Rattle.loading.proofs.read_book.only.Given as goal

abbrev pub invariant-loop-other : goal.invariant-loop-other
invariant-loop-other l = AreSame l.records l.other-index l.first
