use Rattle.lookup.proofs.BaseLemmas.{HaveNoHome}
use Rattle.lookup.proofs.bases.home_of_rows.Given as goal

abbrev pub invariant-loop-row : goal.invariant-loop-row
invariant-loop-row l = HaveNoHome l.records l.row-index
