use Rattle.lookup.specs.Bases.{AreFirstBases}
use Rattle.lookup.proofs.bases.bases_of_rows.Given as goal

abbrev pub invariant-loop-row : goal.invariant-loop-row
invariant-loop-row l = AreFirstBases l.records l.row-index l.all
