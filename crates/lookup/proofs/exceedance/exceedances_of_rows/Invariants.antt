use Rattle.lookup.specs.Recorded.{AreRead}
use Rattle.lookup.proofs.exceedance.exceedances_of_rows.Given as goal

abbrev pub invariant-loop-row : goal.invariant-loop-row
invariant-loop-row l = AreRead l.records l.row-index l.all
