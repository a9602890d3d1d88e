use Rattle.loading.specs.Reading.{GroundsRead}
use Rattle.loading.proofs.read_grounds.add_grounds.Given as goal

abbrev pub invariant-loop-row : goal.invariant-loop-row
invariant-loop-row l = GroundsRead l.records l.row-index l.fn.roster l.roster
