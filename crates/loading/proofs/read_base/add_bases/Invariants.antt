use Rattle.loading.specs.Reading.{BasesRead}
use Rattle.loading.proofs.read_base.add_bases.Given as goal

abbrev pub invariant-loop-row : goal.invariant-loop-row
invariant-loop-row l = BasesRead l.records l.row-index l.fn.roster l.roster
