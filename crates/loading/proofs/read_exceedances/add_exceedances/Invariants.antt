use Rattle.loading.specs.Reading.{ExceedancesRead}
use Rattle.loading.proofs.read_exceedances.add_exceedances.Given as goal

abbrev pub invariant-loop-row : goal.invariant-loop-row
invariant-loop-row l = ExceedancesRead l.edition l.records l.row-index l.fn.roster l.roster
