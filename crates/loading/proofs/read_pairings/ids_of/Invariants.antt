use Rattle.loading.specs.PlanTables.{IdsRead}
use Rattle.loading.proofs.read_pairings.ids_of.Given as goal

abbrev pub invariant-loop-row : goal.invariant-loop-row
invariant-loop-row l = IdsRead l.records l.row-index l.ids
