use Rattle.loading.specs.OutsideTables.{OutsidesRead}
use Rattle.loading.proofs.read_outside.by_ids.Given as goal

abbrev pub invariant-loop-row : goal.invariant-loop-row
invariant-loop-row l = OutsidesRead l.roster.crew l.records l.row-index l.outsides
