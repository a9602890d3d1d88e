use Rattle.entries.specs.Keyed.{PeriodsRead}
use Rattle.entries.proofs.periods.by_keys.Given as goal

abbrev pub invariant-loop-row : goal.invariant-loop-row
invariant-loop-row l = PeriodsRead l.ids l.records l.row-index l.periods
