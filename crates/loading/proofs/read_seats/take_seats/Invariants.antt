use Rattle.loading.specs.Reading.{SeatsRead}
use Rattle.loading.proofs.read_seats.take_seats.Given as goal

abbrev pub invariant-loop-row : goal.invariant-loop-row
invariant-loop-row l = SeatsRead l.records l.row-index l.fn.roster l.roster
