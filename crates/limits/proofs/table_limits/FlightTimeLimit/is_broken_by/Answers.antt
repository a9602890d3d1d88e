use Rattle.limits.specs.Laws.TableRules.{table_a_decides}
use Rattle.limits.proofs.table_limits.FlightTimeLimit.is_broken_by.Goals as goal

pub returns : goal.returns
returns c = rw (c.any_duty.ensures, c.duties.ensures) (table_a_decides c.args._history.now c.args.new.now)
