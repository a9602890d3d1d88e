use Rattle.limits.specs.Laws.TableRules.{table_b_decides}
use Rattle.limits.proofs.table_limits.FlightDutyPeriodLimit.is_broken_by.Goals as goal

pub returns : goal.returns
returns c = rw (c.any_duty.ensures, c.duties.ensures) (table_b_decides c.args._history.now c.args.new.now)
