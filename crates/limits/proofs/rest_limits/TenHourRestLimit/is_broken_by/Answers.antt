use Rattle.limits.specs.Laws.LookBack.{ten_hours_decides}
use Rattle.limits.proofs.rest_limits.TenHourRestLimit.is_broken_by.Goals as goal

pub returns : goal.returns
returns c = rw c.some_lacks_rest.ensures (ten_hours_decides c.args.history.now c.args.new.now)
