use Rattle.std.proofs.Common.{◌≡◌, ◌++◌, map, take, drop}
use Rattle.duty.specs.Plans.{as_planned}
use Rattle.duty.proofs.pairing.as_planned.Given as goal

abbrev pub invariant-loop-period : goal.invariant-loop-period
invariant-loop-period l =
    l.period-items ≡ map as_planned (take l.period-index l.initial.period-items) ++ drop l.period-index l.initial.period-items
