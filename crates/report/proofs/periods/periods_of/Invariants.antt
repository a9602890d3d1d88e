use Rattle.std.proofs.Common.{◌≡◌, ◌++◌, map}
use Rattle.std.specs.List.{zip}
use Rattle.std.specs.Slice.Iter.{iter_rest}
use Rattle.report.specs.Periods.{period_of, pairing_periods}
use Rattle.report.proofs.periods.periods_of.Given as goal

abbrev pub invariant-loop-period : goal.invariant-loop-period
invariant-loop-period l =
    l.periods.items ++ map period_of (zip (iter_rest l.period-iterator.a) (iter_rest l.period-iterator.b))
    ≡ pairing_periods l.entry
