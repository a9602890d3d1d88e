use Rattle.std.proofs.Common.{◌≡◌, ◌+◌, ◌++◌, drop, map}
use Rattle.std.specs.List.{enumerate_from}
use Rattle.report.specs.RosterText.{roster_period_line}
use Rattle.report.proofs.member_lines.add_periods.Given as goal

abbrev pub invariant-loop-index : goal.invariant-loop-index
invariant-loop-index l =
    l.lines.items ++ map (roster_period_line l.id) (enumerate_from (l.index + 1) (drop l.index l.period-items))
    ≡ l.initial.lines.items ++ map (roster_period_line l.id) (enumerate_from 1 l.period-items)
