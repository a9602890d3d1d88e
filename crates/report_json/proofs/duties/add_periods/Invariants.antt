use Rattle.std.proofs.Common.{◌≡◌, ◌+◌, ◌++◌, drop, map}
use Rattle.std.specs.List.{enumerate_from}
use Rattle.serde_json.specs.View.{view}
use Rattle.report_json.specs.RosterJson.{period_duty_json}
use Rattle.report_json.proofs.duties.add_periods.Given as goal

abbrev pub invariant-loop-index : goal.invariant-loop-index
invariant-loop-index l =
    map view l.duties.items ++ map (period_duty_json l.id) (enumerate_from (l.index + 1) (drop l.index l.period-items))
    ≡ map view l.initial.duties.items ++ map (period_duty_json l.id) (enumerate_from 1 l.period-items)
