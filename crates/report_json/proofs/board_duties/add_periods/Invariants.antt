use Rattle.std.proofs.Common.{◌≡◌, ◌+◌, ◌++◌, drop, map}
use Rattle.std.specs.List.{enumerate_from, filter}
use Rattle.serde_json.specs.View.{view}
use Rattle.report.specs.Board.{period_meets}
use Rattle.report_json.specs.BoardJson.{board_period_json}
use Rattle.report_json.proofs.board_duties.add_periods.Given as goal

abbrev pub invariant-loop-index : goal.invariant-loop-index
invariant-loop-index l =
    map view l.duties.items
    ++ map (board_period_json l.exceeded l.id)
    (filter (λ row. period_meets l.days row.1) (enumerate_from (l.index + 1) (drop l.index l.period-items)))
    ≡ map view l.initial.duties.items
    ++ map (board_period_json l.exceeded l.id) (filter (λ row. period_meets l.days row.1) (enumerate_from 1 l.period-items))
