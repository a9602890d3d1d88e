use Rattle.std.proofs.Common.{◌≡◌, ◌++◌, ◌&&◌, map}
use Rattle.std.specs.List.{filter}
use Rattle.std.specs.Str.{bytes_eq}
use Rattle.serde_json.specs.View.{view}
use Rattle.values.specs.Name.{named_rows}
use Rattle.report.specs.Board.{ground_meets, grounds_in}
use Rattle.report_json.specs.RosterJson.{ground_duty_json}
use Rattle.report_json.proofs.board_duties.add_grounds.Given as goal

abbrev pub invariant-loop-id : goal.invariant-loop-id
invariant-loop-id l =
    map view l.duties.items
    ++ map ground_duty_json (filter (λ row. bytes_eq row.1.crew l.who && ground_meets l.days row.1) (named_rows (λ id. id) l.id-iterator))
    ≡ map view l.initial.duties.items ++ map ground_duty_json (grounds_in l.days l.roster l.who)
