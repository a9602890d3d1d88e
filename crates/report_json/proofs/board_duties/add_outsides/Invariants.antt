use Rattle.std.proofs.Common.{◌≡◌, ◌++◌, ◌&&◌, map}
use Rattle.std.specs.List.{filter}
use Rattle.std.specs.Str.{bytes_eq}
use Rattle.serde_json.specs.View.{view}
use Rattle.values.specs.Name.{named_rows}
use Rattle.report.specs.Board.{outside_meets, outsides_in}
use Rattle.report_json.specs.BoardJson.{board_outside_json}
use Rattle.report_json.proofs.board_duties.add_outsides.Given as goal

abbrev pub invariant-loop-id : goal.invariant-loop-id
invariant-loop-id l =
    map view l.duties.items
    ++ map (board_outside_json l.exceeded)
    (filter (λ row. bytes_eq row.1.crew l.who && outside_meets l.days row.1) (named_rows (λ id. id) l.id-iterator))
    ≡ map view l.initial.duties.items ++ map (board_outside_json l.exceeded) (outsides_in l.days l.roster l.who)
