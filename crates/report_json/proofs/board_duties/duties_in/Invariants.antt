use Rattle.std.proofs.Common.{◌≡◌, ◌++◌, map}
use Rattle.std.specs.List.{filter, flat_map}
use Rattle.serde_json.specs.View.{view}
use Rattle.values.specs.Name.{named_rows}
use Rattle.roster.specs.Pairings.{holds}
use Rattle.report.specs.Board.{pairings_held}
use Rattle.report_json.specs.BoardJson.{board_periods_json}
use Rattle.report_json.proofs.board_duties.duties_in.Given as goal

abbrev pub invariant-loop-id : goal.invariant-loop-id
invariant-loop-id l =
    map view l.duties.items
    ++ flat_map (board_periods_json l.days l.exceeded) (filter (λ row. holds l.who row.1) (named_rows (λ id. id) l.id-iterator))
    ≡ flat_map (board_periods_json l.days l.exceeded) (pairings_held l.roster l.who)
