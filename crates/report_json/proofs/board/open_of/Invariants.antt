use Rattle.std.proofs.Common.{◌≡◌, ◌++◌, map}
use Rattle.std.specs.List.{filter}
use Rattle.serde_json.specs.View.{view}
use Rattle.values.specs.Name.{named_rows}
use Rattle.report.specs.Board.{is_open_in, open_in}
use Rattle.report_json.specs.PairingsJson.{listed_pairing_json}
use Rattle.report_json.proofs.board.open_of.Given as goal

abbrev pub invariant-loop-id : goal.invariant-loop-id
invariant-loop-id l =
    map view l.rows.items ++ map listed_pairing_json (filter (λ row. is_open_in l.days row.1) (named_rows (λ id. id) l.id-iterator))
    ≡ map listed_pairing_json (open_in l.days l.roster)
