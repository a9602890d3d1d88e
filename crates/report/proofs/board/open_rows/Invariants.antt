use Rattle.std.proofs.Common.{◌≡◌, ◌++◌, map}
use Rattle.std.specs.List.{filter}
use Rattle.values.specs.Name.{named_rows}
use Rattle.report.specs.Board.{is_open_in}
use Rattle.report.specs.BoardText.{open_rows}
use Rattle.report.specs.PairingsText.{listed_row}
use Rattle.report.proofs.board.open_rows.Given as goal

abbrev pub invariant-loop-id : goal.invariant-loop-id
invariant-loop-id l =
    l.rows.items ++ map listed_row (filter (λ row. is_open_in l.days row.1) (named_rows (λ id. id) l.id-iterator))
    ≡ open_rows l.days l.roster
