use Rattle.std.proofs.Common.{◌≡◌, ◌++◌, map}
use Rattle.std.specs.List.{filter}
use Rattle.values.specs.Name.{named_rows}
use Rattle.report.specs.PairingsText.{is_listed, listed_row, listed_rows}
use Rattle.report.proofs.pairings.rows_of.Given as goal

abbrev pub invariant-loop-id : goal.invariant-loop-id
invariant-loop-id l =
    l.rows.items ++ map listed_row (filter (λ entry. is_listed l.which entry.1) (named_rows (λ id. id) l.id-iterator))
    ≡ listed_rows l.roster l.which
