use Rattle.std.proofs.Common.{◌≡◌, ◌++◌}
use Rattle.std.specs.FinMap as fin
use Rattle.std.specs.List.{filter, flat_map}
use Rattle.values.specs.Name.{named_rows}
use Rattle.roster.specs.Pairings.{holds}
use Rattle.report.specs.RosterText.{roster_period_lines}
use Rattle.report.proofs.member_lines.lines_of.Given as goal

abbrev pub invariant-loop-id : goal.invariant-loop-id
invariant-loop-id l =
    l.lines.items ++ flat_map roster_period_lines (filter (λ row. holds l.who row.1) (named_rows (λ id. id) l.id-iterator))
    ≡ flat_map roster_period_lines (filter (λ row. holds l.who row.1) (fin.entries l.roster.pairings))
