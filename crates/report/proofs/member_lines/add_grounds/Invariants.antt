use Rattle.std.proofs.Common.{◌≡◌, ◌++◌, map}
use Rattle.std.specs.List.{filter}
use Rattle.std.specs.Str.{bytes_eq}
use Rattle.values.specs.Name.{named_rows}
use Rattle.report.specs.RosterText.{ground_line, ground_lines}
use Rattle.report.proofs.member_lines.add_grounds.Given as goal

abbrev pub invariant-loop-id : goal.invariant-loop-id
invariant-loop-id l =
    l.lines.items ++ map ground_line (filter (λ row. bytes_eq row.1.crew l.who) (named_rows (λ id. id) l.id-iterator))
    ≡ l.initial.lines.items ++ ground_lines l.roster l.who
