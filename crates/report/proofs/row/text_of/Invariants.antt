use Rattle.std.proofs.Common.{◌≡◌, ◌++◌, drop, string_bytes}
use Rattle.std.specs.List.{flat_map}
use Rattle.report.proofs.row.text_of.Given as goal

abbrev pub invariant-loop-row : goal.invariant-loop-row
invariant-loop-row l =
    string_bytes l.text ++ flat_map (λ row. row.line) (drop l.row-index l.rows)
    ≡ string_bytes l.initial.text ++ flat_map (λ row. row.line) l.rows
