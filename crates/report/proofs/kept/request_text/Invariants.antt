use Rattle.std.proofs.Common.{◌≡◌, ◌++◌, string_bytes}
use Rattle.std.specs.List.{filter, flat_map}
use Rattle.std.specs.Prelude.{◌==◌}
use Rattle.values.specs.Name.{named_rows}
use Rattle.command.specs.Keys.{key_name}
use Rattle.report.specs.Kept.{number_in, part_in}
use Rattle.report.specs.RequestText.{part_lines, request_text}
use Rattle.report.proofs.kept.request_text.Given as goal

abbrev pub invariant-loop-key : goal.invariant-loop-key
invariant-loop-key l =
    string_bytes l.text
    ++ flat_map (λ row. part_lines (part_in row.0) row.1) (filter (λ row. number_in row.0 == l.number) (named_rows key_name l.key-iterator))
    ≡ request_text l.roster l.number
