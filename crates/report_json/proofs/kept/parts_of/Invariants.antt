use Rattle.std.proofs.Common.{◌≡◌, ◌++◌, map}
use Rattle.std.specs.List.{filter}
use Rattle.std.specs.Prelude.{◌==◌}
use Rattle.serde_json.specs.View.{view}
use Rattle.values.specs.Name.{named_rows}
use Rattle.command.specs.Keys.{key_name}
use Rattle.report.specs.Kept.{number_in, part_in}
use Rattle.report_json.specs.RequestJson.{kept_part_json, kept_parts_json}
use Rattle.report_json.proofs.kept.parts_of.Given as goal

abbrev pub invariant-loop-key : goal.invariant-loop-key
invariant-loop-key l =
    map view l.rows.items
    ++ map (λ row. kept_part_json (part_in row.0) row.1) (filter (λ row. number_in row.0 == l.number) (named_rows key_name l.key-iterator))
    ≡ kept_parts_json l.roster l.number
