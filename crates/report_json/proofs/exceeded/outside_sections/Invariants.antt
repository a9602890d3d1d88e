use Rattle.std.proofs.Common.{◌≡◌, ◌++◌, drop, map}
use Rattle.std.specs.List.{filter}
use Rattle.serde_json.specs.View.{view}
use Rattle.report_json.specs.BoardJson.{is_outside, section_json}
use Rattle.report_json.proofs.exceeded.outside_sections.Given as goal

abbrev pub invariant-loop-one : goal.invariant-loop-one
invariant-loop-one l =
    map view l.sections.items ++ map section_json (filter (λ e. is_outside l.id e.duty) (drop l.one-index l.exceeded))
    ≡ map section_json (filter (λ e. is_outside l.id e.duty) l.exceeded)
