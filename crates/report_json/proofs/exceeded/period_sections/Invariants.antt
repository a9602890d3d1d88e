use Rattle.std.proofs.Common.{◌≡◌, ◌++◌, drop, map}
use Rattle.std.specs.List.{filter}
use Rattle.serde_json.specs.View.{view}
use Rattle.report_json.specs.BoardJson.{is_period, section_json}
use Rattle.report_json.proofs.exceeded.period_sections.Given as goal

abbrev pub invariant-loop-one : goal.invariant-loop-one
invariant-loop-one l =
    map view l.sections.items ++ map section_json (filter (λ e. is_period l.id l.number e.duty) (drop l.one-index l.exceeded))
    ≡ map section_json (filter (λ e. is_period l.id l.number e.duty) l.exceeded)
