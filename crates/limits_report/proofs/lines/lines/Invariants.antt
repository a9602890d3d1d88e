use Rattle.std.proofs.Common.{◌≡◌, ◌++◌, drop, string_bytes}
use Rattle.std.specs.List.{flat_map}
use Rattle.limits_report.specs.LimitsText.{limit_line}
use Rattle.limits_report.proofs.lines.lines.Given as goal

abbrev pub invariant-loop-limit : goal.invariant-loop-limit
invariant-loop-limit l =
    string_bytes l.text ++ flat_map limit_line (drop l.limit-index l.limits)
    ≡ string_bytes l.initial.text ++ flat_map limit_line l.limits
