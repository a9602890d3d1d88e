use Rattle.std.proofs.Common.{◌≡◌, ◌++◌, drop, map}
use Rattle.serde_json.specs.View.{view}
use Rattle.report_json.specs.LimitsJson.{limit_json}
use Rattle.report_json.proofs.nearest_limits.rows_of.Given as goal

abbrev pub invariant-loop-limit : goal.invariant-loop-limit
invariant-loop-limit l =
    map view l.rows.items ++ map limit_json (drop l.limit-index l.limits) ≡ map limit_json l.limits
