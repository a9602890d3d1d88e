use Rattle.std.proofs.Common.{◌≡◌, ◌+◌, ◌++◌, drop, map}
use Rattle.std.specs.List.{enumerate_from}
use Rattle.serde_json.specs.View.{view}
use Rattle.report_json.specs.PairingJson.{pairing_period_json}
use Rattle.report_json.proofs.pairing.rows_of.Given as goal

abbrev pub invariant-loop-index : goal.invariant-loop-index
invariant-loop-index l =
    map view l.rows.items ++ map pairing_period_json (enumerate_from (l.index + 1) (drop l.index l.period-items))
    ≡ map pairing_period_json (enumerate_from 1 l.period-items)
