use Rattle.std.proofs.Common.{◌≡◌, ◌+◌, ◌++◌, drop, string_bytes}
use Rattle.std.specs.List.{enumerate_from, flat_map}
use Rattle.report.specs.PairingText.{pairing_period_lines}
use Rattle.report.proofs.pairing_lines.lines_of_periods.Given as goal

abbrev pub invariant-loop-index : goal.invariant-loop-index
invariant-loop-index l =
    string_bytes l.text ++ flat_map pairing_period_lines (enumerate_from (l.index + 1) (drop l.index l.period-items))
    ≡ flat_map pairing_period_lines (enumerate_from 1 l.period-items)
