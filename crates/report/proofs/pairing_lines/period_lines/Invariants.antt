use Rattle.std.proofs.Common.{◌≡◌, ◌+◌, ◌++◌, drop, string_bytes}
use Rattle.std.specs.List.{enumerate_from, flat_map}
use Rattle.report.specs.PairingText.{segment_line}
use Rattle.report.proofs.pairing_lines.period_lines.Given as goal

abbrev pub invariant-loop-index : goal.invariant-loop-index
invariant-loop-index l =
    string_bytes l.text ++ flat_map (segment_line l.number) (enumerate_from (l.index + 1) (drop l.index l.segment-items))
    ≡ string_bytes l.initial.text ++ flat_map (segment_line l.number) (enumerate_from 1 l.segment-items)
