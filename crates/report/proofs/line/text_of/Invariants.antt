use Rattle.std.proofs.Common.{◌≡◌, ◌++◌, drop, string_bytes}
use Rattle.std.specs.List.{flat_map}
use Rattle.report.proofs.line.text_of.Given as goal

abbrev pub invariant-loop-line : goal.invariant-loop-line
invariant-loop-line l =
    string_bytes l.text ++ flat_map (λ line. line.text) (drop l.line-index l.lines)
    ≡ string_bytes l.initial.text ++ flat_map (λ line. line.text) l.lines
