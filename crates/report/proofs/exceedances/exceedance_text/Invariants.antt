use Rattle.std.proofs.Common.{◌≡◌, ◌++◌, length, string_bytes}
use Rattle.std.specs.List.{flat_map}
use Rattle.report.specs.ExceedanceText as spec
use Rattle.report.proofs.exceedances.exceedance_text.Given as goal

abbrev pub invariant-loop-id : goal.invariant-loop-id
invariant-loop-id l =
    string_bytes l.text ++ flat_map spec.line l.id-iterator
    ≡ spec.exceedances_header (length l.initial.id-iterator) ++ flat_map spec.line l.initial.id-iterator
