use Rattle.std.proofs.Common.{◌≡◌, ◌++◌, List, drop, map}
use Rattle.duty.specs.declared.fdp.Fdp.{Fdp}
use Rattle.duty.specs.declared.span.Span.{Span}
use Rattle.part.proofs.near.add_spans.Given as goal

abbrev spans_of : List Fdp → List Span
spans_of fdps = map (λ f. record { from = f.report; to = f.release }) fdps

abbrev pub invariant-loop-fdp : goal.invariant-loop-fdp
invariant-loop-fdp l = l.list.items ++ spans_of (drop l.fdp-index l.fdps) ≡ l.initial.list.items ++ spans_of l.fdps
