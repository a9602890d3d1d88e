use Rattle.std.proofs.Common.{◌≡◌, take, false}
use Rattle.std.specs.List.{list_any}
use Rattle.duty.specs.Minutes.{spans_of}
use Rattle.duty.proofs.scan.any_span.Given as goal

abbrev pub invariant-loop-duty : goal.invariant-loop-duty
invariant-loop-duty g l = list_any (λ d. list_any (g.T.SpanTest.passes l.test) (spans_of l.kind d))
    (take l.duty-index l.duties) ≡ false
