use Rattle.std.proofs.Common.{◌≡◌, take, false}
use Rattle.std.specs.List.{list_any}
use Rattle.duty.specs.Minutes.{spans_of}
use Rattle.duty.specs.declared.kind.Kind.TheVariants.{Flight}
use Rattle.limits.specs.Laws.Windows.{days_of}
use Rattle.limits.proofs.year_limit.any_flight.Given as goal

abbrev pub invariant-loop-duty : goal.invariant-loop-duty
invariant-loop-duty g l = list_any (λ d. list_any (λ span. g.T.DaysTest.passes l.test (days_of span))
    (spans_of Flight d)) (take l.duty-index l.duties) ≡ false
