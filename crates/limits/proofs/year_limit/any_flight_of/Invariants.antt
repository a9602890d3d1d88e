use Rattle.std.proofs.Common.{◌≡◌, length, take, false}
use Rattle.std.specs.Prelude.{IfSome}
use Rattle.std.specs.List.{list_any}
use Rattle.duty.specs.Minutes.{spans_of}
use Rattle.duty.specs.declared.kind.Kind.TheVariants.{Flight}
use Rattle.limits.specs.Laws.Windows.{days_of}
use Rattle.limits.proofs.year_limit.any_flight_of.Given as goal

abbrev pub invariant-loop-index : goal.invariant-loop-index
invariant-loop-index g l = record {
  end : l.index-end ≡ length (spans_of Flight l.duty);
  none : list_any (λ span. g.T.DaysTest.passes l.test (days_of span)) (take l.index (spans_of Flight l.duty)) ≡ false;
  tried : IfSome l.tried (λ days. g.T.DaysTest.passes l.test days ≡ false);
}
