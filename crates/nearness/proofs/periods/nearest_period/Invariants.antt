use Rattle.std.proofs.Common.{◌≡◌, ◌<◌, ◌^◌, length}
use Rattle.std.specs.Prelude.{IfSome, IfNone}
use Rattle.nearness.specs.Nearest.{IsNearest, HasNone}
use Rattle.nearness.proofs.periods.nearest_period.Given as goal

abbrev pub invariant-loop-index : goal.invariant-loop-index
invariant-loop-index l = record {
  end : l.index-end ≡ length l.all;
  best : IfSome l.best (λ period. IsNearest l.index l.periods.limit l.all l.new l.others period);
  small : IfSome l.best (λ period. period.minutes < 2 ^ 100);
  none : IfNone l.best (HasNone l.index l.periods.limit l.all l.new l.others);
}
