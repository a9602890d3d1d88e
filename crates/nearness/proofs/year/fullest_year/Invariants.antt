use Rattle.std.proofs.Common.{◌≡◌, ◌<◌, ◌≤◌, ◌+◌, ◌*◌, ◌^◌, ℕ}
use Rattle.std.specs.Prelude.{pos, ◌-ℤ◌}
use Rattle.std.specs.List.{flat_map}
use Rattle.duty.specs.Minutes.{spans_of, minutes_in, Meets}
use Rattle.duty.specs.declared.kind.Kind.TheVariants.{Flight}
use Rattle.nearness.specs.Searches.{IsCounted, IsAsGood, IsMet}
use Rattle.nearness.proofs.year.fullest_year.Given as goal

abbrev pub invariant-loop-day : goal.invariant-loop-day
invariant-loop-day l = record {
  from : l.first ≤ l.day;
  within : l.last < 2 ^ 20;
  holds : IsCounted (flat_map (spans_of Flight) l.all) 525_600 l.best;
  met : IsMet (minutes_in Flight l.new) 525_600 l.best;
  aligned : (q : ℕ) × (l.best.end ≡ q * 1_440);
  tried : (d : ℕ) → l.first ≤ d → d < l.day → Meets (minutes_in Flight l.new) (pos ((d + 1) * 1_440) -ℤ pos 525_600) 525_600 →
      IsAsGood (flat_map (spans_of Flight) l.all) 525_600 l.best ((d + 1) * 1_440);
}
