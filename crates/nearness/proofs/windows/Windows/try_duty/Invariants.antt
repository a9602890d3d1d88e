use Rattle.std.proofs.Common.{◌≡◌, ◌<◌, ℕ, length}
use Rattle.std.specs.Prelude.{slice_index_or}
use Rattle.std.specs.List.{flat_map}
use Rattle.duty.specs.Minutes.{spans_of, minutes_in}
use Rattle.duty.specs.declared.span.Span.{Span}
use Rattle.nearness.specs.Searches.{IsCounted, IsNoWorse, IsMet, IsTried}
use Rattle.nearness.proofs.windows.Windows.try_duty.Given as goal

abbrev pub invariant-loop-index : goal.invariant-loop-index
invariant-loop-index l =
    let windows = l.self in
    let all = flat_map (spans_of windows.kind) windows.all.now in
    let new = minutes_in windows.kind windows.new.now in record {
      end : l.index-end ≡ length (spans_of windows.kind l.duty);
      holds : IsCounted all windows.width l.best;
      met : IsMet new windows.width l.best;
      kept : IsNoWorse all windows.width l.initial.best l.best;
      tried : (k : ℕ) (d : Span) → k < l.index →
          IsTried all new windows.width l.best l.after_begin (slice_index_or (spans_of windows.kind l.duty) k d);
    }
