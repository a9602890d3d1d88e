use Rattle.std.proofs.Common.{◌<◌, ℕ, length}
use Rattle.std.specs.Prelude.{slice_index_or}
use Rattle.std.specs.List.{flat_map}
use Rattle.duty.specs.Minutes.{spans_of, minutes_in}
use Rattle.duty.specs.declared.span.Span.{Span}
use Rattle.duty.specs.declared.duty_in_force.DutyInForce.{DutyInForce}
use Rattle.nearness.specs.Searches.{IsCounted, IsNoWorse, IsMet, IsTried}
use Rattle.nearness.proofs.windows.Windows.try_duties.Given as goal

abbrev pub invariant-loop-duty : goal.invariant-loop-duty
invariant-loop-duty l =
    let windows = l.self in
    let all = flat_map (spans_of windows.kind) windows.all.now in
    let new = minutes_in windows.kind windows.new.now in record {
      holds : IsCounted all windows.width l.best;
      met : IsMet new windows.width l.best;
      kept : IsNoWorse all windows.width l.initial.best l.best;
      tried : (j : ℕ) (e : DutyInForce) (k : ℕ) (d : Span) → j < l.duty-index →
          k < length (spans_of windows.kind (slice_index_or l.duties j e)) →
          IsTried all new windows.width l.best l.after_begin
          (slice_index_or (spans_of windows.kind (slice_index_or l.duties j e)) k d);
    }
