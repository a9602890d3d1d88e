use Rattle.std.proofs.Common.{◌≡◌, ◌≤◌, ◌∷◌, length}
use Rattle.std.specs.Prelude.{slice_range}
use Rattle.std.specs.List.{insert}
use Rattle.duty.specs.declared.span.Span.{Span}
use Rattle.duty.specs.Intervals.{AreApart, spans_in}
use Rattle.duty.proofs.Rows.{IsFitting}
use Rattle.duty.proofs.merging.fitting.Given as goal

abbrev pub invariant-loop-index : goal.invariant-loop-index
invariant-loop-index g l = record {
  fitting : (before : Span) → before.to ≡ l.fn.end → AreApart 0 (insert (spans_in l.intervals) l.place before) →
      IsFitting (spans_in l.intervals) l.place (before ∷ slice_range (g.S.Spans.spans l.spans) l.first l.index) l.end;
  order : l.first ≤ l.index;
  end : l.index-end ≡ length (g.S.Spans.spans l.spans);
}
