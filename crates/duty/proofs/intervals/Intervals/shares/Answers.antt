use Rattle.std.proofs.Common.{◌≡◌, ◌<◌, Bool, length, get_or, sym, ap, ◌∙◌, arith}
use Rattle.std.specs.List.{list_any}
use Rattle.std.proofs.lemmas.Bool.{or_from}
use Rattle.std.proofs.lemmas.List.Folds.{list_any_at, list_any_more}
use Rattle.duty.specs.declared.span.Span.{Span}
use Rattle.duty.specs.Overlaps.{meets_span}
use Rattle.duty.specs.Intervals.{spans_in}
use Rattle.duty.proofs.Absorbing.{spans-length}
use Rattle.duty.proofs.Apart.{span_at}
use Rattle.duty.proofs.intervals.Intervals.shares.Goals as goal

pub returns-then-meets_span : goal.returns-then-meets_span
returns-then-meets_span c =
    let items = c.as_slice-interval-items.result.now in
    let spans = c.args.self.now.spans in
    let test : Span → Bool = λ span. list_any (meets_span span) c.args.other.now.spans in
    let i = c.loop-interval.interval-index in
    let x = c.interval-item.result in
    let same : spans_in items ≡ spans = c.loop-interval.invariant.items in
    let n : length (spans_in items) ≡ length items = spans-length items in
    let l : i < length (spans_in items) = omega arith in
    let at : get_or (spans_in items) i x.span ≡ x.span = span_at items i x x.span (omega arith) ∙ ap (λ it. it.span) (sym c.interval-item.is) in
    rw (← same) (sym (list_any_at test (spans_in items) i x.span l (ap test at ∙ sym c.meets_span.ensures ∙ c.if-meets_span.true)))

pub loop-interval-preserved : goal.loop-interval-preserved
loop-interval-preserved c =
    let items = c.as_slice-interval-items.result.now in
    let spans = c.args.self.now.spans in
    let test : Span → Bool = λ span. list_any (meets_span span) c.args.other.now.spans in
    let i = c.loop-interval.interval-index in
    let x = c.interval-item.result in
    let same : spans_in items ≡ spans = c.loop-interval.invariant.items in
    let n : length (spans_in items) ≡ length items = spans-length items in
    let m : length (spans_in items) ≡ length spans = ap length same in
    let here : get_or (spans_in items) i x.span ≡ x.span = span_at items i x x.span (omega arith) ∙ ap (λ it. it.span) (sym c.interval-item.is) in
    let at : get_or spans i x.span ≡ x.span = rw same at here in
    record {
      items = same;
      none = list_any_more test spans i x.span (omega arith) ∙
          or_from _ _ c.loop-interval.invariant.none (ap test at ∙ sym c.meets_span.ensures ∙ c.if-meets_span.false);
    }
