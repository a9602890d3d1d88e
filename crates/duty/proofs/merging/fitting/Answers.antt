use Rattle.std.proofs.Common.{◌≡◌, ◌<◌, ◌∷◌, [], Some, length, get_or, sym, ap, ◌∙◌, arith}
use Rattle.std.specs.Prelude.{slice_range}
use Rattle.duty.specs.Intervals.{spans_in}
use Rattle.duty.specs.declared.span.Span.{Span}
use Rattle.duty.specs.declared.intervals.Interval.{Interval}
use Rattle.duty.proofs.Absorbing.{spans-length}
use Rattle.duty.proofs.Apart.{span_at}
use Rattle.duty.proofs.Rows.{fitting-begun, fitting-more, fitting-done, range-more, range-none}
use Rattle.duty.proofs.merging.fitting.Goals as goal

pub loop-index-init : goal.loop-index-init
loop-index-init g c =
    let spans = g.S.Spans.spans c.args.spans.now in
    let none : slice_range spans c.args.first c.args.first ≡ [] = range-none spans c.args.first in
    record {
      fitting = λ before ends apart. rw (none, ← ends) (fitting-begun (spans_in c.args.intervals.now) c.args.place before apart);
      order = omega arith;
      end = c.count-index-end.ensures;
    }

pub loop-index-preserved : goal.loop-index-preserved
loop-index-preserved g c =
    let spans = g.S.Spans.spans c.args.spans.now in
    let list = c.args.intervals.now in
    let place = c.args.place in
    let now = c.loop-index.invariant in
    let first = c.args.first in
    let i = c.loop-index.index in
    let s = c.span.result in
    let more = range-more spans first i s now.order c.span.ensures in
    let again : Some s ≡ Some c.span-end.result = sym c.span.ensures ∙ c.span-end.ensures in
    let same : s ≡ c.span-end.result = cc in
    let ends : s.to ≡ c.span-end.result.to = ap (λ it. it.to) same in
    let order = c.goes_on.ensures.order cc in
    let next : (d : Span) → place < length (spans_in list) → s.to < (get_or (spans_in list) place d).from =
    λ d l. (let x : Interval = record { span = d; total = 0 } in
    let n : length (spans_in list) ≡ length list = spans-length list in
    let l : place < length list = omega arith in
    rw (span_at list place x d l) (c.goes_on.ensures.before (cc) x l)) in
    record {
      fitting = λ before at apart. rw (← ends, more) (fitting-more (spans_in list) place (before ∷ slice_range spans first i)
          c.loop-index.end s (now.fitting before at apart) order.0 order.1 next);
      order = omega arith;
      end = now.end;
    }

pub returns-then-not-goes_on-clause-apart : goal.returns-then-not-goes_on-clause-apart
returns-then-not-goes_on-clause-apart g c before ends apart =
    let row = before ∷ slice_range (g.S.Spans.spans c.args.spans.now) c.args.first c.loop-index.index in
    fitting-done (spans_in c.args.intervals.now) c.args.place row c.loop-index.end (c.loop-index.invariant.fitting before ends apart)

pub returns-clause-apart : goal.returns-clause-apart
returns-clause-apart g c before ends apart =
    let spans = g.S.Spans.spans c.args.spans.now in
    let now = c.loop-index.invariant in
    let end : length spans ≡ c.loop-index.index = omega arith in
    let row = before ∷ slice_range spans c.args.first c.loop-index.index in
    rw (c.count.ensures, end) (fitting-done (spans_in c.args.intervals.now) c.args.place row c.loop-index.end (now.fitting before ends apart))
