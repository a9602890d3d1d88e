use Rattle.std.proofs.Common.{◌≡◌, ◌+◌, ◌<◌, ◌≤◌, suc, length, take, get_or, sym, ap, ◌∙◌, arith}
use Rattle.std.proofs.lemmas.List.{get_or_default}
use Rattle.duty.specs.Intervals.{spans_in, lengths}
use Rattle.duty.specs.declared.intervals.Interval.{Interval}
use Rattle.duty.proofs.Apart.{apart-from, span_at}
use Rattle.duty.proofs.Absorbing.{spans-length}
use Rattle.duty.proofs.Summing.{lengths-within, lengths-more, spans-set, summed-more}
use Rattle.duty.proofs.merging.sum_from.Goals as goal

pub length_of-total-requires : goal.length_of-total-requires
length_of-total-requires c =
    let old = c.args.intervals.now.items in
    let items = c.loop-index.intervals.items in
    let i = c.loop-index.index in
    let x = c.index.result.now in
    let n : length (spans_in old) ≡ length old = spans-length old in
    let spans : spans_in items ≡ spans_in old = c.loop-index.invariant.spans in
    let at : get_or (spans_in items) i x.span ≡ x.span = span_at items i x x.span (omega arith) ∙ ap (λ i. i.span) (sym c.index.ensures) in
    let there : get_or (spans_in old) i x.span ≡ x.span = rw spans at at in
    let order : x.span.from < x.span.to = rw there at (apart-from 0 (spans_in old) i x.span c.requires.apart (omega arith)).1 in
    omega arith

pub overflow_add-total : goal.overflow_add-total
overflow_add-total c =
    let old = c.args.intervals.now.items in
    let items = c.loop-index.intervals.items in
    let i = c.loop-index.index in
    let x = c.index.result.now in
    let n : length (spans_in old) ≡ length old = spans-length old in
    let m : length (spans_in items) ≡ length items = spans-length items in
    let spans : spans_in items ≡ spans_in old = c.loop-index.invariant.spans in
    let at : get_or (spans_in items) i x.span ≡ x.span = span_at items i x x.span (omega arith) ∙ ap (λ i. i.span) (sym c.index.ensures) in
    let there : get_or (spans_in old) i x.span ≡ x.span = rw spans at at in
    let more = rw there at (lengths-more (spans_in old) i x.span (omega arith)) in
    let bound = rw there at (lengths-within 0 (spans_in old) i x.span c.requires.apart (omega arith)) in
    let e : suc i ≡ i + 1 = omega arith in
    let within : 0 + lengths (take (i + 1) (spans_in old)) ≤ x.span.to = rw e at bound in
    let total = c.loop-index.invariant.total in
    let is = c.length_of-total.ensures.value in
    let fits = c.length_of-total.ensures.in_range in
    omega arith

pub loop-index-preserved : goal.loop-index-preserved
loop-index-preserved c =
    let old = c.args.intervals.now.items in
    let items = c.loop-index.intervals.items in
    let i = c.loop-index.index in
    let x = c.index.result.now in
    let y = c.index_mut.result.now in
    let w : Interval = record { span = y.span; total = c.loop-index.total + c.length_of-total.result } in
    let n : length (spans_in items) ≡ length items = spans-length items in
    let l : i < length items = omega arith in
    let spans : spans_in items ≡ spans_in old = c.loop-index.invariant.spans in
    let is : get_or items i y ≡ y = sym c.index_mut.ensures.value in
    let same : (get_or items i w).span ≡ w.span = ap (λ i. i.span) (get_or_default items i w y l ∙ is) in
    let at : get_or (spans_in items) i x.span ≡ x.span = span_at items i x x.span l ∙ ap (λ i. i.span) (sym c.index.ensures) in
    let more = rw at at (lengths-more (spans_in items) i x.span (omega arith)) in
    let before : c.loop-index.total ≡ lengths (take i (spans_in items)) = rw spans c.loop-index.invariant.total in
    let added = c.length_of-total.ensures.value in
    let total : w.total ≡ lengths (take (i + 1) (spans_in items)) = omega arith in
    record {
      spans = spans-set items i w w same l ∙ spans;
      summed = summed-more items i w c.loop-index.invariant.summed l same total;
      total = rw (← spans) total;
      end = c.loop-index.invariant.end;
      len = c.loop-index.invariant.len;
      capacity = c.loop-index.invariant.capacity;
    }
