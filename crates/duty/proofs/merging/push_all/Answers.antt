use Rattle.std.proofs.Common.{◌≡◌, ◌++◌, ◌∷◌, [], map, sym, ap, ◌∙◌, arith}
use Rattle.std.proofs.lemmas.List.{append_assoc, map-append}
use Rattle.std.specs.Prelude.{slice_range}
use Rattle.duty.specs.Intervals.{unsummed}
use Rattle.duty.proofs.Rows.{range-more, range-none}
use Rattle.duty.proofs.merging.push_all.Goals as goal

pub loop-index-init : goal.loop-index-init
loop-index-init g c =
    let spans = g.S.Spans.spans c.args.spans.now in
    let none : slice_range spans c.args.first c.args.first ≡ [] = range-none spans c.args.first in
    record {
      items = rw none c.push.ensures.items;
      order = omega arith;
      len = omega arith;
      capacity = omega arith;
    }

pub loop-index-preserved : goal.loop-index-preserved
loop-index-preserved g c =
    let spans = g.S.Spans.spans c.args.spans.now in
    let now = c.loop-index.invariant in
    let i = c.loop-index.index in
    let order = now.order in
    let len = now.len in
    let old = c.args.intervals.now.items in
    let row = c.args.span ∷ slice_range spans c.args.first i in
    let more = range-more spans c.args.first i c.span.result order c.span.ensures in
    let items = c.push-in-loop-index.ensures.items ∙ ap (λ xs. xs ++ unsummed c.span.result ∷ []) now.items ∙
    append_assoc old (map unsummed row) (unsummed c.span.result ∷ []) ∙
    ap (λ xs. old ++ xs) (sym (map-append unsummed row (c.span.result ∷ []))) in
    record {
      items = rw more items;
      order = omega arith;
      len = omega arith;
      capacity = omega arith;
    }
