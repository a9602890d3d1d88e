use Rattle.std.proofs.Common.{◌+◌, ◌<◌, ◌∷◌, ◌||◌, sym, ap, ◌∙◌, arith}
use Rattle.std.specs.Prelude.{slice_range}
use Rattle.duty.specs.Minutes.{minutes_of}
use Rattle.duty.specs.Intervals.{spans_in}
use Rattle.duty.proofs.Rows.{range-first, range-empty, row-minutes}
use Rattle.duty.proofs.intervals.Intervals.add_from.Goals as goal

pub returns-then-is_empty-clause-minutes : goal.returns-then-is_empty-clause-minutes
returns-then-is_empty-clause-minutes g c minute =
    range-empty minute (g.S.Spans.spans c.args.spans.now) c.args.self.now.spans c.args.first c.span.result c.span.ensures
    (c.is_empty.ensures.empty cc)

pub returns-clause-minutes : goal.returns-clause-minutes
returns-clause-minutes g c minute =
    let spans = g.S.Spans.spans c.args.spans.now in
    let first = c.args.first in
    let next = c.fitting-next.result in
    let s = c.span-2.result in
    let row = slice_range spans (first + 1) next in
    let order = c.fitting-next.ensures.order in
    let l : first < next = omega arith in
    ap (λ them. minutes_of them minute) c.put.ensures.spans ∙
    row-minutes minute (spans_in c.self.inside.intervals.items) (spans_in c.absorb-place.new.intervals.items) c.absorb-place.result.0 s
    c.absorb-place.result.1 row (c.absorb-place.ensures.minutes minute) ∙
    ap (λ it. minutes_of (s ∷ row) minute || minutes_of it.spans minute) c.self.view_is ∙
    ap (λ them. minutes_of them minute || minutes_of c.args.self.now.spans minute) (sym (range-first spans first next s c.span-2.ensures l))
