use Rattle.std.proofs.Common.{◌≡◌, ◌≤◌, ◌∷◌, length, take, map, ap, ◌∙◌, arith}
use Rattle.std.specs.Prelude.{slice_range}
use Rattle.duty.specs.Intervals.{spans_in, unsummed}
use Rattle.duty.proofs.Absorbing.{front-sums}
use Rattle.duty.proofs.Rows.{spans-put, front-put}
use Rattle.duty.proofs.merging.put.Goals as goal

pub sum_from-requires-clause-apart : goal.sum_from-requires-clause-apart
sum_from-requires-clause-apart g c =
    let old = c.args.intervals.now.items in
    let row = c.args.span ∷ slice_range (g.S.Spans.spans c.args.spans.now) c.args.first c.args.last in
    let n : length old ≡ c.len-count.result = omega arith in
    let moved = c.move_tail.ensures.items old (map unsummed row) c.push_all.ensures.items n in
    rw (moved, spans-put) c.requires.apart

pub sum_from-requires-clause-summed : goal.sum_from-requires-clause-summed
sum_from-requires-clause-summed g c =
    let old = c.args.intervals.now.items in
    let place = c.args.place in
    let row = c.args.span ∷ slice_range (g.S.Spans.spans c.args.spans.now) c.args.first c.args.last in
    let n : length old ≡ c.len-count.result = omega arith in
    let moved = c.move_tail.ensures.items old (map unsummed row) c.push_all.ensures.items n in
    let within : place ≤ length old = omega arith in
    front-sums old c.move_tail.new.intervals.items place
    (ap (take place) moved ∙ front-put old place (map unsummed row) within) (omega arith) within c.requires.summed

pub returns-clause-spans : goal.returns-clause-spans
returns-clause-spans g c =
    let old = c.args.intervals.now.items in
    let row = c.args.span ∷ slice_range (g.S.Spans.spans c.args.spans.now) c.args.first c.args.last in
    let n : length old ≡ c.len-count.result = omega arith in
    let moved = c.move_tail.ensures.items old (map unsummed row) c.push_all.ensures.items n in
    c.sum_from.ensures.spans ∙ ap spans_in moved ∙ spans-put old c.args.place row
