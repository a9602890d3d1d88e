use Rattle.std.proofs.Common.{◌≡◌, ◌+◌, ◌++◌, ◌∷◌, [], List, ℕ, length, length-append, subst, arith}
use Rattle.std.specs.Vec.Iter.{into_iter_items}
use Rattle.codec.specs.Grouping.{AddsSegment, IsGroupedUpTo}
use Rattle.codec.specs.declared.scheduled.ScheduledSegment.{ScheduledSegment}
use Rattle.codec.proofs.Loop.{step}
use Rattle.codec.proofs.grouping.group_segments.Goals as goal

pub loop-it-preserved : goal.loop-it-preserved
loop-it-preserved c =
    let segments = c.args.segments.items in
    let done = c.loop-it.yielded in
    let it = c.in-Some.it in
    let old = c.loop-it.grouping in
    let longer = c.in-Ok.longer in
    let inv = c.loop-it.invariant in
    let rest = into_iter_items c.next.new.self in
    let reading = subst (λ (r : List ScheduledSegment). IsGroupedUpTo segments done r old) c.in-Some.ensures.steps.0 inv.1 in
    let grown = subst (λ (n : ℕ). AddsSegment n it old longer) inv.0 c.in-Ok.ensures.grown in
    let count : c.loop-it.number + 1 ≡ 2 + length (done ++ it ∷ []) = omega (arith, inv.0, length-append done (it ∷ [])) in
    (count, step segments done rest it old longer reading c.in-Ok.ensures.stands c.in-Ok.ensures.place grown)
