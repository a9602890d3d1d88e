use Rattle.std.proofs.Common.{◌∙◌, ap, [], ◌∷◌, ◌++◌, ◌*◌, ◌+◌, drop, arith, ◌<◌, length}
use Rattle.period_verdict.specs.FlightDuty.{segments_of}
use Rattle.period_verdict.proofs.SegmentLemmas.{segments_of-next, segments_of-rest}
use Rattle.period_verdict.proofs.flight_duty.read_segments.Goals as goal

pub loop-i-preserved : goal.loop-i-preserved
loop-i-preserved c =
    let room : 2 * c.loop-i.i + 1 < length c.args.times.now = omega arith in
    ap (λ made. made ++ segments_of (drop (2 * (c.loop-i.i + 1)) c.args.times.now)) c.in_ok-push.ensures.items
    ∙ ap (λ s. (c.loop-i.segments.items ++ s ∷ []) ++ segments_of (drop (2 * (c.loop-i.i + 1)) c.args.times.now)) c.timed_segment.ensures
    ∙ segments_of-next c.loop-i.segments.items c.args.times.now c.loop-i.i
    c.index-times-i.result c.index-times-i-in-loop-i.result room
    c.index-times-i.is c.index-times-i-in-loop-i.is c.loop-i.invariant

pub returns : goal.returns
returns c = segments_of-rest c.loop-i.segments.items c.args.times.now c.loop-i.i (omega arith) c.loop-i.invariant
