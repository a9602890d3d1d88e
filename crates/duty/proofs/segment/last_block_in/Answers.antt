use Rattle.std.proofs.Common.{sym}
use Rattle.duty.specs.DutiesInForce.{span_between}
use Rattle.duty.proofs.SpanFacts.{last_in-mapped}
use Rattle.duty.proofs.segment.last_block_in.Goals as goal

pub returns-in-Some : goal.returns-in-Some
returns-in-Some g c =
    rw c.times.ensures (sym (last_in-mapped (λ s. span_between (g.S.Timed.times s)) c.args.report c.args.segments.now
    c.in-Some.segment.now (sym c.in-Some.ensures.value)))
