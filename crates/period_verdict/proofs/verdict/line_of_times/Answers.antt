use Rattle.period_verdict.proofs.SegmentLemmas.{length-fdp_of}
use Rattle.period_verdict.proofs.verdict.line_of_times.Goals as goal

pub of-verdict-requires : goal.of-verdict-requires
of-verdict-requires c =
    rw (c.in_ok-in_force.ensures, c.in_ok-fdp.ensures)
    (length-fdp_of c.args.zone.now c.args.report c.args.times.now (cc))
