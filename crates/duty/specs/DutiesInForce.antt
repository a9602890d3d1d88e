-- Duties with their times in force.
use Rattle.std.specs.Prelude.{ℕ, List, map, Some, None}
use Rattle.time117.specs.Local.{local_minute}
use Rattle.duty.specs.FdpTimes.{FdpTimes}
use Rattle.duty.specs.Plans.{OutsidePlan}
use Rattle.duty.specs.declared.fdp.Fdp.{Fdp}
use Rattle.duty.specs.declared.placed_duty.Duty.{Duty}
use Rattle.duty.specs.declared.placed_duty.Duty.TheVariants as duty
use Rattle.duty.specs.declared.segment.BlockTimes.{BlockTimes}
use Rattle.duty.specs.declared.segment.Segment.{Segment}
use Rattle.duty.specs.declared.span.Span.{Span}
use Rattle.duty.specs.declared.duty_in_force.DutyInForce.{DutyInForce}
use Rattle.duty.specs.declared.duty_in_force.DutyInForce.TheVariants as times

-- the span of a segment is from its block-out to its block-in
abbrev pub span_of : Segment → Span
span_of s = record { from = s.block_out; to = s.block_in }

-- a flight duty period with its times in force; Tables A and B are entered with the acclimated time
-- of its planned report (117.11, 117.13)
abbrev pub fdp_times : List ℕ → Fdp → FdpTimes
fdp_times zone f = record {
  start = Some (local_minute zone f.planned_report);
  report = f.report;
  release = f.release;
  segments = map span_of f.segments;
}

-- the span of block times is from block-out to block-in
abbrev pub span_between : BlockTimes → Span
span_between t = record { from = t.block_out; to = t.block_in }

-- a period that is flown for another certificate holder, with its times in force: the period counts
-- as any other (117.23(a)), but enters neither Table A nor Table B, which are the other holder's
-- matter
abbrev pub outside_times : OutsidePlan → FdpTimes
outside_times o = record {
  start = None;
  report = o.report;
  release = o.release;
  segments = map span_between o.segments;
}

-- a duty with its times in force. The planned report of a flight duty period is read on the zone's
-- clock
abbrev pub in_force : List ℕ → Duty → DutyInForce
in_force zone (duty.Fdp f) = times.Fdp (fdp_times zone f)
in_force zone (duty.Outside o) = times.Fdp (outside_times o)
in_force zone (duty.Ground g) = times.Ground (record { from = g.begin; to = g.end })
