use Rattle.std.proofs.Common.{◌≡◌, ◌*◌, ◌++◌, drop}
use Rattle.period_verdict.specs.FlightDuty.{segments_of}
use Rattle.period_verdict.proofs.flight_duty.read_segments.Given as goal

abbrev pub invariant-loop-i : goal.invariant-loop-i
invariant-loop-i l = l.segments.items ++ segments_of (drop (2 * l.i) l.times) ≡ segments_of l.times
