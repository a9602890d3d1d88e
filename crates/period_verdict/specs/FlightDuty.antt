-- One flight duty period as a command line gives it: a report, and block-out and block-in in turn.
use Rattle.std.specs.Prelude.{ℕ, ◌%◌, ◌==◌, ◌&&◌, Bool, List, [], ◌∷◌, map, nat_lt, nat_le}
use Rattle.duty.specs.DutiesInForce.{span_of}
use Rattle.duty.specs.Minutes.{last_in}
use Rattle.duty.specs.declared.fdp.Fdp.{Fdp}
use Rattle.duty.specs.declared.segment.Segment.{Segment}

-- whether this many times are block-out and block-in of 1 to 12 segments
abbrev pub is_block_time_count : ℕ → Bool
is_block_time_count times = times % 2 == 0 && nat_lt 0 times && nat_le times 24

-- a segment of which only the times are given
abbrev pub timed_segment : ℕ → ℕ → Segment
timed_segment block_out block_in =
    record { flight = []; from = []; block_out = block_out; to = []; block_in = block_in }

-- the segments that times make, block-out and block-in of each in turn
abbrev pub segments_of : List ℕ → List Segment
segments_of [] = []
segments_of (time ∷ []) = []
segments_of (block_out ∷ block_in ∷ rest) = timed_segment block_out block_in ∷ segments_of rest

-- the flight duty period of a report and times, released at its last block-in
abbrev pub fdp_of : ℕ → List ℕ → Fdp
fdp_of report times = record {
  planned_report = report;
  report = report;
  release = last_in report (map span_of (segments_of times));
  segments = segments_of times;
}
