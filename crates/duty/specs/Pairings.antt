-- Which pairings, ground duties, outside periods and actual times are refused, and with which
-- fault.
use Rattle.std.specs.Prelude.{ℕ, ◌==◌, Bool, ◌&&◌, nat_le, nat_lt, List, [], ◌∷◌, ◌++◌, map, length}
use Rattle.std.specs.Prelude.{Option, Result}
use Rattle.std.specs.List.{list_all}
use Rattle.std.specs.Option.{option_map}
use Rattle.std.specs.Str.{bytes_eq}
use Rattle.duty.specs.Plans.{Plan, GroundPlan, OutsidePlan, ActualTimes, flown_at}
use Rattle.duty.specs.Shape.{is_within, is_id, is_flight, is_airport, is_plain_text}
use Rattle.duty.specs.Words.{beside, each_next, last_of, first_failing, first_fault, unless}
use Rattle.duty.specs.Words.{checked}
use Rattle.duty.specs.declared.fault.DutyFault.{DutyFault}
use Rattle.duty.specs.declared.fault.DutyFault.TheVariants.{BadTimes, BadChain, BadField}
use Rattle.duty.specs.declared.fault.DutyFault.TheVariants.{SegmentCount}
use Rattle.duty.specs.declared.fault.Field.TheVariants as field
use Rattle.duty.specs.declared.fdp.Fdp.{Fdp}
use Rattle.duty.specs.declared.segment.Segment.{Segment}
use Rattle.duty.specs.declared.segment.BlockTimes.{BlockTimes}

-- ---- Shapes (18)

-- the flight and both airports of a segment have their shapes
abbrev pub has_shapes : Segment → Bool
has_shapes s = is_flight s.flight && is_airport s.from && is_airport s.to

-- the flight and both airports of each segment of a flight duty period have their shapes
abbrev pub are_shaped : Fdp → Bool
are_shaped f = list_all has_shapes f.segments

-- ---- Counts (19)

-- whether a flight duty period may have this many segments: 1 to 12
abbrev pub is_segment_count : ℕ → Bool
is_segment_count = is_within 1 12

-- the fault of a pairing's counts: a pairing has 1 to 10 periods, each of 1 to 12 segments
unfoldable pub count_fault : List Fdp → Option DutyFault
count_fault periods =
    first_fault (unless (is_within 1 10 (length periods)) (SegmentCount 0)
    ∷ option_map SegmentCount (first_failing (λ f. is_segment_count (length f.segments)) periods)
    ∷ [])

-- ---- Orders of times (16)

-- block-out and block-in of a segment
abbrev pub block_times : Segment → BlockTimes
block_times s = record { block_out = s.block_out; block_in = s.block_in }

-- a block-out is at or after the report and before its block-in, which is at or before the release
abbrev pub is_within_duty : ℕ → ℕ → BlockTimes → Bool
is_within_duty report release s =
    nat_le report s.block_out && nat_lt s.block_out s.block_in && nat_le s.block_in release

-- a block-in is at or before the next block-out
abbrev pub is_before : BlockTimes → BlockTimes → Bool
is_before s t = nat_le s.block_in t.block_out

-- the times of a flight duty period are in order, from its report to its release
abbrev pub is_in_order : ℕ → ℕ → List BlockTimes → Bool
is_in_order report release segments =
    list_all (is_within_duty report release) segments && each_next is_before segments

-- a period's times are in order, and its report is not before the release of the period before it
abbrev pub is_timely : ℕ × Fdp → Bool
is_timely (released, f) =
    nat_le released f.report && is_in_order f.report f.release (map block_times f.segments)

-- the fault of the lowest period that is not timely. Each period stands beside the release of the
-- period before it, and the first beside minute 0
unfoldable pub times_fault : List Fdp → Option DutyFault
times_fault periods =
    option_map BadTimes (first_failing is_timely (beside 0 (λ f. f.release) periods))

-- ---- Chains of airports (17)

-- a segment `t` departs from where the segment `s` before it arrived
abbrev pub connects : Segment → Segment → Bool
connects s t = bytes_eq s.to t.from

-- the segments of a period connect, also its first one with the last one of the period before it
abbrev pub is_chained : List Segment × Fdp → Bool
is_chained (before, f) = each_next connects (last_of before ++ f.segments)

-- the fault of the lowest period that is not chained. Each period stands beside the segments of the
-- period before it, and the first beside none
unfoldable pub chain_fault : List Fdp → Option DutyFault
chain_fault periods =
    option_map BadChain (first_failing is_chained (beside [] (λ f. f.segments) periods))

-- ---- The first fault

-- the first fault of a pairing: shapes, then counts, then orders of times, then the chain of
-- airports
unfoldable pub pairing_fault : Plan → Option DutyFault
pairing_fault p =
    first_fault (unless (is_id p.id) (BadField field.Pairing)
    ∷ unless (list_all are_shaped p.periods) (BadField field.Periods)
    ∷ count_fault p.periods
    ∷ times_fault p.periods
    ∷ chain_fault p.periods
    ∷ [])

-- the first fault of a ground duty: shapes, in the order of the fields, then an end that is not
-- after the begin
unfoldable pub ground_fault : GroundPlan → Option DutyFault
ground_fault g =
    first_fault (unless (is_id g.id) (BadField field.Ground)
    ∷ unless (is_id g.crew) (BadField field.Crew)
    ∷ unless (is_plain_text g.task) (BadField field.Task)
    ∷ unless (nat_lt g.begin g.end) (BadTimes 0)
    ∷ [])

-- the first fault of an outside period: the shape of its id, then the number of segments, then the
-- order of times
unfoldable pub outside_fault : OutsidePlan → Option DutyFault
outside_fault o =
    first_fault (unless (is_id o.id) (BadField field.Outside)
    ∷ unless (is_segment_count (length o.segments)) (SegmentCount 0)
    ∷ unless (is_in_order o.report o.release o.segments) (BadTimes 0)
    ∷ [])

-- the first fault of actual times: the number of segments, then the order of times
unfoldable pub actual_fault : ActualTimes → Option DutyFault
actual_fault a =
    first_fault (unless (is_segment_count (length a.segments)) (SegmentCount a.period)
    ∷ unless (is_in_order a.report a.release a.segments) (BadTimes a.period)
    ∷ [])

-- a period with the times when it was flown, or a fault if the plan and the actual times have
-- different numbers of segments
abbrev pub fdp_with_actual : Fdp → ActualTimes → Result Fdp DutyFault
fdp_with_actual f a =
    checked (unless (length f.segments == length a.segments) (SegmentCount a.period)) (flown_at f a)
