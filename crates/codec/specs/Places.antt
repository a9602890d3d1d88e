-- Where a segment of a schedule may stand: neighbours with one pairing are of that pairing, and
-- neighbours in that pairing with one period are of that period.
use Rattle.std.specs.Prelude.{ℕ, ◌+◌, List, [], ◌∷◌, Bool, false, not, ◌&&◌, ◌==◌, nat_lt, Option}
use Rattle.std.specs.Prelude.{Some, None, if◌then◌else◌}
use Rattle.std.specs.List.{position_from}
use Rattle.std.specs.Str.{bytes_eq}
use Rattle.codec.specs.declared.scheduled.SegmentPlace.{SegmentPlace}
use Rattle.codec.specs.declared.scheduled.ScheduledSegment.{ScheduledSegment}

-- whether a segment at a place is of the pairing of the segment before it
abbrev pub goes_on : Option SegmentPlace → SegmentPlace → Bool
goes_on None here = false
goes_on (Some before) here = bytes_eq before.pairing here.pairing

-- whether a place in a pairing that goes on is of its last period, with equal report and release,
-- or of the next period
abbrev pub is_same_or_next : Option SegmentPlace → SegmentPlace → Bool
is_same_or_next None here = false
is_same_or_next (Some before) here =
    if here.period == before.period
    then (here.report == before.report) && (here.release == before.release)
    else here.period == before.period + 1

-- whether a pairing may begin here: with its first period, and as one of at most 10,000 pairings
abbrev pub may_begin : ℕ → SegmentPlace → Bool
may_begin begun here = (here.period == 1) && nat_lt begun 10_000

-- whether a segment may stand at a place, with this many pairings begun before it, and behind this
-- last place, if there is one
abbrev pub may_stand : ℕ × Option SegmentPlace × SegmentPlace → Bool
may_stand (begun, before, here) =
    if goes_on before here then is_same_or_next before here else may_begin begun here

-- each segment's place, with how many pairings began before it and the place of the segment before
-- it
abbrev pub standing : ℕ → Option SegmentPlace → List ScheduledSegment →
    List (ℕ × Option SegmentPlace × SegmentPlace)
standing begun before [] = []
standing begun before (s ∷ rest) =
    (begun, before, s.place)
    ∷ standing (if goes_on before s.place then begun else begun + 1) (Some s.place) rest

-- the number of the first record that may not stand where it does; the header is record 1
abbrev pub first_misplaced : List ScheduledSegment → Option ℕ
first_misplaced segments = position_from (λ it. not (may_stand it)) 2 (standing 0 None segments)
