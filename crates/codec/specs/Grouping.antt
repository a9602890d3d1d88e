-- What the records read so far make, while a schedule is read. Proofs use these words; a reader
-- needn't believe them.
use Rattle.std.specs.Prelude.{◌≡◌, ◌≢◌, ⊤, ℕ, ◌+◌, ◌≤◌, List, [], ◌∷◌, ◌++◌, map, length, true, not}
use Rattle.std.specs.Prelude.{Option, Some, None, option_map}
use Rattle.std.specs.List.{list_all, position_from}
use Rattle.duty.specs.Plans.{Plan, plan}
use Rattle.duty.specs.Words.{each_next}
use Rattle.std.specs.Bool.{MatchBool}
use Rattle.duty.specs.declared.fdp.Fdp.{Fdp}
use Rattle.codec.specs.Places.{goes_on, may_stand, standing, first_misplaced}
use Rattle.codec.specs.Schedule.{schedule_segments, periods_segments, shows, differ}
use Rattle.codec.specs.Schedule.{is_faultless_plan}
use Rattle.codec.specs.declared.scheduled.SegmentPlace.{SegmentPlace}
use Rattle.codec.specs.declared.scheduled.ScheduledSegment.{ScheduledSegment}
use Rattle.codec.specs.declared.grouping.Draft.{Draft}
use Rattle.codec.specs.declared.grouping.OpenPeriod.{OpenPeriod}
use Rattle.codec.specs.declared.grouping.OpenPairing.{OpenPairing}
use Rattle.codec.specs.declared.grouping.Grouping.{Grouping}

-- what a draft makes: the number of its first record, and the pairing as a plan
abbrev pub told : Draft → ℕ × Plan
told d = (d.first, plan d.id d.periods.items)

-- the flight duty period that an open period makes of its segments so far
abbrev pub open_fdp : OpenPeriod → Fdp
open_fdp p = record {
  planned_report = p.report;
  report = p.report;
  release = p.release;
  segments = p.segments.items;
}

-- what an open pairing makes so far: the number of its first record, and the pairing as a plan
abbrev pub told_open : OpenPairing → ℕ × Plan
told_open o = (o.draft.first, plan o.draft.id (o.draft.periods.items ++ open_fdp o.period ∷ []))

-- what the open pairing makes so far, if there is one, as a list
abbrev pub told_if_open : Option OpenPairing → List (ℕ × Plan)
told_if_open None = []
told_if_open (Some o) = told_open o ∷ []

-- the pairings that a grouping holds, each with its first record; the last may go on
abbrev pub told_all : Grouping → List (ℕ × Plan)
told_all g = map told g.whole.items ++ told_if_open g.open

-- the plans of these pairings, without the numbers of their first records
abbrev pub plans_of : List (ℕ × Plan) → List Plan
plans_of tolds = map (λ t. t.1) tolds

-- the place of the last segment of an open pairing
abbrev pub open_place : OpenPairing → SegmentPlace
open_place o = record {
  pairing = o.draft.id;
  period = length o.draft.periods.items + 1;
  report = o.period.report;
  release = o.period.release;
}

-- the place of the last segment of a grouping, if there is one
abbrev pub last_place : Grouping → Option SegmentPlace
last_place g = option_map open_place g.open

-- each pairing's number is that of its first record; the first pairing begins at record `n`
abbrev pub AreAt : ℕ → List (ℕ × Plan) → Type 0
AreAt n [] = ⊤
AreAt n (t ∷ ts) = (t.0 ≡ n) × AreAt (n + length (periods_segments t.1.id 1 t.1.periods)) ts

-- The pairings so far show whole, neighbours have different ids, there are at most 10,000, and the
-- first begins at record 2.
abbrev pub AreGrouped : List (ℕ × Plan) → Type 0
AreGrouped tolds =
    (list_all shows (plans_of tolds) ≡ true) × (each_next differ (plans_of tolds) ≡ true)
    × (length tolds ≤ 10_000) × AreAt 2 tolds

-- A grouping holds these segments; without an open pairing it holds no pairing.
abbrev pub IsSoFar : List ScheduledSegment → Grouping → Type 0
IsSoFar done g =
    (schedule_segments (plans_of (told_all g)) ≡ done) × AreGrouped (told_all g)
    × (last_place g ≡ None → told_all g ≡ [])

-- An open pairing holds this segment alone, and begins at this record.
abbrev pub IsBegunWith : ℕ → ScheduledSegment → OpenPairing → Type 0
IsBegunWith first it o =
    (o.draft.first ≡ first) × (o.draft.id ≡ it.place.pairing) × (o.draft.periods.items ≡ [])
    × (o.period.report ≡ it.place.report) × (o.period.release ≡ it.place.release)
    × (o.period.segments.items ≡ it.segment ∷ [])

-- The new pairing has the first record and the id of the old one, its segments, and this segment.
abbrev pub IsLonger : ScheduledSegment → ℕ × Plan → ℕ × Plan → Type 0
IsLonger it was is =
    (is.0 ≡ was.0) × (is.1.id ≡ was.1.id)
    × (periods_segments is.1.id 1 is.1.periods
    ≡ periods_segments was.1.id 1 was.1.periods ++ it ∷ [])
    × (shows was.1 ≡ true → shows is.1 ≡ true)

-- A pairing begins at this record, and has this segment alone.
abbrev pub BeginsWithSegment : ℕ → ScheduledSegment → ℕ × Plan → Type 0
BeginsWithSegment number it is =
    (is.0 ≡ number) × (is.1.id ≡ it.place.pairing)
    × (periods_segments is.1.id 1 is.1.periods ≡ it ∷ []) × (shows is.1 ≡ true)

-- The new list is the old one with this segment added to its last pairing.
abbrev pub Extends : ScheduledSegment → List (ℕ × Plan) → List (ℕ × Plan) → Type 0
Extends it old new =
    (before : List (ℕ × Plan)) × (was is : ℕ × Plan) × (old ≡ before ++ was ∷ [])
    × (new ≡ before ++ is ∷ []) × IsLonger it was is

-- The new list is the old one with one more pairing, which begins at this record with this segment.
abbrev pub Adds : ℕ → ScheduledSegment → List (ℕ × Plan) → List (ℕ × Plan) → Type 0
Adds number it old new = (is : ℕ × Plan) × (new ≡ old ++ is ∷ []) × BeginsWithSegment number it is

-- If a segment goes on with the last pairing, it is added to that pairing; if not, it begins one
-- more pairing.
abbrev pub AddsSegment : ℕ → ScheduledSegment → Grouping → Grouping → Type 0
AddsSegment number it old new =
    MatchBool (goes_on (last_place old) it.place)
    (Extends it (told_all old) (told_all new))
    (Adds number it (told_all old) (told_all new))

-- Of the segments of a schedule the first ones are grouped, and the rest decide which record is the
-- first misplaced.
abbrev pub IsGroupedUpTo : List ScheduledSegment → List ScheduledSegment → List ScheduledSegment →
    Grouping → Type 0
IsGroupedUpTo segments done rest g =
    (done ++ rest ≡ segments) × IsSoFar done g
    × (position_from (λ it. not (may_stand it)) (2 + length done)
    (standing (length (told_all g)) (last_place g) rest) ≡ first_misplaced segments)

-- Record `n` begins the first of these plans that has a fault as a pairing.
abbrev pub IsFirstUnmade : List (ℕ × Plan) → ℕ → Type 0
IsFirstUnmade tolds n =
    (before after : List (ℕ × Plan)) × (t : ℕ × Plan) × (tolds ≡ before ++ t ∷ after)
    × (list_all is_faultless_plan (plans_of before) ≡ true)
    × (is_faultless_plan t.1 ≢ true) × (n ≡ t.0)
