-- Which pairings a schedule in CSV holds, and which record of a schedule is at fault.
use Rattle.std.specs.Prelude.{◌≡◌, ◌<◌, ◌≤◌, ◌⊎◌, ◌≢◌, ℕ, ◌+◌, List, [], ◌∷◌, ◌++◌, map, length}
use Rattle.std.specs.Prelude.{Bool, true, not, ◌&&◌, nat_lt, Some, None, is_some}
use Rattle.std.specs.List.{list_all, AllByRecursion}
use Rattle.std.specs.Str.{bytes_eq}
use Rattle.csv.specs.Reading.{AreRecords, default_config, strip_bom}
use Rattle.csv.specs.declared.parser.State.TheVariants.{StartRecord}
use Rattle.duty.specs.Pairings.{pairing_fault}
use Rattle.duty.specs.Plans.{Plan, as_planned}
use Rattle.duty.specs.Words.{each_next}
use Rattle.duty.specs.declared.fdp.Fdp.{Fdp}
use Rattle.codec.specs.Bounds.{most_bytes}
use Rattle.codec.specs.Places.{first_misplaced}
use Rattle.codec.specs.Records.{is_header, read_record, first_unread}
use Rattle.codec.specs.declared.scheduled.ScheduledSegment.{ScheduledSegment}

-- ---- The records of pairings

-- the segments of a period in turn, each with its place: the period's pairing and number, report
-- and release
abbrev pub period_segments : List ℕ → ℕ → Fdp → List ScheduledSegment
period_segments id number f =
    map (λ s. record {
      place = record { pairing = id; period = number; report = f.report; release = f.release };
      segment = s;
    }) f.segments

-- the segments of periods in turn, the periods numbered from `number` on
abbrev pub periods_segments : List ℕ → ℕ → List Fdp → List ScheduledSegment
periods_segments id number [] = []
periods_segments id number (f ∷ fs) =
    period_segments id number f ++ periods_segments id (number + 1) fs

-- the segments of pairings in turn
abbrev pub schedule_segments : List Plan → List ScheduledSegment
schedule_segments [] = []
schedule_segments (p ∷ ps) = periods_segments p.id 1 p.periods ++ schedule_segments ps

-- ---- A schedule's reading

-- whether a pairing shows whole in its segments: it has a period, and each of its periods has a
-- segment
abbrev pub shows : Plan → Bool
shows p = nat_lt 0 (length p.periods) && list_all (λ f. nat_lt 0 (length f.segments)) p.periods

-- whether two pairings have different ids
abbrev pub differ : Plan → Plan → Bool
differ p q = not (bytes_eq p.id q.id)

-- Each period of the pairing is planned at its report: a schedule holds no other planned report.
abbrev pub IsAsPlanned : Plan → Type 0
IsAsPlanned p = map as_planned p.periods ≡ p.periods

-- The segments are those of these pairings, one after the other, and of no others.
abbrev pub AreOf : List Plan → List ScheduledSegment → Type 0
AreOf plans segments =
    (schedule_segments plans ≡ segments) × (list_all shows plans ≡ true)
    × AllByRecursion IsAsPlanned plans
    × (each_next differ plans ≡ true) × (length plans ≤ 10_000)

-- A text has these records, one byte order mark at its start aside.
abbrev pub HasRecords : List ℕ → List (List (List ℕ)) → Type 0
HasRecords text records = AreRecords default_config StartRecord (strip_bom text) records

-- A text has at most 1,048,576 bytes, and at most one byte order mark at its start.
abbrev pub IsScheduleText : List ℕ → Type 0
IsScheduleText text = (length text ≤ most_bytes) × (strip_bom (strip_bom text) ≡ strip_bom text)

-- A text is the header and then these segments, a record each.
abbrev pub IsHeaderWithSegments : List ℕ → List ScheduledSegment → Type 0
IsHeaderWithSegments text segments =
    IsScheduleText text × (records : List (List (List ℕ))) × (names : List (List ℕ))
    × HasRecords text (names ∷ records) × (is_header names ≡ true)
    × (map read_record records ≡ map Some segments)

-- whether a plan has no fault as a pairing
abbrev pub is_faultless_plan : Plan → Bool
is_faultless_plan p = not (is_some (pairing_fault p))

-- A text is a schedule of these pairings.
abbrev pub IsSchedule : List ℕ → List Plan → Type 0
IsSchedule text plans =
    (segments : List ScheduledSegment) × IsHeaderWithSegments text segments × AreOf plans segments
    × (list_all is_faultless_plan plans ≡ true)

-- ---- The record at fault

-- What isn't read of a text: the text as a whole (record 0), a second byte order mark (record 1),
-- or the first record that isn't read.
abbrev pub IsUnreadRecord : List ℕ → ℕ → Type 0
IsUnreadRecord text n =
    ((most_bytes < length text) × (n ≡ 0))
    ⊎ ((length text ≤ most_bytes) × (strip_bom (strip_bom text) ≢ strip_bom text) × (n ≡ 1))
    ⊎ (IsScheduleText text × (records : List (List (List ℕ))) × HasRecords text records
    × (first_unread records ≡ Some n))

-- Record `n` begins the first of these plans that has a fault as a pairing.
abbrev pub IsFaultyPlanAt : List Plan → ℕ → Type 0
IsFaultyPlanAt plans n =
    (before after : List Plan) × (p : Plan) × (plans ≡ before ++ p ∷ after)
    × (list_all is_faultless_plan before ≡ true) × (is_faultless_plan p ≢ true)
    × (n ≡ 2 + length (schedule_segments before))

-- Record `n` is at fault in the first pass that finds a fault: a record that isn't read, one that
-- may not stand where it does, or the first record of a plan that is no pairing.
abbrev pub IsAtFault : List ℕ → ℕ → Type 0
IsAtFault text n =
    IsUnreadRecord text n
    ⊎ ((segments : List ScheduledSegment) × IsHeaderWithSegments text segments
    × ((first_misplaced segments ≡ Some n)
    ⊎ ((first_misplaced segments ≡ None) × (plans : List Plan) × AreOf plans segments
    × IsFaultyPlanAt plans n)))
