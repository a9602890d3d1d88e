-- The rows of the tables `period` and `segment` by their keys, and the pairing that the rows give.
-- No public clause names a word of this file.
use Rattle.std.specs.Prelude.{◌≡◌, ◌⊎◌, ◌+◌, ◌<◌, ◌≤◌, ⊤, ℕ, true, List, [], ◌∷◌, length, Option, None, Some, slice_get}
use Rattle.std.specs.FinMap as fin
use Rattle.std.specs.Option.{option_map}
use Rattle.values.specs.Name.{name_cmp, text_then}
use Rattle.sqlite_value.specs.Order.{Row}
use Rattle.duty.specs.Pairings.{pairing_fault, actual_fault}
use Rattle.duty.specs.Plans.{ActualTimes}
use Rattle.duty.specs.declared.fdp.Fdp.{Fdp}
use Rattle.duty.specs.declared.segment.BlockTimes.{BlockTimes}
use Rattle.duty.specs.declared.segment.Segment.{Segment}
use Rattle.stored_json.specs.Instants.{is_instant, segment_has_instants}
use Rattle.roster.specs.declared.state.PairingEntry.{PairingEntry}
use Rattle.tables.specs.Records.{period_row, segment_row}
use Rattle.tables.specs.declared.period.PeriodRecord.{PeriodRecord}
use Rattle.tables.specs.declared.segment.SegmentRecord.{SegmentRecord}
use Rattle.state_rows.specs.Rows.{times_flown}

-- a period's key makes this name; the names are in the order of pairing and number
abbrev pub period_name : List ℕ → ℕ → List ℕ
period_name pairing number = text_then pairing (number ∷ [])

-- a segment's key makes this name; the names are in the order of pairing, period and number
abbrev pub segment_name : List ℕ → ℕ → ℕ → List ℕ
segment_name pairing period number = text_then pairing (period ∷ number ∷ [])

-- a map has the records of `period` by the names of their keys
abbrev pub Periods : Type 0
Periods = fin.FinMap name_cmp PeriodRecord

-- a map has the records of `segment` by the names of their keys
abbrev pub Segments : Type 0
Segments = fin.FinMap name_cmp SegmentRecord

-- the numbers under which something is found run from 1 without a gap
abbrev pub HasNoGap : {V : Type 0} → (ℕ → Option V) → Type 0
HasNoGap {V} get = (number : ℕ) (it : V) → get number ≡ Some it →
    (number ≡ 1) ⊎ ((before : ℕ) × (other : V) × (before + 1 ≡ number) × (get before ≡ Some other))

-- the segments of each period are numbered from 1 without a gap
abbrev pub HasNoGaps : Segments → Type 0
HasNoGaps segments = (pairing : List ℕ) (period : ℕ) →
    HasNoGap (λ number. fin.get segments (segment_name pairing period number))

-- the periods of each pairing are numbered from 1 without a gap
abbrev pub AreUngapped : Periods → Type 0
AreUngapped periods = (pairing : List ℕ) →
    HasNoGap (λ number. fin.get periods (period_name pairing number))

-- `Is` holds of the two elements at each place that two lists have
abbrev pub EachBeside : {A B : Type 0} → (ℕ → A → B → Type 0) → List A → List B → Type 0
EachBeside {A} {B} Is xs ys = (i : ℕ) (x : A) (y : B) →
    slice_get xs i ≡ Some x → slice_get ys i ≡ Some y → Is i x y

-- ---- Times

-- two numbers are there and are instants, and make these times; or neither number is there, and
-- there are no times
abbrev pub AreTimes : Option ℕ → Option ℕ → Option (ℕ × ℕ) → Type 0
AreTimes None None None = ⊤
AreTimes (Some first) (Some second) (Some times) =
    (times ≡ (first, second)) × (is_instant first ≡ true) × (is_instant second ≡ true)
AreTimes _ _ _ = ⊥

-- a segment was flown with this block-out and this block-in
abbrev pub block_pair : BlockTimes → ℕ × ℕ
block_pair t = (t.block_out, t.block_in)

-- an actual has this report and this release
abbrev pub actual_pair : ActualTimes → ℕ × ℕ
actual_pair a = (a.report, a.release)

-- ---- A segment

-- a record of `segment` gives this segment as it is planned
abbrev pub planned_segment : SegmentRecord → Segment
planned_segment it = record {
  flight = it.flight;
  from = it.origin;
  block_out = it.out_at;
  to = it.destination;
  block_in = it.in_at;
}

-- a record of `segment` gives this segment, with these times if it was flown
pub record IsSegment
    (it : SegmentRecord) (segment : Segment) (times : Option BlockTimes) : Type 0 where
  pub planned : segment ≡ planned_segment it
  pub instants : segment_has_instants segment ≡ true
  pub flown : AreTimes it.act_out it.act_in (option_map block_pair times)

-- the segment at this place of a period has a record, which gives the segment and its times as
-- flown
abbrev pub HasRowOf : Segments → List ℕ → ℕ → ℕ → Segment → Option BlockTimes → Type 0
HasRowOf segments id period i segment times =
    (it : SegmentRecord) × (fin.get segments (segment_name id period (i + 1)) ≡ Some it)
    × IsSegment it segment times

-- these are the segments that have a record under the number of the period, in turn, with their
-- times as flown
pub record AreSegments
    (segments : Segments) (id : List ℕ) (period : ℕ) (planned : List Segment)
    (flown : List (Option BlockTimes)) : Type 0 where
  pub count : length flown ≡ length planned
  pub few : length planned ≤ 12
  pub each : EachBeside (HasRowOf segments id period) planned flown
  pub none_after : fin.get segments (segment_name id period (length planned + 1)) ≡ None

-- some record under the number of the period gives no segment, or has a number above 12
abbrev pub HasNoSegments : Segments → List ℕ → ℕ → Type 0
HasNoSegments segments id period =
    (number : ℕ) × (it : SegmentRecord)
    × (fin.get segments (segment_name id period number) ≡ Some it)
    × ((12 < number)
    ⊎ ((segment : Segment) (times : Option BlockTimes) → IsSegment it segment times → ⊥))

-- ---- A period

-- the actual of a period has these times, and these times of its segments in turn; where there are
-- no times, there is no actual
pub record IsActualOf
    (number : ℕ) (times : Option (ℕ × ℕ)) (flown : List (Option BlockTimes))
    (actual : Option ActualTimes) : Type 0 where
  pub times_are : option_map actual_pair actual ≡ times
  pub each : (i : ℕ) (t : Option BlockTimes) → slice_get flown i ≡ Some t → t ≡ times_flown actual i
  pub whole : (a : ActualTimes) → actual ≡ Some a →
      (a.period ≡ number) × (length flown ≡ length a.segments) × (actual_fault a ≡ None)

-- the segments of a period are just those that have a record under the period's number, each with
-- its times in the actual
pub record HasSegments
    (segments : Segments) (id : List ℕ) (period : ℕ) (fdp : Fdp) (actual : Option ActualTimes)
    : Type 0 where
  pub each : (i : ℕ) (segment : Segment) → slice_get fdp.segments i ≡ Some segment →
      HasRowOf segments id period i segment (times_flown actual i)
  pub all : (number : ℕ) (it : SegmentRecord) →
      fin.get segments (segment_name id period number) ≡ Some it →
      (i : ℕ) × (number ≡ i + 1) × (i < length fdp.segments)

-- a record of `period` gives this period of a pairing, by its number, with this actual if it was
-- flown
pub record IsReadPeriod
    (segments : Segments) (id : List ℕ) (number : ℕ) (it : PeriodRecord) (fdp : Fdp)
    (actual : Option ActualTimes) : Type 0 where
  pub planned : fdp.planned_report ≡ fdp.report
  pub report : fdp.report ≡ it.report_at
  pub release : fdp.release ≡ it.release_at
  pub report_instant : is_instant fdp.report ≡ true
  pub release_instant : is_instant fdp.release ≡ true
  pub few : length fdp.segments ≤ 12
  pub flown : AreTimes it.act_report it.act_release (option_map actual_pair actual)
  pub whole : (a : ActualTimes) → actual ≡ Some a →
      (a.period ≡ number) × (length fdp.segments ≡ length a.segments) × (actual_fault a ≡ None)
  pub has_segments : HasSegments segments id number fdp actual

-- the period at this place of a pairing has a record, which gives the period and its actual
abbrev pub HasPeriodRow : Periods → Segments → List ℕ → ℕ → Fdp → Option ActualTimes → Type 0
HasPeriodRow periods segments id i fdp actual =
    (it : PeriodRecord) × (fin.get periods (period_name id (i + 1)) ≡ Some it)
    × IsReadPeriod segments id (i + 1) it fdp actual

-- these are the periods that have a record under the pairing, in turn, with their actuals
pub record ArePeriodsRead
    (periods : Periods) (segments : Segments) (id : List ℕ) (planned : List Fdp)
    (actuals : List (Option ActualTimes)) : Type 0 where
  pub count : length actuals ≡ length planned
  pub each : EachBeside (HasPeriodRow periods segments id) planned actuals
  pub none_after : fin.get periods (period_name id (length planned + 1)) ≡ None

-- some record under the pairing gives no period, or has a number above 10
abbrev pub HasNoPeriods : Periods → Segments → List ℕ → Type 0
HasNoPeriods periods segments id =
    (number : ℕ) × (it : PeriodRecord) × (fin.get periods (period_name id number) ≡ Some it)
    × ((10 < number)
    ⊎ ((fdp : Fdp) (actual : Option ActualTimes) →
    IsReadPeriod segments id number it fdp actual → ⊥))

-- ---- A pairing

-- the records of `period` and `segment` give this pairing: its periods are just those that have a
-- record
pub record IsPairingOfRows
    (periods : Periods) (segments : Segments) (id : List ℕ) (r : PairingEntry) : Type 0 where
  pub named : r.plan.id ≡ id
  pub plan : pairing_fault r.plan ≡ None
  pub places : length r.actuals ≡ length r.plan.periods
  pub each : EachBeside (HasPeriodRow periods segments id) r.plan.periods r.actuals
  pub all : (number : ℕ) (it : PeriodRecord) → fin.get periods (period_name id number) ≡ Some it →
      (i : ℕ) × (number ≡ i + 1) × (i < length r.plan.periods)

-- ---- The rows of the tables

-- each record of `period` stands under its own key
abbrev pub ArePeriodsKeyed : Periods → Type 0
ArePeriodsKeyed periods = (key : List ℕ) (it : PeriodRecord) → fin.get periods key ≡ Some it →
    key ≡ period_name it.pairing it.number

-- each record of `segment` stands under its own key
abbrev pub AreSegmentsKeyed : Segments → Type 0
AreSegmentsKeyed segments = (key : List ℕ) (it : SegmentRecord) → fin.get segments key ≡ Some it →
    key ≡ segment_name it.pairing it.period it.number

-- the row is that of a record of `period` which stands under its own key
abbrev pub PeriodRows : Periods → Row → Type 0
PeriodRows periods row =
    (it : PeriodRecord) × (fin.get periods (period_name it.pairing it.number) ≡ Some it)
    × (row ≡ period_row it)

-- the row is that of a record of `segment` which stands under its own key
abbrev pub SegmentRows : Segments → Row → Type 0
SegmentRows segments row =
    (it : SegmentRecord)
    × (fin.get segments (segment_name it.pairing it.period it.number) ≡ Some it)
    × (row ≡ segment_row it)
