-- The records of `period` and `segment` by their keys. Of the crates above `loading` and `lookup`
-- no public clause names a word of this file.
use Rattle.std.specs.Prelude.{◌≡◌, ◌⊎◌, ◌+◌, ⊤, ℕ, true, List, map, take, Option, Some}
use Rattle.std.specs.FinMap as fin
use Rattle.values.specs.Name.{name_cmp}
use Rattle.sqlite_value.specs.Order.{Row}
use Rattle.stored_json.specs.Instants.{is_instant}
use Rattle.tables.specs.Records.{IsNumber, period_row, segment_row, IsSegmentRow}
use Rattle.tables.specs.declared.period.PeriodRecord.{PeriodRecord}
use Rattle.tables.specs.declared.segment.SegmentRecord.{SegmentRecord}
use Rattle.entries.specs.Right.{IsInstantIfAny}
use Rattle.entries.specs.PlanRows.{Periods, Segments, AreUngapped, HasNoGaps, period_name, segment_name}
use Rattle.entries.specs.Mapping.{AreOnce, HasStranger, Mapped}
use Rattle.entries.specs.declared.plan_rows.PeriodKey.{PeriodKey}
use Rattle.entries.specs.declared.plan_rows.SegmentKey.{SegmentKey}
use Rattle.sqlite_rules.specs.Lists.{Has}
use Rattle.sqlite.specs.Effect.{Database}
use Rattle.tables.specs.Rows.{rows_of}
use Rattle.tables.specs.Schema.{IsOfBook, period_table, segment_table}

-- the number is 1, or one more than a number under which something is found
abbrev pub Follows : {V : Type 0} → (ℕ → Option V) → ℕ → Type 0
Follows {V} get number =
    (number ≡ 1) ⊎ ((before : ℕ) × (other : V) × (before + 1 ≡ number) × (get before ≡ Some other))

-- ---- The ids of pairings

-- a map has ids of pairings, with nothing under them
abbrev pub Ids : Type 0
Ids = fin.FinMap name_cmp ⊤

-- ---- Periods by their keys

-- a period's key is ordered by this name
abbrev pub name_of_period : PeriodKey → List ℕ
name_of_period key = period_name key.pairing key.number

-- a record under a key has this row in `period`
abbrev pub row_of_keyed_period : PeriodKey → PeriodRecord → Row
row_of_keyed_period key it = period_row (record it { pairing = key.pairing; number = key.number })

-- the times of a record of `period` are instants
abbrev pub AtInstants : PeriodRecord → Type 0
AtInstants it = (is_instant it.report_at ≡ true) × (is_instant it.release_at ≡ true)
    × IsInstantIfAny it.act_report × IsInstantIfAny it.act_release

-- the record of a period stands under its key, at instants, and is of one of the pairings `ids`
pub record IsKeyedPeriod (ids : Ids) (key : PeriodKey) (it : PeriodRecord) : Type 0 where
  pub pairing : it.pairing ≡ key.pairing
  pub number : it.number ≡ key.number
  pub fits : IsNumber it.number
  pub instants : AtInstants it
  pub of_pairing : fin.contains_key ids it.pairing ≡ true

-- the map has just this many first records of `period`, by their keys
pub record PeriodsRead
    (ids : Ids) (records : List PeriodRecord) (count : ℕ) (periods : Periods) : Type 0 where
  pub mapped : AreOnce row_of_keyed_period (map period_row records) →
      Mapped name_of_period row_of_keyed_period (IsKeyedPeriod ids)
      (take count (map period_row records)) periods

-- the map has just this many first records of `period`, by their keys, and the periods of each
-- pairing are numbered without a gap
abbrev pub ArePeriodsWhole : Ids → List PeriodRecord → ℕ → Periods → Type 0
ArePeriodsWhole ids records count periods =
    PeriodsRead ids records count periods × AreUngapped periods

-- some record of `period` has no key of one of the pairings, or the records leave a gap in the
-- numbers of periods
abbrev pub ArePeriodsWanting : Ids → List PeriodRecord → ℕ → Type 0
ArePeriodsWanting ids records count =
    HasStranger row_of_keyed_period (IsKeyedPeriod ids) (map period_row records)
    ⊎ ((periods : Periods) × PeriodsRead ids records count periods × (AreUngapped periods → ⊥))

-- ---- Segments by their keys

-- a segment's key is ordered by this name
abbrev pub name_of_segment : SegmentKey → List ℕ
name_of_segment key = segment_name key.pairing key.period key.number

-- a record under a key has this row in `segment`
abbrev pub row_of_keyed_segment : SegmentKey → SegmentRecord → Row
row_of_keyed_segment key it = segment_row (record it {
  pairing = key.pairing;
  period = key.period;
  number = key.number;
})

-- the record of a segment stands under its key, and is of one of the periods `periods`
pub record IsKeyedSegment (periods : Periods) (key : SegmentKey) (it : SegmentRecord) : Type 0 where
  pub pairing : it.pairing ≡ key.pairing
  pub period : it.period ≡ key.period
  pub number : it.number ≡ key.number
  pub of_period : fin.contains_key periods (period_name it.pairing it.period) ≡ true

-- the map has just this many first records of `segment`, by their keys
pub record SegmentsRead
    (periods : Periods) (records : List SegmentRecord) (count : ℕ) (segments : Segments)
    : Type 0 where
  pub mapped : AreOnce row_of_keyed_segment (map segment_row records) →
      Mapped name_of_segment row_of_keyed_segment (IsKeyedSegment periods)
      (take count (map segment_row records)) segments

-- the map has just this many first records of `segment`, by their keys, and the segments of each
-- period are numbered without a gap
abbrev pub AreSegmentsWhole : Periods → List SegmentRecord → ℕ → Segments → Type 0
AreSegmentsWhole periods records count segments =
    SegmentsRead periods records count segments × HasNoGaps segments

-- some record of `segment` has no key of one of the periods, or the records leave a gap in the
-- numbers of segments
abbrev pub AreSegmentsWanting : Periods → List SegmentRecord → ℕ → Type 0
AreSegmentsWanting periods records count =
    HasStranger row_of_keyed_segment (IsKeyedSegment periods) (map segment_row records)
    ⊎ ((segments : Segments) × SegmentsRead periods records count segments
    × (HasNoGaps segments → ⊥))

-- a row of `segment` is of a period that is there, and its number is 1 or one more than that of
-- another segment of the period
pub record IsSegmentOf (db : Database) (row : Row) : Type 0 where
  pub it : SegmentRecord
  pub is : row ≡ segment_row it
  pub of_period : (period : PeriodRecord) × Has (rows_of period_table db) (period_row period)
      × (period.pairing ≡ it.pairing) × (period.number ≡ it.period)
  pub no_gap : (it.number ≡ 1)
      ⊎ ((before : SegmentRecord) × Has (rows_of segment_table db) (segment_row before)
      × (before.pairing ≡ it.pairing) × (before.period ≡ it.period)
      × (before.number + 1 ≡ it.number))

-- the table `segment` is there, its rows are records, and it fits the tables above it as far as
-- rows alone show
abbrev pub IsSegmentTable : Database → Type 0
IsSegmentTable db = IsOfBook segment_table db.schema
    × ((row : Row) → Has (rows_of segment_table db) row → IsSegmentRow row)
    × ((row : Row) → Has (rows_of segment_table db) row → IsSegmentOf db row)
