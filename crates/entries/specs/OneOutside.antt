-- What is read of one outside period, from its record and the records of its segments.
use Rattle.std.specs.Prelude.{◌≡◌, ◌⊎◌, ◌↔◌, ◌+◌, ◌<◌, ℕ, true, false, List, length, map, Option, None, Some, slice_get}
use Rattle.std.specs.List.{list_all}
use Rattle.sqlite_value.specs.Order.{Row}
use Rattle.sqlite_rules.specs.Lists.{Has}
use Rattle.duty.specs.Pairings.{outside_fault}
use Rattle.duty.specs.declared.segment.BlockTimes.{BlockTimes}
use Rattle.roster.specs.declared.state.OutsideEntry.{OutsideEntry}
use Rattle.stored_json.specs.Instants.{is_instant, times_have_instants}
use Rattle.tables.specs.Records.{outside_segment_row}
use Rattle.tables.specs.declared.outside.OutsideRecord.{OutsideRecord}
use Rattle.tables.specs.declared.outside_segment.OutsideSegmentRecord.{OutsideSegmentRecord}
use Rattle.state_rows.specs.Rows.{OutsideSegmentOf, row_of_outside_segment}

-- a record of `outside` and records of `outside_segment` give this outside period: it is one that
-- `Outside::new` makes, and the records of segments have just the rows of its segments
pub record IsOutsideToldBy
    (it : OutsideRecord) (segments : List OutsideSegmentRecord) (o : OutsideEntry) : Type 0 where
  pub crew : o.crew ≡ it.crew
  pub named : o.period.id ≡ it.id
  pub report : o.period.report ≡ it.report_at
  pub release : o.period.release ≡ it.release_at
  pub report_instant : is_instant it.report_at ≡ true
  pub release_instant : is_instant it.release_at ≡ true
  pub instants : list_all times_have_instants o.period.segments ≡ true
  pub made : outside_fault o.period ≡ None
  pub rows : (row : Row) → Has (map outside_segment_row segments) row
      ↔ ((g : OutsideSegmentOf o.period) × (row ≡ row_of_outside_segment it.id g.place g.times))

-- a record of `outside` and records of `outside_segment` give no outside period
abbrev pub GiveNoOutside : OutsideRecord → List OutsideSegmentRecord → Type 0
GiveNoOutside it segments = (o : OutsideEntry) → IsOutsideToldBy it segments o → ⊥

-- ---- The segments by their numbers

-- a record of `outside_segment` has these times of block-out and block-in
abbrev pub times_in : OutsideSegmentRecord → BlockTimes
times_in it = record { block_out = it.out_at; block_in = it.in_at }

-- the record `it` is one of these records of `outside_segment`, and has this number
pub record HasNumber
    (segments : List OutsideSegmentRecord) (number : ℕ) (it : OutsideSegmentRecord)
    : Type 0 where
  pub place : ℕ
  pub here : slice_get segments place ≡ Some it
  pub numbered : it.number ≡ number

-- a record of `outside_segment` with this number is found, or none is found and no record has the
-- number
abbrev pub IsNumbered : List OutsideSegmentRecord → ℕ → Option OutsideSegmentRecord → Type 0
IsNumbered segments number None = (it : OutsideSegmentRecord) → HasNumber segments number it → ⊥
IsNumbered segments number (Some it) = HasNumber segments number it

-- the segment at this place of an outside period has a record of its number, with these times
abbrev pub HasTimesAt : List OutsideSegmentRecord → ℕ → BlockTimes → Type 0
HasTimesAt segments i times =
    (it : OutsideSegmentRecord) × HasNumber segments (i + 1) it × (times ≡ times_in it)

-- these are the times of the records of `outside_segment` with the numbers 1, 2 and so on, up to
-- the first number that no record has
pub record AreTimesInTurn (segments : List OutsideSegmentRecord) (all : List BlockTimes)
    : Type 0 where
  pub each : (i : ℕ) (times : BlockTimes) → slice_get all i ≡ Some times →
      HasTimesAt segments i times
  pub instants : list_all times_have_instants all ≡ true
  pub none_after : (it : OutsideSegmentRecord) → HasNumber segments (length all + 1) it → ⊥

-- some record of `outside_segment` has a number above 12, or times that are no instants
pub record HasBadTimes (segments : List OutsideSegmentRecord) : Type 0 where
  pub number : ℕ
  pub it : OutsideSegmentRecord
  pub has : HasNumber segments number it
  pub bad : (12 < number) ⊎ (times_have_instants (times_in it) ≡ false)

-- a record is that of a segment of this outside period, where the segments of the period have these
-- times in turn
pub record IsSegmentAmong (id : List ℕ) (all : List BlockTimes) (it : OutsideSegmentRecord)
    : Type 0 where
  pub place : ℕ
  pub times : BlockTimes
  pub there : slice_get all place ≡ Some times
  pub is : it ≡ record {
    outside = id;
    number = place + 1;
    out_at = times.block_out;
    in_at = times.block_in;
  }

-- each of these records is that of a segment of this outside period
abbrev pub AreAllOf : List ℕ → List BlockTimes → List OutsideSegmentRecord → Type 0
AreAllOf id all segments = (i : ℕ) (it : OutsideSegmentRecord) → slice_get segments i ≡ Some it →
    IsSegmentAmong id all it

-- some record of the list is that of no segment of this outside period
pub record HasNoSegmentOf (id : List ℕ) (all : List BlockTimes)
    (segments : List OutsideSegmentRecord) : Type 0 where
  pub place : ℕ
  pub it : OutsideSegmentRecord
  pub here : slice_get segments place ≡ Some it
  pub none : IsSegmentAmong id all it → ⊥
