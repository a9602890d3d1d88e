-- The records of `outside_segment` by their keys, and the outside period that the records give. Of
-- the crates above `loading` no public clause names a word of this file.
use Rattle.std.specs.Prelude.{◌≡◌, ◌⊎◌, ◌↔◌, ℕ, true, List, [], ◌∷◌, map, take, length, Some}
use Rattle.std.specs.FinMap as fin
use Rattle.values.specs.Name.{name_cmp, text_then}
use Rattle.sqlite_value.specs.Order.{Row}
use Rattle.sqlite_rules.specs.Lists.{Has}
use Rattle.roster.specs.declared.state.OutsideEntry.{OutsideEntry}
use Rattle.tables.specs.Records.{outside_segment_row}
use Rattle.tables.specs.declared.outside.OutsideRecord.{OutsideRecord}
use Rattle.tables.specs.declared.outside_segment.OutsideSegmentRecord.{OutsideSegmentRecord}
use Rattle.entries.specs.OneOutside.{IsOutsideToldBy, GiveNoOutside}
use Rattle.entries.specs.PlanRows.{HasNoGap}
use Rattle.entries.specs.Mapping.{AreOnce, HasStranger, Mapped}
use Rattle.entries.specs.declared.outside_rows.OutsideSegmentKey.{OutsideSegmentKey}

-- ---- The table `outside`

-- a map has the records of `outside` by their ids
abbrev pub Outsides : Type 0
Outsides = fin.FinMap name_cmp OutsideRecord

-- ---- The table `outside_segment`

-- a map has the records of `outside_segment` by the names of their keys
abbrev pub OutsideSegments : Type 0
OutsideSegments = fin.FinMap name_cmp OutsideSegmentRecord

-- a key of `outside_segment` makes this name; the names are in the order of outside period and
-- number
abbrev pub outside_segment_name : List ℕ → ℕ → List ℕ
outside_segment_name outside number = text_then outside (number ∷ [])

-- a key of `outside_segment` is ordered by this name
abbrev pub name_of_outside_segment : OutsideSegmentKey → List ℕ
name_of_outside_segment key = outside_segment_name key.outside key.number

-- a record under a key has this row in `outside_segment`
abbrev pub row_of_keyed_outside_segment : OutsideSegmentKey → OutsideSegmentRecord → Row
row_of_keyed_outside_segment key it =
    outside_segment_row (record it { outside = key.outside; number = key.number })

-- the record of a segment stands under its key, and is of one of the outside periods `outsides`
pub record IsKeyedOutsideSegment
    (outsides : Outsides) (key : OutsideSegmentKey) (it : OutsideSegmentRecord) : Type 0 where
  pub outside : it.outside ≡ key.outside
  pub number : it.number ≡ key.number
  pub of_outside : fin.contains_key outsides it.outside ≡ true

-- the map has just this many first records of `outside_segment`, by their keys
pub record OutsideSegmentsRead
    (outsides : Outsides) (records : List OutsideSegmentRecord) (count : ℕ)
    (segments : OutsideSegments) : Type 0 where
  pub mapped : AreOnce row_of_keyed_outside_segment (map outside_segment_row records) →
      Mapped name_of_outside_segment row_of_keyed_outside_segment (IsKeyedOutsideSegment outsides)
      (take count (map outside_segment_row records)) segments

-- the segments of each outside period are numbered from 1 without a gap
abbrev pub HasNoOutsideGaps : OutsideSegments → Type 0
HasNoOutsideGaps segments = (outside : List ℕ) →
    HasNoGap (λ number. fin.get segments (outside_segment_name outside number))

-- the map has all records of `outside_segment`, by their keys, and the segments of each outside
-- period are numbered without a gap
abbrev pub AreOutsideSegmentsWhole :
    Outsides → List OutsideSegmentRecord → OutsideSegments → Type 0
AreOutsideSegmentsWhole outsides records segments =
    OutsideSegmentsRead outsides records (length records) segments × HasNoOutsideGaps segments

-- some record of `outside_segment` is of none of the outside periods, or the records leave a gap in
-- the numbers of segments
abbrev pub AreOutsideSegmentsWanting : Outsides → List OutsideSegmentRecord → Type 0
AreOutsideSegmentsWanting outsides records =
    HasStranger row_of_keyed_outside_segment (IsKeyedOutsideSegment outsides)
    (map outside_segment_row records)
    ⊎ ((segments : OutsideSegments) × OutsideSegmentsRead outsides records (length records) segments
    × (HasNoOutsideGaps segments → ⊥))

-- ---- The outside periods

-- these records have just the rows of the segments of one outside period
abbrev pub AreSegmentsOf : OutsideSegments → List ℕ → List OutsideSegmentRecord → Type 0
AreSegmentsOf segments outside its = (row : Row) → Has (map outside_segment_row its) row
    ↔ ((number : ℕ) × (it : OutsideSegmentRecord)
    × (fin.get segments (outside_segment_name outside number) ≡ Some it)
    × (row ≡ outside_segment_row it))

-- an outside period has a thirteenth segment
abbrev pub HasTooMany : OutsideSegments → List ℕ → Type 0
HasTooMany segments outside = (it : OutsideSegmentRecord)
    × (fin.get segments (outside_segment_name outside 13) ≡ Some it)

-- a record of `outside` and the records of its segments give this outside period
abbrev pub IsMadeFrom : OutsideSegments → List ℕ → OutsideRecord → OutsideEntry → Type 0
IsMadeFrom segments id it o = (its : List OutsideSegmentRecord) × AreSegmentsOf segments id its
    × IsOutsideToldBy it its o

-- a record of `outside` and the records of its segments give no outside period
abbrev pub SaysNoOutside : OutsideSegments → List ℕ → OutsideRecord → Type 0
SaysNoOutside segments id it =
    HasTooMany segments id
    ⊎ ((its : List OutsideSegmentRecord) × AreSegmentsOf segments id its × GiveNoOutside it its)

-- the outside periods of a map are just those of the records of `outside`, as these and the records
-- of the segments give them
pub record OutsidesMade
    (outsides : Outsides) (segments : OutsideSegments) (made : fin.FinMap name_cmp OutsideEntry)
    : Type 0 where
  pub known : (id : List ℕ) (o : OutsideEntry) → fin.get made id ≡ Some o →
      (it : OutsideRecord) × (fin.get outsides id ≡ Some it) × IsMadeFrom segments id it o
  pub all : (id : List ℕ) → fin.contains_key outsides id ≡ true →
      fin.contains_key made id ≡ true

-- some record of `outside`, with the records of its segments, gives no outside period
pub record HasUnmade (outsides : Outsides) (segments : OutsideSegments) : Type 0 where
  pub id : List ℕ
  pub it : OutsideRecord
  pub here : fin.get outsides id ≡ Some it
  pub unmade : SaysNoOutside segments id it
