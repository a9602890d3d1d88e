-- What is read of the tables `pairing`, `period` and `segment`. No public clause names a word of
-- this file.
use Rattle.std.specs.Prelude.{◌≡◌, ⊤, ℕ, true, List, map, take, Some}
use Rattle.std.specs.FinMap as fin
use Rattle.sqlite_value.specs.Order.{Row}
use Rattle.sqlite_rules.specs.Lists.{Has}
use Rattle.sqlite.specs.Effect.{Database}
use Rattle.duty.specs.Shape.{is_id}
use Rattle.roster.specs.State.{State}
use Rattle.roster.specs.declared.state.PairingEntry.{PairingEntry}
use Rattle.tables.specs.Records.{pairing_row}
use Rattle.tables.specs.Rows.{IsStored, rows_of}
use Rattle.tables.specs.Schema.{IsOfBook, pairing_table, period_table, segment_table}
use Rattle.tables.specs.declared.pairing.PairingRecord.{PairingRecord}
use Rattle.tables.specs.declared.segment.SegmentRecord.{SegmentRecord}
use Rattle.entries.specs.Right.{ArePeriods}
use Rattle.entries.specs.PlanRows.{Periods, Segments, PeriodRows, SegmentRows, ArePeriodsKeyed, AreSegmentsKeyed, AreUngapped, HasNoGaps, IsPairingOfRows, period_name}
use Rattle.entries.specs.Mapping.{Mapped}
use Rattle.loading.specs.Reading.{HasNoHolder}
use Rattle.state_rows.specs.Rows.{HasJust, row_of_pairing}
use Rattle.entries.specs.Keyed.{Ids}

-- ---- The ids of pairings

-- an id has this row in `pairing`
abbrev pub row_of_id : List ℕ → ⊤ → Row
row_of_id id _ = row_of_pairing id

-- the id of a pairing has the shape of an id
abbrev pub IsId : List ℕ → ⊤ → Type 0
IsId id _ = is_id id ≡ true

-- the map has just the ids of this many first records of `pairing`
pub record IdsRead (records : List PairingRecord) (count : ℕ) (ids : Ids) : Type 0 where
  pub mapped : Mapped (λ id. id) row_of_id IsId (take count (map pairing_row records)) ids

-- the row is that of an id in `pairing`, and the id has the shape of an id
abbrev pub IsIdRow : Row → Type 0
IsIdRow row = (id : List ℕ) × (row ≡ row_of_pairing id) × (is_id id ≡ true)

-- the table `pairing` is there, and each of its rows has an id in the shape of an id
abbrev pub AreIds : Database → Type 0
AreIds db = IsOfBook pairing_table db.schema
    × ((row : Row) → Has (rows_of pairing_table db) row → IsIdRow row)

-- the row is that of one of these ids in `pairing`
abbrev pub IdRows : Ids → Row → Type 0
IdRows ids row = (id : List ℕ) × (fin.contains_key ids id ≡ true) × (row ≡ row_of_pairing id)

-- the table `pairing` is there with just the rows of the ids, each in the shape of an id
pub record HasIds (db : Database) (ids : Ids) : Type 0 where
  pub stored : IsStored pairing_table db
  pub there : IsOfBook pairing_table db.schema
  pub rows : HasJust pairing_table db (IdRows ids)
  pub shaped : (id : List ℕ) → fin.contains_key ids id ≡ true → is_id id ≡ true

-- ---- Periods by their keys

-- the table `period` is there, and fits the table `pairing`
abbrev pub IsPeriodTable : Database → Type 0
IsPeriodTable db = IsOfBook period_table db.schema × ArePeriods db

-- the table `period` is there, fits the table `pairing`, and has just the rows of these periods,
-- each under its key
pub record HasPeriods (db : Database) (periods : Periods) : Type 0 where
  pub stored : IsStored period_table db
  pub right : IsPeriodTable db
  pub rows : HasJust period_table db (PeriodRows periods)
  pub keyed : ArePeriodsKeyed periods
  pub ungapped : AreUngapped periods

-- ---- Segments by their keys

-- each of the segments is of one of the periods
abbrev pub AreOfPeriods : Periods → Segments → Type 0
AreOfPeriods periods segments =
    (key : List ℕ) (it : SegmentRecord) → fin.get segments key ≡ Some it →
    fin.contains_key periods (period_name it.pairing it.period) ≡ true

-- the table `segment` is there, and has just the rows of these segments, each under its key and of
-- one of the periods; the segments of each period are numbered without a gap
pub record HasSegmentsOf (db : Database) (periods : Periods) (segments : Segments) : Type 0 where
  pub stored : IsStored segment_table db
  pub there : IsOfBook segment_table db.schema
  pub rows : HasJust segment_table db (SegmentRows segments)
  pub keyed : AreSegmentsKeyed segments
  pub of_periods : AreOfPeriods periods segments
  pub ungapped : HasNoGaps segments

-- ---- Pairings

-- the rows of `period` and `segment` give this pairing under one of the ids, with both seats free
pub record IsPairingOf
    (ids : Ids) (periods : Periods) (segments : Segments) (id : List ℕ) (r : PairingEntry)
    : Type 0 where
  pub of_id : fin.contains_key ids id ≡ true
  pub told : IsPairingOfRows periods segments id r
  pub free : HasNoHolder r

-- just the pairings that the rows give under these ids are set in a roster
pub record PairingsRead
    (ids : Ids) (periods : Periods) (segments : Segments) (old new : State) : Type 0 where
  pub same : new ≡ record old { pairings = new.pairings }
  pub known : (id : List ℕ) (r : PairingEntry) → fin.get new.pairings id ≡ Some r →
      IsPairingOf ids periods segments id r
  pub all : (id : List ℕ) → fin.contains_key ids id ≡ true →
      fin.contains_key new.pairings id ≡ true

-- the rows of `period` and `segment` give no pairing under one of the ids
pub record HasUntold (ids : Ids) (periods : Periods) (segments : Segments) : Type 0 where
  pub id : List ℕ
  pub here : fin.contains_key ids id ≡ true
  pub untold : (r : PairingEntry) → IsPairingOfRows periods segments id r → ⊥
