-- What is read of the tables `outside` and `outside_segment`. No public clause names a word of this
-- file.
use Rattle.std.specs.Prelude.{◌≡◌, ◌⊎◌, ℕ, Bool, true, List, map, take, length, Some}
use Rattle.std.specs.FinMap as fin
use Rattle.sqlite_value.specs.Order.{Row}
use Rattle.sqlite.specs.Effect.{Database}
use Rattle.duty.specs.Shape.{is_id}
use Rattle.command.specs.declared.member.Member.{Member}
use Rattle.roster.specs.Sound.{Members}
use Rattle.roster.specs.State.{State}
use Rattle.roster.specs.declared.state.DutyId.{DutyId}
use Rattle.roster.specs.declared.state.DutyId.TheVariants.{Period, Outside}
use Rattle.stored_json.specs.Instants.{is_instant}
use Rattle.tables.specs.Records.{outside_row}
use Rattle.tables.specs.Rows.{IsStored}
use Rattle.tables.specs.Schema.{IsOfBook, outside_table}
use Rattle.tables.specs.declared.outside.OutsideRecord.{OutsideRecord}
use Rattle.tables.specs.declared.outside_segment.OutsideSegmentRecord.{OutsideSegmentRecord}
use Rattle.entries.specs.Mapping.{AreOnce, HasStranger, Mapped}
use Rattle.state_rows.specs.Rows.{HasJust}
use Rattle.entries.specs.OutsideRows.{Outsides, OutsideSegments, AreOutsideSegmentsWhole, AreOutsideSegmentsWanting, OutsidesMade, HasUnmade}

-- ---- The table `outside`

-- a record under an id has this row in `outside`
abbrev pub row_of_keyed_outside : List ℕ → OutsideRecord → Row
row_of_keyed_outside id it = outside_row (record it { id = id })

-- the record of an outside period of a member stands under its id, which has its shape, and is at
-- instants
pub record IsKeyedOutside (members : Members) (id : List ℕ) (it : OutsideRecord) : Type 0 where
  pub named : it.id ≡ id
  pub id_shape : is_id it.id ≡ true
  pub report : is_instant it.report_at ≡ true
  pub release : is_instant it.release_at ≡ true
  pub member : Member
  pub of_member : fin.get members it.crew ≡ Some member

-- the map has just this many first records of `outside`, by their ids
pub record OutsidesRead
    (members : Members) (records : List OutsideRecord) (count : ℕ) (outsides : Outsides)
    : Type 0 where
  pub mapped : AreOnce row_of_keyed_outside (map outside_row records) →
      Mapped (λ id. id) row_of_keyed_outside (IsKeyedOutside members)
      (take count (map outside_row records)) outsides

-- a duty that is an outside period has a record in `outside`
abbrev pub is_there : Outsides → DutyId → Bool
is_there outsides (Period p) = true
is_there outsides (Outside id) = fin.contains_key outsides id

-- each outside period that an exceedance of the state names has a record in `outside`
abbrev pub AreRecorded : State → Outsides → Type 0
AreRecorded s outsides = (name : List ℕ) (named : DutyId) →
    fin.get s.exceedances name ≡ Some named → is_there outsides named ≡ true

-- the map has all records of `outside`, by their ids, and each outside period that an exceedance of
-- the state names has a record
abbrev pub AreOutsidesRead : State → List OutsideRecord → Outsides → Type 0
AreOutsidesRead s records outsides =
    OutsidesRead s.crew records (length records) outsides × AreRecorded s outsides

-- some record of `outside` is that of no outside period of a member, or an exceedance of the state
-- names an outside period that has no record
abbrev pub AreNoOutsides : State → List OutsideRecord → Type 0
AreNoOutsides s records =
    HasStranger row_of_keyed_outside (IsKeyedOutside s.crew) (map outside_row records)
    ⊎ ((outsides : Outsides) × OutsidesRead s.crew records (length records) outsides
    × (AreRecorded s outsides → ⊥))

-- the row is that of a record of `outside` which stands under its own id
abbrev pub InOutsides : Outsides → Row → Type 0
InOutsides outsides row = (it : OutsideRecord) × (fin.get outsides it.id ≡ Some it)
    × (row ≡ outside_row it)

-- the table `outside` is there with just the rows of these records, each under its id and of a
-- member of the state
pub record HasOutsides (s : State) (db : Database) (outsides : Outsides) : Type 0 where
  pub stored : IsStored outside_table db
  pub there : IsOfBook outside_table db.schema
  pub rows : HasJust outside_table db (InOutsides outsides)
  pub keyed : (id : List ℕ) (it : OutsideRecord) → fin.get outsides id ≡ Some it →
      IsKeyedOutside s.crew id it

-- ---- The outside periods

-- the outside periods that records of `outside` and of `outside_segment` give were set in a roster
pub record AreOutsidesSet
    (outsides : Outsides) (records : List OutsideSegmentRecord) (old new : State)
    : Type 0 where
  pub same : new ≡ record old { outsides = new.outsides }
  pub segments : OutsideSegments
  pub whole : AreOutsideSegmentsWhole outsides records segments
  pub made : OutsidesMade outsides segments new.outsides

-- some record of `outside_segment` is of none of the outside periods, or the records leave a gap in
-- the numbers of segments, or give no outside period under one of the ids
abbrev pub AreOutsidesUnset : Outsides → List OutsideSegmentRecord → Type 0
AreOutsidesUnset outsides records =
    AreOutsideSegmentsWanting outsides records
    ⊎ ((segments : OutsideSegments) × AreOutsideSegmentsWhole outsides records segments
    × HasUnmade outsides segments)
