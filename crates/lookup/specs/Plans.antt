-- What is read of one pairing, and what its records give.
use Rattle.std.specs.Prelude.{◌≡◌, ⊤, ℕ, List, [], ◌∷◌, map, Option, None, Some}
use Rattle.std.specs.Prelude.{Result, IfErr, IfOk, slice_get}
use Rattle.sqlite_value.specs.declared.value.Value.TheVariants.{Text}
use Rattle.sqlite.specs.Effect.{Database}
use Rattle.sqlite.specs.State as conn
use Rattle.sqlite.specs.State.{HasCleanDisk, IsUnchanged}
use Rattle.roster.specs.declared.state.PairingEntry.{PairingEntry}
use Rattle.tables.specs.Records.{period_row, seat_row, segment_row}
use Rattle.tables.specs.Rows.{Finds, begins_with}
use Rattle.tables.specs.declared.period.PeriodRecord.{PeriodRecord}
use Rattle.tables.specs.declared.seat.SeatRecord.{SeatRecord}
use Rattle.tables.specs.declared.segment.SegmentRecord.{SegmentRecord}
use Rattle.state_rows.specs.Rows.{table, period, seat, segment}
use Rattle.state_rows.specs.declared.fault.StoreFault.{StoreFault}
use Rattle.state_rows.specs.declared.fault.StoreFault.TheVariants.{Memory, Store}
use Rattle.entries.specs.OnePairing.{IsToldBy}
use Rattle.entries.specs.declared.fault.LoadFault.{LoadFault}
use Rattle.entries.specs.declared.fault.LoadFault.TheVariants.{Fault}
use Rattle.lookup.specs.Reads.{IsCausedIfStore, Stays}
use Rattle.lookup.specs.declared.pairing.PlanRecords.{PlanRecords}

-- the fact P holds if the list has an element; of an empty list nothing is asked
abbrev pub IfSome : {A : Type 0} → List A → Type 0 → Type 0
IfSome [] P = ⊤
IfSome (x ∷ xs) P = P

-- just the records of the periods of one pairing are found, and if there is any, those of its
-- segments and of its held seats
pub record FindsPlan (id : List ℕ) (db : Database) (rows : PlanRecords) : Type 0 where
  pub periods : Finds (table period) (begins_with (Text id ∷ [])) db
      (map period_row rows.periods.items)
  pub segments : IfSome rows.periods.items
      (Finds (table segment) (begins_with (Text id ∷ [])) db (map segment_row rows.segments.items))
  pub seats : IfSome rows.periods.items
      (Finds (table seat) (begins_with (Text id ∷ [])) db (map seat_row rows.seats.items))

-- The records of one pairing are read. Nothing is changed, the records are just those of the
-- tables, and a fault of the store has a cause.
pub record ReadsPlan (id : List ℕ) (old new : conn.State)
    (result : Result PlanRecords StoreFault) : Type 0 where
  pub stays : Stays old new
  pub told : HasCleanDisk new →
      IfOk result (λ rows. IsUnchanged old new × FindsPlan id old.now rows)
  pub caused : IfErr result (IsCausedIfStore old new)

-- by some records of `seat` this member holds the seat of this number, or nobody does
abbrev pub HoldsSeat : ℕ → List SeatRecord → Option (List ℕ) → Type 0
HoldsSeat number seats None =
    (i : ℕ) (row : SeatRecord) → slice_get seats i ≡ Some row → row.seat ≡ number → ⊥
HoldsSeat number seats (Some who) =
    (i : ℕ) × (row : SeatRecord)
    × (slice_get seats i ≡ Some row) × (row.seat ≡ number) × (who ≡ row.crew)

-- some records give this pairing, with the holders of its seats
pub record IsPairingOfRecords (id : List ℕ) (periods : List PeriodRecord)
    (segments : List SegmentRecord) (seats : List SeatRecord) (r : PairingEntry) : Type 0 where
  pub free : PairingEntry
  pub told : IsToldBy id periods segments free
  pub plan : r.plan ≡ free.plan
  pub actuals : r.actuals ≡ free.actuals
  pub captain : HoldsSeat 0 seats r.captain
  pub first_officer : HoldsSeat 1 seats r.first_officer

-- the records of one id give this pairing; where there is no record of a period, there is no
-- pairing
abbrev pub TellsPairing : List ℕ → List PeriodRecord → List SegmentRecord → List SeatRecord
    → Option PairingEntry → Type 0
TellsPairing id [] segments seats found = found ≡ None
TellsPairing id (p ∷ ps) segments seats found =
    (r : PairingEntry) × (found ≡ Some r) × IsPairingOfRecords id (p ∷ ps) segments seats r

-- a read by key whose records make no pairing, or no outside period, has this fault: 91 where there
-- was no memory, and else 90
abbrev pub unread_as : LoadFault → StoreFault
unread_as (Fault fault) = Memory
unread_as _ = Store
