-- What a read by key says of the state whose tables are read.
use Rattle.std.specs.Prelude.{◌≡◌, ◌⊎◌, ◌≤◌, ℕ, map, Bool, false, OnOk, IsTrue}
use Rattle.std.specs.Prelude.{List, Result, IfErr, IfOk}
use Rattle.sqlite_disk.specs.Disk.{MoreFaults}
use Rattle.sqlite_value.specs.Order.{Row}
use Rattle.sqlite.specs.State as conn
use Rattle.sqlite.specs.State.{HasCleanDisk, IsUnchanged}
use Rattle.roster.specs.Sound.{Sound}
use Rattle.roster.specs.State.{State}
use Rattle.entries.specs.Right.{AreRight}
use Rattle.entries.specs.SameRows.{HasInstants}
use Rattle.tables.specs.Calls.{HasStepLimit}
use Rattle.tables.specs.Rows.{Finds}
use Rattle.tables.specs.declared.seat.SeatRecord.{SeatRecord}
use Rattle.state_rows.specs.Rows.{StateTable, table, outside_segment}
use Rattle.state_rows.specs.declared.fault.StoreFault.{StoreFault}
use Rattle.state_rows.specs.declared.fault.StoreFault.TheVariants.{Store}
use Rattle.state_rows.specs.Kept.{IsBookOf}
use Rattle.state_rows.specs.Outcomes.{CrashAddsNothing, IsOutside, StaysOpen, StillShows}

-- while the connection is open, it shows the tables of a book in this state, which is sound
pub record Shows (now : conn.State) (s : State) : Type 0 where
  pub sound : Sound s
  pub instants : HasInstants s
  pub book : HasCleanDisk now → IsTrue now.is_open → IsBookOf s now.now

-- A call changes nothing. A crash leaves nothing that it could not leave before, and what was shown
-- is shown. No fault of the disk is forgotten, only one shuts the connection, and no limit is set
-- on later statements.
pub record Stays (old new : conn.State) : Type 0 where
  pub nothing_new : CrashAddsNothing old new
  pub still_shown : StillShows old new
  pub outside : IsOutside new
  pub faults : old.faults ≤ new.faults
  pub still_open : StaysOpen old new
  pub limit : new.step_limit ≡ old.step_limit

-- the connection is open: only an open connection answers
abbrev pub IsOpen : conn.State → Type 0
IsOpen now = HasCleanDisk now → IsTrue now.is_open

-- A read has a cause for a fault of the store (90). The disk failed or refused a call meanwhile, or
-- an earlier failure had shut the connection; or a limit is set on the steps of a statement. Or the
-- tables are not those of a right book, which opening them would refuse.
abbrev pub HasStoreCause : conn.State → conn.State → Type 0
HasStoreCause old new =
    MoreFaults old.faults new.faults
    ⊎ ((old.is_open ≡ false)
    ⊎ (HasStepLimit old
    ⊎ (AreRight outside_segment old.now → ⊥)))

-- a fault of a read that is one of the store (90) has a cause
abbrev pub IsCausedIfStore : conn.State → conn.State → StoreFault → Type 0
IsCausedIfStore old new fault = HasCleanDisk new → fault ≡ Store → HasStoreCause old new

-- a fault of a read by key that is one of the store (90) has a cause, where the connection showed a
-- sound state before
abbrev pub IsReadFault : conn.State → conn.State → StoreFault → Type 0
IsReadFault old new fault = (s : State) → Shows old s → IsCausedIfStore old new fault

-- The rows of a table that pass a test are read. Nothing is changed, the rows are just those that
-- pass the test, and a fault of the store has a cause.
pub record ReadsRows {A : Type 0} (it : StateTable) (test : Row → Bool) (rows : A → List Row)
    (old new : conn.State) (result : Result A StoreFault) : Type 0 where
  pub stays : Stays old new
  pub told : HasCleanDisk new →
      IfOk result (λ a. IsUnchanged old new × Finds (table it) test old.now (rows a))
  pub caused : IfErr result (IsCausedIfStore old new)

-- An entry is read by its key. Nothing is changed, the answer is what the state that is shown has,
-- and a fault of the store has a cause.
pub record ReadsByKey {A : Type 0} (Is : State → A → Type 0)
    (old new : conn.State) (result : Result A StoreFault) : Type 0 where
  pub stays : Stays old new
  pub opened : OnOk result (IsOpen new)
  pub told : HasCleanDisk new → (s : State) → Shows old s →
      IfOk result (λ a. Shows new s × Is s a)
  pub caused : IfErr result (IsReadFault old new)

-- some records give no entry, where `Has` says which entry they give
abbrev pub HaveNone : {A : Type 0} → (A → Type 0) → Type 0
HaveNone {A} Has = (found : A) → Has found → ⊥

-- some records of `seat` name these pairings
abbrev pub ids_in : List SeatRecord → List (List ℕ)
ids_in records = map (λ row. row.pairing) records

-- ---- Reads in turn

-- Some reads, one after the other, change nothing. A crash leaves nothing that it could not leave
-- before, and what was shown is shown. No fault of the disk is forgotten, only one shuts the
-- connection, and no limit is set on later statements.
pub record ChangesNothing (old new : conn.State) : Type 0 where
  pub nothing_new : CrashAddsNothing old new
  pub still_shown : StillShows old new
  pub faults : old.faults ≤ new.faults
  pub still_open : StaysOpen old new
  pub limit : new.step_limit ≡ old.step_limit
