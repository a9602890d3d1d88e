-- What three calls do: the call that makes a book, the call that commits a change, and the call
-- that makes a book of version 1 one of version 2. The layers above hand the promises of this file
-- on as they stand.
use Rattle.std.specs.Prelude.{◌≡◌, ◌≤◌, OnErr, OnOk, Result, Err}
use Rattle.sqlite_trees.specs.declared.store.Store.{Ghosts}
use Rattle.sqlite.specs.Held.{Held, state}
use Rattle.sqlite.specs.State.{State, HasCleanDisk}
use Rattle.stored_json.specs.Laws.{IsCommand}
use Rattle.roster.specs.State as roster
use Rattle.roster.specs.Steps.{after}
use Rattle.roster.specs.declared.change.Change.{Change}
use Rattle.state_rows.specs.declared.fault.StoreFault.{StoreFault}
use Rattle.state_rows.specs.declared.fault.StoreFault.TheVariants.{Memory, Store}
use Rattle.tables.specs.Schema.{book_tables, later_tables}
use Rattle.writing.specs.Beside.{KeepBeside, KeepOthers}
use Rattle.writing.specs.Making.{IsFree}
use Rattle.writing.specs.Next.{IsAcceptedChange}
use Rattle.state_rows.specs.Outcomes.{CrashAddsNothing, CrashAddsOnly, HoldsNow, IsOutside, CrashLeaves, CrashLeavesEither, CrashLeavesFirst, CrashLeavesOnly, CrashLeavesSome, CrashMayAdd, ShowsOnly, StaysOpen, StillShows, IsEither, IsJust}
use Rattle.writing.specs.declared.fault.CreateFault.{CreateFault}
use Rattle.writing.specs.declared.fault.CreateFault.TheVariants.{Fault, NotEmpty}

-- the call that makes a book made the tables of a book in this state
pub record AreTablesMade (old new : State) (s : roster.State) : Type 0 where
  -- no name was taken before
  pub free : IsFree old.now.schema
  -- the book: what a crash leaves, and what is shown
  pub crash : CrashLeaves new (IsJust s)
  pub some_left : CrashLeavesSome new
  pub shown : HoldsNow new s
  -- all that was there, and that nothing else is made: what a crash leaves, and what is shown
  pub others_crash : CrashLeavesOnly new (KeepBeside book_tables old.now)
  pub others_shown : ShowsOnly new (KeepBeside book_tables old.now)
  -- the disk, and the limit of a statement's steps, if one is set
  pub disk : HasCleanDisk new → HasCleanDisk old
  pub limit : new.step_limit ≡ old.step_limit

-- the call that makes a book made no book, for this fault
pub record IsNotMade {S : Type 0}
    (g : Ghosts S) (old new : Held S) (s : roster.State) (fault : CreateFault) : Type 0 where
  -- the fault: 43 comes where a name is taken, and then nothing was done
  pub not_empty : fault ≡ NotEmpty → (IsFree (state g old).now.schema → ⊥) × (new ≡ old)
  -- a crash: after 91 it leaves nothing new, else the tables in this state at most
  pub memory : fault ≡ Fault Memory → CrashAddsNothing (state g old) (state g new)
  pub crash : CrashMayAdd (state g old) (state g new) s
  pub some_left : CrashLeavesSome (state g new)
  pub others_crash :
      CrashAddsOnly (state g old) (state g new) (KeepBeside book_tables (state g old).now)
  -- the database that was shown is still shown
  pub still_shown : StillShows (state g old) (state g new)
  -- the connection, and the limit of a statement's steps, if one is set
  pub limit : (state g new).step_limit ≡ (state g old).step_limit
  pub still_open : StaysOpen (state g old) (state g new)
  pub outside : IsOutside (state g new)

-- a call that commits a change has this result, where the step accepted the change in the state
-- that a crash leaves
pub record IsCommitted {A : Type 0}
    (old new : State) (change : Change) (result : Result A StoreFault) : Type 0 where
  -- the tables: the change is kept; after 91 nothing of it, after 90 all or nothing
  pub crash : (s : roster.State) → IsAcceptedChange s change → CrashLeaves old (IsJust s) →
      OnOk result (CrashLeaves new (IsJust (after s change)))
  pub memory : (s : roster.State) → CrashLeaves old (IsJust s) → result ≡ Err Memory →
      CrashLeaves new (IsJust s)
  pub store : (s : roster.State) → IsAcceptedChange s change → CrashLeaves old (IsJust s) →
      result ≡ Err Store → CrashLeaves new (IsEither s (after s change))
  pub some_left : CrashLeavesSome new
  pub shown : (s : roster.State) → IsAcceptedChange s change → CrashLeaves old (IsJust s) →
      OnOk result (HoldsNow new (after s change))
  pub still_shown : OnErr result (StillShows old new)
  -- where the change is kept, or may be, its instants are of their type
  pub command : OnOk result (IsCommand change.command)
  pub in_doubt : result ≡ Err Store → IsCommand change.command
  -- each other table: what a crash leaves of it, and what is shown
  pub others_crash : OnOk result (CrashLeavesOnly new (KeepOthers old.now))
  pub others_left : CrashAddsOnly old new (KeepOthers old.now)
  pub others_shown : OnOk result (ShowsOnly new (KeepOthers old.now))
  -- the disk and the connection, and the limit of a statement's steps, if one is set
  pub disk : HasCleanDisk new → HasCleanDisk old
  pub faults : old.faults ≤ new.faults
  pub limit : new.step_limit ≡ old.step_limit
  pub still_open : result ≡ Err Memory → StaysOpen old new

-- a call that makes a book of version 1 in this state one of version 2, in one transaction, has
-- this result
pub record IsMigrated {A : Type 0}
    (old new : State) (s : roster.State) (result : Result A StoreFault) : Type 0 where
  -- the tables: they are of version 2; after 91 a crash leaves nothing new, and after 90 what it
  -- could leave before, or version 2
  pub crash : OnOk result (CrashLeaves new (IsJust s))
  pub memory : result ≡ Err Memory → CrashAddsNothing old new
  pub store : CrashMayAdd old new s
  pub some_left : CrashLeavesSome new
  pub shown : OnOk result (HoldsNow new s)
  pub still_shown : OnErr result (StillShows old new)
  -- the tables, if a crash could leave version 1 in this state before, and nothing else
  pub still_first : CrashLeavesFirst old s → result ≡ Err Memory → CrashLeavesFirst new s
  pub either_left : CrashLeavesFirst old s → CrashLeavesEither new s
  -- all else that was there, and that nothing else is made: what a crash leaves, and what is shown
  pub others_crash : OnOk result (CrashLeavesOnly new (KeepBeside later_tables old.now))
  pub others_left : CrashAddsOnly old new (KeepBeside later_tables old.now)
  pub others_shown : OnOk result (ShowsOnly new (KeepBeside later_tables old.now))
  -- the disk and the connection, and the limit of a statement's steps, if one is set
  pub disk : HasCleanDisk new → HasCleanDisk old
  pub faults : old.faults ≤ new.faults
  pub limit : new.step_limit ≡ old.step_limit
  pub still_open : StaysOpen old new
