-- What a connection shows and what a crash leaves after a book is loaded, or refused. A book of
-- version 1 is brought to version 2.
use Rattle.std.specs.Prelude.{◌≡◌, ◌⊎◌}
use Rattle.sqlite_trees.specs.Tree.{Trees}
use Rattle.sqlite.specs.State as conn
use Rattle.sqlite.specs.State.{HasCleanDisk, IsUnchanged}
use Rattle.roster.specs.State.{State}
use Rattle.loading.specs.Loading.{HasReadCause, Justifies}
use Rattle.entries.specs.Right.{IsOfEdition}
use Rattle.entries.specs.declared.fault.LoadFault.{LoadFault}
use Rattle.entries.specs.declared.fault.LoadFault.TheVariants.{Fault}
use Rattle.state_rows.specs.declared.edition.Edition.TheVariants.{First}
use Rattle.state_rows.specs.declared.fault.StoreFault.TheVariants.{Store}
use Rattle.tables.specs.Schema.{later_tables}
use Rattle.state_rows.specs.Kept.{HoldBookOf, IsFirstBookOf}
use Rattle.writing.specs.Beside.{KeepBeside}
use Rattle.state_rows.specs.Outcomes.{CrashAddsNothing, CrashAddsOnly, CrashLeaves, CrashLeavesOnly}
use Rattle.state_rows.specs.Outcomes.{CrashLeavesSome, HoldsNow, IsOutside, ShowsOnly, StaysOpen}
use Rattle.state_rows.specs.Outcomes.{IsJust}
use Rattle.store.specs.Found.{IsFound}

-- the connection shows a database whose table `book` says version 1
abbrev pub ShowsFirstEdition : conn.State → Type 0
ShowsFirstEdition s = IsOfEdition First s.now

-- what the connection shows is what a crash could leave of the connection
abbrev pub ShowsWhatIsLeft : conn.State → Type 0
ShowsWhatIsLeft s = s.may_leave s.now.trees

-- the connection shows a sound book of version 1
abbrev pub ShowsFirstBook : conn.State → Type 0
ShowsFirstBook s = (it : State) × IsFound it s.now × IsFirstBookOf it s.now

-- the connection shows a sound book of version 1, which a crash could leave, and these trees hold
-- the whole of that book in version 2
pub record AreMigrated (s : conn.State) (trees : Trees) : Type 0 where
  pub left : ShowsWhatIsLeft s
  pub it : State
  pub found : IsFound it s.now
  pub was : IsFirstBookOf it s.now
  pub is : HoldBookOf trees it

-- a crash leaves what it could leave before; or, if a sound book of version 1 was shown, the whole
-- of that book in version 2
pub record CrashMayMigrate (old new : conn.State) : Type 0 where
  pub disk : HasCleanDisk new → HasCleanDisk old
  pub crash : HasCleanDisk new → (trees : Trees) → new.may_leave trees →
      old.may_leave trees ⊎ AreMigrated old trees

-- A book in this state was found. A book of version 1 is now one of version 2, in the same state; a
-- book of version 2 was left as it was.
pub record IsLoaded (old new : conn.State) (s : State) : Type 0 where
  pub found : HasCleanDisk new → IsFound s old.now
  -- what was found is what a crash could have left
  pub left : HasCleanDisk new → ShowsWhatIsLeft old
  -- the book now, of version 2: what a crash leaves, and what is shown
  pub crash : CrashLeaves new (IsJust s)
  pub some_left : CrashLeavesSome new
  pub shown : HoldsNow new s
  -- of a book of version 2 nothing was changed
  pub nothing_new : ¬ ShowsFirstEdition old → CrashAddsNothing old new
  pub unchanged : HasCleanDisk new → ¬ ShowsFirstEdition old → IsUnchanged old new
  -- beside a book of version 1 all else stays that was there, and nothing else is made than the
  -- tables of version 2: what a crash leaves, and what is shown
  pub others_crash : ShowsFirstEdition old → CrashLeavesOnly new (KeepBeside later_tables old.now)
  pub others_shown : ShowsFirstEdition old → ShowsOnly new (KeepBeside later_tables old.now)
  -- the disk, and the limit of a statement's steps, if one is set
  pub disk : HasCleanDisk new → HasCleanDisk old
  pub limit : new.step_limit ≡ old.step_limit

-- No book was taken, for this fault, and nothing was changed. But if a fault of the store (90) met
-- a book of version 1, a crash leaves the book as it was, or as one of version 2.
pub record IsNotLoaded (old new : conn.State) (fault : LoadFault) : Type 0 where
  pub says : HasCleanDisk new → Justifies fault old.now
  -- a fault of the store came of a read, and has a cause; or it came when a book of version 1 was
  -- to become one of version 2, and then no cause is reported
  pub caused : HasCleanDisk new → fault ≡ Fault Store → HasReadCause old new ⊎ ShowsFirstBook old
  -- what a crash leaves
  pub crash : CrashMayMigrate old new
  pub nothing_new : (fault ≡ Fault Store → ¬ ShowsFirstEdition old) → CrashAddsNothing old new
  pub others_left : CrashAddsOnly old new (KeepBeside later_tables old.now)
  pub some_left : CrashLeavesSome new
  -- the connection, and the limit of a statement's steps, if one is set
  pub still_open : StaysOpen old new
  pub limit : new.step_limit ≡ old.step_limit
  pub outside : IsOutside new
