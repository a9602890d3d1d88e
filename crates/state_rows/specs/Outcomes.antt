-- What a crash may leave of the tables.
use Rattle.std.specs.Prelude.{◌≡◌, ◌⊎◌, false, IsTrue}
use Rattle.sqlite_disk.specs.Disk.{MoreFaults}
use Rattle.sqlite_trees.specs.Tree.{Trees}
use Rattle.sqlite.specs.State.{State, HasCleanDisk}
use Rattle.roster.specs.State as roster
use Rattle.tables.specs.Schema.{IsBook}
use Rattle.state_rows.specs.Kept.{IsBookOf, IsFirstBookOf, HoldBookOf, HoldFirstBookOf, AreStored}

-- Each fact of this file holds as long as the disk has returned what was written.

-- a state `t` is the state `s`
abbrev pub IsJust : roster.State → roster.State → Type 0
IsJust s = λ t. t ≡ s

-- a state `r` is one of the two states `s` and `t`
abbrev pub IsEither : roster.State → roster.State → roster.State → Type 0
IsEither s t = λ r. (r ≡ s) ⊎ (r ≡ t)

-- a crash leaves the tables of a book in a state of which P holds, and nothing else
pub record CrashLeaves (now : State) (P : roster.State → Type 0) : Type 0 where
  pub crash : HasCleanDisk now → (trees : Trees) → now.may_leave trees →
      (s : roster.State) × P s × HoldBookOf trees s

-- there are trees that a crash may leave
abbrev pub CrashLeavesSome : State → Type 0
CrashLeavesSome now = HasCleanDisk now → ∥ ((trees : Trees) × now.may_leave trees) ∥₁

-- a crash after a call leaves nothing that it could not leave before the call
pub record CrashAddsNothing (old now : State) : Type 0 where
  pub disk : HasCleanDisk now → HasCleanDisk old
  pub crash : HasCleanDisk now → (trees : Trees) → now.may_leave trees → old.may_leave trees

-- a crash after a call leaves what it could leave before the call, or the tables of a book in this
-- state
pub record CrashMayAdd (old now : State) (s : roster.State) : Type 0 where
  pub disk : HasCleanDisk now → HasCleanDisk old
  pub crash : HasCleanDisk now → (trees : Trees) → now.may_leave trees →
      old.may_leave trees ⊎ HoldBookOf trees s

-- a crash leaves only trees of which P holds
pub record CrashLeavesOnly (now : State) (P : Trees → Type 0) : Type 0 where
  pub crash : HasCleanDisk now → (trees : Trees) → now.may_leave trees → P trees

-- a crash after a call leaves what it could leave before the call, or trees of which P holds
pub record CrashAddsOnly (old now : State) (P : Trees → Type 0) : Type 0 where
  pub crash : HasCleanDisk now → (trees : Trees) → now.may_leave trees →
      old.may_leave trees ⊎ P trees

-- a crash leaves the tables of version 1 in this state, and nothing else
abbrev pub CrashLeavesFirst : State → roster.State → Type 0
CrashLeavesFirst now s = CrashLeavesOnly now (λ trees. HoldFirstBookOf trees s)

-- a crash leaves the tables of a book in this state, all of version 1 or all of version 2, and
-- nothing else
pub record CrashLeavesEither (now : State) (s : roster.State) : Type 0 where
  pub crash : HasCleanDisk now → (trees : Trees) → now.may_leave trees →
      HoldFirstBookOf trees s ⊎ HoldBookOf trees s

-- the connection shows trees of which P holds
abbrev pub ShowsOnly : State → (Trees → Type 0) → Type 0
ShowsOnly now P = HasCleanDisk now → P now.now.trees

-- the connection is in no transaction
abbrev pub IsOutside : State → Type 0
IsOutside s = HasCleanDisk s → s.in_transaction ≡ false

-- while the connection is open, it shows the tables of a book, each row under a number of its own
abbrev pub IsOverBook : State → Type 0
IsOverBook s = HasCleanDisk s → IsTrue s.is_open → IsBook s.now.schema × AreStored s.now

-- the connection is open, and shows the tables of a book in this state
abbrev pub HoldsNow : State → roster.State → Type 0
HoldsNow now s = HasCleanDisk now → IsTrue now.is_open × IsBookOf s now.now

-- while the connection is open, it shows the tables of version 1 in this state
abbrev pub ShowsFirst : State → roster.State → Type 0
ShowsFirst now s = HasCleanDisk now → IsTrue now.is_open → IsFirstBookOf s now.now

-- while the connection is open after a call, it was open before, and shows the database that it
-- showed before
abbrev pub StillShows : State → State → Type 0
StillShows old now = HasCleanDisk now → IsTrue now.is_open →
    IsTrue old.is_open × (now.now ≡ old.now)

-- a connection that was open before a call still is, unless the disk failed or refused a call
-- meanwhile
abbrev pub StaysOpen : State → State → Type 0
StaysOpen old now = HasCleanDisk now → IsTrue old.is_open →
    IsTrue now.is_open ⊎ MoreFaults old.faults now.faults
