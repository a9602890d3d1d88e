-- What files hold of a book: what is found in the files as they are opened, and what is left of
-- them.
use Rattle.std.specs.Prelude.{◌≡◌, ◌⊎◌, true, [], ⊤}
use Rattle.sqlite_disk.specs.declared.Disk.{Ghosts}
use Rattle.sqlite_wal.specs.Files.{outcomes}
use Rattle.sqlite_wal.specs.Reads.{AreClean}
use Rattle.sqlite_wal.specs.Recovery.{Image}
use Rattle.sqlite_trees.specs.Tree.{Trees}
use Rattle.sqlite_trees.specs.View as view
use Rattle.sqlite.specs.Closing.{HoldsAlone}
use Rattle.sqlite.specs.Effect.{Database, IsDatabase}
use Rattle.sqlite.specs.Files.{AreFoundIn, HoldsDatabase, file_state, image_of, over_files}
use Rattle.sqlite.specs.State as conn
use Rattle.sqlite_store.specs.declared.store.FileStore.{FileStore}
use Rattle.loading.specs.Loading.{Justifies}
use Rattle.loading.specs.Refusals.{tells}
use Rattle.entries.specs.SameRows.{HasInstants}
use Rattle.entries.specs.declared.fault.LoadFault.{LoadFault}
use Rattle.roster.specs.Sound.{Sound}
use Rattle.roster.specs.State.{State}
use Rattle.writing.specs.Making.{IsFree}
use Rattle.store.specs.Found.{IsFoundIn}
use Rattle.state_rows.specs.Kept.{HoldBookOf, HoldFirstBookOf}
use Rattle.state_rows.specs.Outcomes.{HoldsNow, IsEither}
use Rattle.book.specs.Kept.{IsKept, Keeps, Kept, IsEitherKept}
use Rattle.book.specs.declared.file.FilesLeft.{FilesLeft}
use Rattle.book.specs.declared.file.FilesLeft.TheVariants.{Closed, Unclosed}

-- the database file and its log hold the tables of a sound book in this state, in version 1 or 2,
-- and the times of its kept commands are instants
pub record HoldsState (image : Image) (s : State) : Type 0 where
  pub trees : Trees
  pub in_files : ∥ HoldsDatabase image trees ∥₁
  pub tables : HoldFirstBookOf trees s ⊎ HoldBookOf trees s
  pub sound : Sound s
  pub instants : HasInstants s

-- a sound book in this state is found in the files, and the files hold a book in no other state
pub record FindsBook (image : Image) (s : State) : Type 0 where
  pub trees : Trees
  pub in_files : AreFoundIn image trees
  pub found : IsFoundIn s trees
  pub only : (t : State) → HoldsState image t → t ≡ s

-- a book in some state is found in the files; the connection shows that state, and a crash leaves
-- it and nothing else
pub record MeansWhatIsIn (image : Image) (now : conn.State) : Type 0 where
  pub it : State
  pub finds : FindsBook image it
  pub shown : HoldsNow now it
  pub keeps : Keeps now it

-- A database is found in the files, and this fault says why it is refused. If the fault says
-- something of the database (40, 41, 42), the files hold no state that tables may mean.
pub record IsFaultOf (image : Image) (fault : LoadFault) : Type 0 where
  pub it : Database
  pub in_files : AreFoundIn image it.trees
  pub database : IsDatabase it
  pub says : Justifies fault it
  pub holds_none : tells fault ≡ true → (s : State) → HoldsState image s → ¬ IsKept s

-- a database is found in the files, and in it no name of a book's tables is taken
pub record HasFreeNames (image : Image) : Type 0 where
  pub it : Database
  pub in_files : AreFoundIn image it.trees
  pub database : IsDatabase it
  pub free : IsFree it.schema

-- ---- What is left

-- the database file and its log hold a book in this state, which tables may mean, and so does the
-- database file with no log
pub record HoldsStateAlone (image : Image) (s : State) : Type 0 where
  pub both : HoldsState image s
  pub alone : HoldsState (record image { log = [] }) s
  pub kept : IsKept s

module _ {D : Type 0} {g : Ghosts D} where
  -- the disk of the files has returned what was written
  abbrev pub IsCleanLeft : FilesLeft D g → Type 0
  IsCleanLeft (Closed files) = AreClean g files.log files.db
  IsCleanLeft (Unclosed store) = view.IsClean (over_files.view store)

  -- The files of a book were let go of as they are, and not closed.
  abbrev pub IsUnclosed : FilesLeft D g → Type 0
  IsUnclosed (Closed files) = ⊥
  IsUnclosed (Unclosed store) = ⊤

  -- Files that were closed hold a book in this state, as they read now and after a crash. Of files
  -- that were not closed, whatever is found after a crash is a book in this state.
  abbrev pub LeavesBook : FilesLeft D g → State → Type 0
  LeavesBook (Closed files) s =
      HoldsStateAlone (image_of g files) s
      × ((image : Image) → outcomes g files.log files.db image → HoldsStateAlone image s)
  LeavesBook (Unclosed store) s =
      IsKept s × ((trees : Trees) → over_files.recovers store trees → HoldBookOf trees s)

  -- Files that were closed hold trees that a crash of the book could leave, as they read now and
  -- after a crash. Of files that were not closed, whatever is found after a crash is something that
  -- a crash of the book could leave.
  abbrev pub LeavesByCrash : Kept (FileStore D g) → FilesLeft D g → Type 0
  LeavesByCrash book (Closed files) =
      (trees : Trees) × (file_state book.held).may_leave trees
      × HoldsAlone (image_of g files) trees
      × ((image : Image) → outcomes g files.log files.db image → HoldsAlone image trees)
  LeavesByCrash book (Unclosed store) =
      (trees : Trees) → over_files.recovers store trees → (file_state book.held).may_leave trees

  -- The files are left with a book in one of two states, as `LeavesBook` says of one state. (After
  -- a fault of the store a command is done or not.)
  abbrev pub LeavesEither : FilesLeft D g → State → State → Type 0
  LeavesEither (Closed files) s t = (r : State) × IsEither s t r × LeavesBook (Closed files) r
  LeavesEither (Unclosed store) s t =
      (trees : Trees) → over_files.recovers store trees →
      (r : State) × IsEitherKept s t r × HoldBookOf trees r
