-- What is left of the files of a book.
use Rattle.std.proofs.Common.{inr, subst, arith}
use Rattle.sqlite_disk.specs.declared.Disk.{Ghosts}
use Rattle.sqlite_disk.specs.declared.Files.{Files}
use Rattle.sqlite_wal.proofs.LogLemmas.{SeenMayStay}
use Rattle.sqlite_wal.specs.Recovery.{Image}
use Rattle.sqlite_trees.specs.Tree.{Trees}
use Rattle.sqlite_trees.specs.View as view
use Rattle.sqlite_store.specs.Laws.{stays_at}
use Rattle.sqlite_store.specs.declared.store.FileStore.{FileStore}
use Rattle.sqlite.specs.Closing.{HoldsAlone, IsCopied}
use Rattle.sqlite.specs.Files.{file_state, over_files}
use Rattle.sqlite.specs.Held.{Held}
use Rattle.roster.specs.State.{State}
use Rattle.state_rows.specs.Kept.{HoldBookOf}
use Rattle.book.proofs.States.{kept_instants}
use Rattle.book.specs.Found.{HoldsStateAlone, LeavesBook, LeavesByCrash, LeavesEither}
use Rattle.book.specs.Kept.{IsClean, IsInDoubt, IsKept, Keeps, Kept}
use Rattle.book.specs.declared.file.FilesLeft.{FilesLeft}
use Rattle.book.specs.declared.file.FilesLeft.TheVariants.{Closed, Unclosed}

held : (image : Image) (trees : Trees) (s : State) → HoldsAlone image trees → HoldBookOf trees s → IsKept s → HoldsStateAlone image s
held image trees s holds tables kept = record {
  both = record { trees = trees; in_files = holds.both; tables = inr tables; sound = kept.sound; instants = kept_instants s kept };
  alone = record { trees = trees; in_files = holds.alone; tables = inr tables; sound = kept.sound; instants = kept_instants s kept };
  kept = kept;
}

module _ {D : Type 0} {g : Ghosts D} (c : Held (FileStore D g)) (s : State) (keeps : Keeps (file_state c) s) where
  pub copied : SeenMayStay g → (files : Files D) → IsCopied c files → LeavesBook {D = D} {g = g} (Closed files) s
  copied stays files it =
      let trees = (file_state c).committed.trees in
      let book = keeps.leaves.crash it.was_clean trees (stays_at c.store stays it.was_open) in
      let tables = subst (HoldBookOf trees) book.1 book.2 in
      let kept = keeps.kept it.was_clean in
      (held _ trees s it.seen tables kept, λ image may. held image trees s (it.left image may) tables kept)

  pub uncopied : (last : FileStore D g) → view.IsQuiet over_files.view over_files.faults over_files.recovers over_files.is_shielded c.store last →
      view.IsClean (over_files.view last) → LeavesBook {D = D} {g = g} (Unclosed last) s
  uncopied last quiet clean =
      let before : view.IsClean (over_files.view c.store) = omega (arith, quiet.clean) in (
        keeps.kept before,
        λ trees may.
            let book = keeps.leaves.crash before trees (quiet.outcomes trees may) in
            subst (HoldBookOf trees) book.1 book.2,
      )

-- ---- By a crash

module _ {D : Type 0} {g : Ghosts D} (book : Kept (FileStore D g)) where
  pub copied_crash : SeenMayStay g → (files : Files D) → IsCopied book.held files → LeavesByCrash {D = D} {g = g} book (Closed files)
  copied_crash stays files it = ((file_state book.held).committed.trees, stays_at book.held.store stays it.was_open, it.seen, it.left)

  pub uncopied_crash : (last : FileStore D g) → view.IsQuiet over_files.view over_files.faults over_files.recovers over_files.is_shielded book.held.store last →
      LeavesByCrash {D = D} {g = g} book (Unclosed last)
  uncopied_crash last quiet = λ trees may. quiet.outcomes trees may

  -- where a crash leaves one of two states, so do the files
  module _ (s t : State) (doubt : IsInDoubt over_files book s t) (clean : IsClean over_files book) where
    pub leaves_either : (left : FilesLeft D g) → LeavesByCrash book left → LeavesEither left s t
    leaves_either (Closed files) it =
        let found = doubt.crash clean it.0 it.1 in
        let kept = found.1.1 in (
          found.0,
          found.1.0,
          (held _ it.0 found.0 it.2 found.2 kept, λ image may. held image it.0 found.0 (it.3 image may) found.2 kept),
        )
    leaves_either (Unclosed last) it = λ trees may. doubt.crash clean trees (it trees may)
