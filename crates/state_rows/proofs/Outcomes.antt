-- What calls on the tables leave of what a connection shows.
use Rattle.std.proofs.Common.{◌≡◌, inl, inr, sym, ◌∙◌, arith, IsTrue}
use Rattle.sqlite.specs.State.{State, HasCleanDisk}
use Rattle.tables.specs.Calls.{CrashLeavesNoMore, IsUnchangedOrUndone as NotMade}
use Rattle.state_rows.specs.Outcomes.{StillShows}

-- where no change was made, an open connection shows what it showed
pub unbegun_shows : (old new : State) → (HasCleanDisk new → HasCleanDisk old) → (HasCleanDisk old → IsTrue old.is_open → old.now ≡ old.committed) → (HasCleanDisk new → NotMade old new) → StillShows old new
unbegun_shows old new before settled left clean opened = elim (left clean) [
  | inl same ↦ (same.0.was_open, same.0.now_is)
  | inr back ↦
      let was = back.was_open opened in
      (was, (back.undone opened).0 ∙ sym (settled (before clean) was))
]

-- a disk that returns what was written did so before
pub clean_before : (old new : State) → CrashLeavesNoMore old new → HasCleanDisk new → HasCleanDisk old
clean_before old new left clean = omega (arith, left.clean)
