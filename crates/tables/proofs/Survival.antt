-- What a crash leaves.
use Rattle.sqlite_trees.specs.Tree.{Trees}
use Rattle.sqlite.specs.State.{State, HasCleanDisk, Survives}

-- what holds as long as the disk is clean is enough for the crash
pub later : (old new : State) (P R : Trees → Type 0) → Survives old new P → (HasCleanDisk new → Survives old new R) → Survives old new R
later old new P R s f = record { clean = s.clean; shield = s.shield; counts = s.counts; limit = s.limit; closes = s.closes; crash = λ clean. (f clean).crash clean }
