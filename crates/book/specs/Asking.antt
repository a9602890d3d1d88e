-- What the functions that answer a command say to one another. No public clause names these.
use Rattle.std.specs.Prelude.{◌≡◌, ◌≤◌, Result, Ok, Err}
use Rattle.sqlite.specs.State as conn
use Rattle.sqlite.specs.State.{HasCleanDisk}
use Rattle.roster.specs.State.{State}
use Rattle.state_rows.specs.declared.fault.StoreFault.{StoreFault}
use Rattle.state_rows.specs.declared.fault.StoreFault.TheVariants.{Store, Memory}
use Rattle.writing.specs.Beside.{KeepOthers}
use Rattle.state_rows.specs.Outcomes.{CrashAddsOnly, CrashLeaves, CrashLeavesSome, HoldsNow}
use Rattle.state_rows.specs.Outcomes.{StaysOpen}
use Rattle.book.specs.Kept.{Keeps, StillHolds, IsEitherKept}

-- What the result of a command leaves. After an answer it is the tables of the state that was
-- wanted; after out of memory (91) those of the state that was. After a fault of the store (90) it
-- is those of one of the two states.
abbrev pub Done : {A : Type 0} →
    conn.State → conn.State → State → State → Result A StoreFault → Type 0
Done old new was wanted (Ok a) =
    Keeps new wanted × StillHolds new wanted × (HoldsNow old was → HoldsNow new wanted)
Done old new was wanted (Err Memory) = Keeps new was × StillHolds new was
Done old new was wanted (Err Store) =
    CrashLeaves new (IsEitherKept was wanted) × StillHolds new was

-- what one command did, from the state that was to the state that was wanted, with its result
pub record StepOutcome {A : Type 0} (old new : conn.State) (was wanted : State)
    (result : Result A StoreFault) : Type 0 where
  pub disk : HasCleanDisk new → HasCleanDisk old
  pub some_left : CrashLeavesSome new
  pub others_left : CrashAddsOnly old new (KeepOthers old.now)
  pub faults : old.faults ≤ new.faults
  pub limit : new.step_limit ≡ old.step_limit
  pub still_open : result ≡ Err Memory → StaysOpen old new
  pub done : Done old new was wanted result
