-- The session that a call adds to those before it, wherever it is stopped.
use Rattle.std.specs.Prelude.{◌≡◌, ℕ, ◌+◌, List, [], ◌∷◌, ◌++◌, take}
use Rattle.std.specs.Prelude.{Result, Ok, Err, Option, Some, None}
use Rattle.roster.specs.Folds.{Asked, Session, Stopped}
use Rattle.roster.specs.State.{State}
use Rattle.state_rows.specs.declared.fault.StoreFault.{StoreFault}
use Rattle.state_rows.specs.declared.fault.StoreFault.TheVariants.{Store, Memory}
use Rattle.book.specs.Kept.{IsKept}

-- the commands that a call took up, of which it answered this many; the command that found no
-- memory changed nothing, and isn't among them
abbrev pub taken_up : List Asked → ℕ → Option StoreFault → List Asked
taken_up l n None = l
taken_up l n (Some Memory) = take n l
taken_up l n (Some Store) = take (n + 1) l

-- the state, which tables may mean, is what is left after these sessions and a session of this call
pub record IsAfter (s : State) (before : List Session) (l : List Asked) (n : ℕ)
    (fault : Option StoreFault) (t : State) : Type 0 where
  pub session : Session
  pub asked : session.asked ≡ taken_up l n fault
  pub answered : session.answered ≡ n
  pub left : t ≡ Stopped s (before ++ session ∷ [])
  pub kept : IsKept t

-- how many answers the result of one command gives
abbrev pub count_of : {A : Type 0} → Result A StoreFault → ℕ
count_of (Ok a) = 1
count_of (Err fault) = 0

-- the fault of a result, if the result is a fault
abbrev pub fault_of : {A : Type 0} → Result A StoreFault → Option StoreFault
fault_of (Ok a) = None
fault_of (Err fault) = Some fault
