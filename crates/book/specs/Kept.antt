-- What contracts see of a book, and what a crash leaves of it.
use Rattle.std.specs.Prelude.{◌≡◌, ◌⊎◌, ℕ, ◌+◌, take, Bool, true, false, List, refl, IsTrue}
use Rattle.std.specs.Prelude.{Result, Ok, Err, Option, Some, None}
use Rattle.std.specs.Coded.{Coded, code_by, coded×, coded_bool}
use Rattle.sqlite_disk.specs.Disk.{MoreFaults}
use Rattle.sqlite_trees.specs.declared.store.Store.{Ghosts}
use Rattle.sqlite.specs.State as conn
use Rattle.sqlite.specs.State.{HasCleanDisk}
use Rattle.sqlite.specs.Held.{Held, held_code, state}
use Rattle.roster.specs.Folds.{Asked, Fold, ReplyOrRefusal, answer_of}
use Rattle.roster.specs.Sound.{Sound}
use Rattle.roster.specs.State.{State}
use Rattle.roster.specs.declared.change.Verdict.{Verdict}
use Rattle.tables.specs.Calls.{HasStepLimit}
use Rattle.state_rows.specs.declared.fault.StoreFault.{StoreFault}
use Rattle.state_rows.specs.declared.fault.StoreFault.TheVariants.{Store, Memory}
use Rattle.store.specs.Found.{IsFound}
use Rattle.store.specs.Typed.{HasTypedParts}
use Rattle.state_rows.specs.Kept.{IsBookOf}
use Rattle.state_rows.specs.Outcomes.{CrashLeaves, CrashLeavesEither, CrashLeavesSome}
use Rattle.state_rows.specs.Outcomes.{HoldsNow, IsJust, IsEither}
use Rattle.book.specs.declared.answer.Answer.{Answer}
use Rattle.book.specs.declared.answer.Answer.TheVariants.{Accepted, Refused}

-- what a book holds: what its connection holds, and whether it has answered a fault of the store
-- (90)
pub record Kept (S : Type 0) : Type 0 where
  pub held : Held S
  pub failed : Bool

-- a code for books, made from a code for the stores of their connections
abbrev pub kept_code : {S : Type 0} → Coded S → Coded (Kept S)
kept_code {S} store =
    code_by (Held S × Bool) (coded× (held_code store) coded_bool)
    (λ k. (k.held, k.failed)) (λ p. record { held = p.0; failed = p.1 }) (λ _. refl)

module _ {S : Type 0} (g : Ghosts S) (book : Kept S) where
  -- the disk of a book has returned what was written
  abbrev pub IsClean : Type 0
  IsClean = HasCleanDisk (state g book.held)

  -- the tables of a book are there, and mean this state
  abbrev pub HasTablesOf : State → Type 0
  HasTablesOf s = HoldsNow (state g book.held) s

-- a state that tables may mean: it is sound, and its parts are of their types
pub record IsKept (s : State) : Type 0 where
  pub sound : Sound s
  pub typed : HasTypedParts s

-- one of two states, which tables may mean
abbrev pub IsEitherKept : State → State → State → Type 0
IsEitherKept s t = λ r. IsEither s t r × IsKept r

-- a connection, while it is open, has the tables of a book in this state
abbrev pub StillHolds : conn.State → State → Type 0
StillHolds now s = HasCleanDisk now → IsTrue now.is_open → IsBookOf s now.now

-- a crash leaves this state, which tables may mean, and nothing else
pub record Keeps (now : conn.State) (s : State) : Type 0 where
  pub kept : HasCleanDisk now → IsKept s
  pub leaves : CrashLeaves now (IsJust s)
  pub some : CrashLeavesSome now

-- a crash leaves the book in this state, which tables may mean, in version 1 or in version 2, and
-- nothing else
pub record KeepsEither (now : conn.State) (s : State) : Type 0 where
  pub kept : HasCleanDisk now → IsKept s
  pub leaves : CrashLeavesEither now s
  pub some : CrashLeavesSome now

-- A crash leaves some state, which tables may mean, and nothing else. The tables of the connection
-- mean that state, as long as the connection is open.
pub record HasOne (now : conn.State) : Type 0 where
  pub it : State
  pub keeps : Keeps now it
  pub shown : StillHolds now it

module _ {S : Type 0} (g : Ghosts S) (book : Kept S) where
  -- a crash of a book leaves this state, which tables may mean, and nothing else
  abbrev pub IsDurablyAt : State → Type 0
  IsDurablyAt s = Keeps (state g book.held) s

  -- a crash of a book leaves one of these two states, which tables may mean
  abbrev pub IsInDoubt : State → State → Type 0
  IsInDoubt s t = CrashLeaves (state g book.held) (IsEitherKept s t)

  -- the tables of a book mean this state, as long as its connection is open
  abbrev pub StillHasTables : State → Type 0
  StillHasTables s = StillHolds (state g book.held) s

-- A book in some state was found, in version 1 or 2. The connection shows that state now in version
-- 2, and a crash leaves that state and nothing else.
pub record HasFoundBook (old now : conn.State) : Type 0 where
  pub it : State
  pub found : HasCleanDisk now → IsFound it old.now
  pub shown : HoldsNow now it
  pub keeps : Keeps now it

-- ---- Faults

-- A fault of the store (90) has a cause elsewhere than in the tables. The disk failed or refused a
-- call meanwhile, or an earlier failure had shut the connection; or a limit is set on the steps of
-- a statement.
abbrev pub HasCauseElsewhere : conn.State → conn.State → Type 0
HasCauseElsewhere old new =
    MoreFaults old.faults new.faults ⊎ ((old.is_open ≡ false) ⊎ HasStepLimit old)

-- a fault of a call, if it is one of the store (90), has a cause elsewhere than in the tables
abbrev pub IsCausedElsewhere : conn.State → conn.State → StoreFault → Type 0
IsCausedElsewhere old new fault = HasCleanDisk new → fault ≡ Store → HasCauseElsewhere old new

-- ---- Answers

-- an answer as a result: the reply, or the refusal
abbrev pub result_of : Answer → ReplyOrRefusal
result_of (Accepted reply) = Ok reply
result_of (Refused refusal) = Err refusal

-- a result is the answer that a verdict gives, or the fault that there is in place of a verdict
abbrev pub IsAnswerBy : Result Verdict StoreFault → Result Answer StoreFault → Type 0
IsAnswerBy (Ok verdict) (Ok answer) = result_of answer ≡ answer_of verdict
IsAnswerBy (Err fault) (Err fault') = fault' ≡ fault
IsAnswerBy _ _ = ⊥

-- the result is a fault of the store (90)
abbrev pub is_store_fault : {A : Type 0} → Result A StoreFault → Bool
is_store_fault (Err Store) = true
is_store_fault _ = false

-- a call had a fault, and it is one of the store (90)
abbrev pub is_some_store_fault : Option StoreFault → Bool
is_some_store_fault (Some Store) = true
is_some_store_fault _ = false

-- what is left of a list of commands of which this many were answered, by the fault that ended
-- them, if there was one
abbrev pub Ends : conn.State → State → List Asked → ℕ → Option StoreFault → Type 0
Ends now s l n None = Keeps now (Fold s l)
Ends now s l n (Some Memory) = Keeps now (Fold s (take n l))
Ends now s l n (Some Store) =
    CrashLeaves now (IsEitherKept (Fold s (take n l)) (Fold s (take (n + 1) l)))
