-- What the functions of this crate say to one another of calls in a transaction. No public clause
-- names a word of this file.
use Rattle.std.specs.Prelude.{◌≡◌, ℕ, suc, true, IsTrue, List, [], ◌∷◌, take, Result, Ok, OnOk}
use Rattle.sqlite.specs.Effect.{Database}
use Rattle.sqlite.specs.State.{State, HasCleanDisk, Shows, KeepsCommit}
use Rattle.tables.specs.Calls.{CrashLeavesNoMore}
use Rattle.tables.specs.Schema.{IsBook}
use Rattle.state_rows.specs.Kept.{AreStored}
use Rattle.state_rows.specs.declared.fault.StoreFault.{StoreFault}

-- the connection is in a transaction
abbrev pub IsInside : State → Type 0
IsInside s = HasCleanDisk s → IsTrue s.in_transaction

-- A call changes tables in a transaction, and `Is` says what it makes of the database. What was
-- committed stays, and a crash leaves no more than before the call.
pub record Changed {A E : Type 0}
    (Is : Database → Database → Type 0) (old new : State) (result : Result A E) : Type 0 where
  pub done : HasCleanDisk new →
      OnOk result (Is old.now new.now × Shows old new new.now old.committed true)
  pub kept : HasCleanDisk new → KeepsCommit old new
  pub left : CrashLeavesNoMore old new

-- the database is changed by the first of two changes, and then by the second
abbrev pub Then :
    (Database → Database → Type 0) → (Database → Database → Type 0) →
    Database → Database → Type 0
Then First Second old new = (mid : Database) × First old mid × Second mid new

-- the database is changed for each value of a list in turn, by the place of the value
abbrev pub Each : {V : Type 0} → (ℕ → V → Database → Database → Type 0) → ℕ → List V →
    Database → Database → Type 0
Each Is place [] old new = new ≡ old
Each Is place (v ∷ vs) old new = Then (Is place v) (Each Is (suc place) vs) old new

-- the database has the tables of a book, and in each of the tables each row stands under a number
-- of its own
abbrev pub IsFit : Database → Type 0
IsFit db = IsBook db.schema × AreStored db

-- the change leaves a database that has the tables of a book, each row under a number of its own
abbrev pub Fitting : (Database → Database → Type 0) → Database → Database → Type 0
Fitting Is old new = Is old new × IsFit new

-- the connection is in a transaction over the tables of a book
pub record IsReady (s : State) : Type 0 where
  pub inside : IsInside s
  pub opened : HasCleanDisk s → IsTrue s.is_open
  pub fit : HasCleanDisk s → IsFit s.now

-- a call changes the tables of a book in a transaction, which goes on after the call
pub record Wrote {A E : Type 0}
    (Is : Database → Database → Type 0) (old new : State) (result : Result A E) : Type 0 where
  pub changed : Changed Is old new result
  pub ready : OnOk result (IsReady new)

-- the changes for this many first values of a list are made in a transaction, which goes on
abbrev pub WroteSome : {V : Type 0} → (ℕ → V → Database → Database → Type 0) → ℕ → List V →
    State → State → Type 0
WroteSome Is count vs old now =
    Wrote {A = Unit {0}} {E = StoreFault} (Each Is 0 (take count vs)) old now (Ok tt)
