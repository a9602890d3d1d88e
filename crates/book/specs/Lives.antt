-- Whole lives of a book: it is made, or found in version 1 or 2; called; stopped anywhere; taken up
-- again over what a crash left, where an opening may be stopped too; and called again.
use Rattle.std.specs.Prelude.{◌≡◌, ℕ, zero, suc, Bool, false, if◌then◌else◌, ◌⊎◌}
use Rattle.std.specs.Prelude.{List, [], ◌∷◌, ◌++◌, drop, length, take}
use Rattle.std.specs.List.{flat_map}
use Rattle.sqlite_trees.specs.declared.store.Store.{Ghosts}
use Rattle.sqlite.specs.Held.{Held, state}
use Rattle.sqlite.specs.State.{HasCleanDisk, Opens}
use Rattle.roster.specs.Folds.{Asked, Fold, Replies, ReplyOrRefusal}
use Rattle.roster.specs.Honest.{Honest}
use Rattle.roster.specs.State.{State}
use Rattle.state_rows.specs.Outcomes.{CrashLeaves, CrashLeavesSome}
use Rattle.book.specs.Calls.{AreCalls, Call}
use Rattle.book.specs.Kept.{IsDurablyAt, Kept, KeepsEither, is_some_store_fault}

-- ---- Sessions

-- the commands that a call acknowledged, which are those that it answered
abbrev pub acknowledged_by : Call → List Asked
acknowledged_by call = take (length call.answers) call.asked

-- the call met a fault of the store (90)
abbrev pub is_stopped : Call → Bool
is_stopped call = is_some_store_fault call.fault

-- the command that was in work when a call met a fault of the store, if there was one; the command
-- is done or not
abbrev pub doubted_by : Call → List Asked
doubted_by call = take 1 (drop (length call.answers) call.asked)

-- the commands that the calls of a session acknowledged
abbrev pub acknowledged : List Call → List Asked
acknowledged calls = flat_map acknowledged_by calls

-- the answers to the commands that the calls of a session acknowledged
abbrev pub answers : List Call → List ReplyOrRefusal
answers calls = flat_map (λ call. call.answers) calls

-- the command that was in work when the store failed in a session, if there was one
abbrev pub in_doubt : List Call → List Asked
in_doubt [] = []
in_doubt (call ∷ calls) = if is_stopped call then doubted_by call else in_doubt calls

-- ---- Lives

module _ {S : Type 0} (g : Ghosts S) where
  -- a connection was opened over what a crash left of another connection
  pub record IsOpenedOver (before opened : Held S) : Type 0 where
    -- the disk of the other connection had returned what was written
    pub clean : HasCleanDisk (state g before)
    -- the new connection shows what the crash left
    pub left : (state g before).may_leave (state g opened).now.trees
    -- nothing is done yet in the new connection, as the clauses of `sqlite` say of a connection
    -- that is opened
    pub opens : HasCleanDisk (state g opened) → Opens (state g opened)

  -- `Book::adopt` took no book of a connection: a book, in version 1 or 2, that a crash would have
  -- left before the call, a crash still leaves after it, as the clause `again_either` says
  abbrev pub IsRefused : Held S → Held S → Type 0
  IsRefused opened after =
      (s : State) → KeepsEither (state g opened) s → KeepsEither (state g after) s

  -- `Book::adopt` took up the book of a connection, as its clauses `fresh` and `kept` say
  pub record IsTakenUp (opened : Held S) (book : Kept S) : Type 0 where
    pub fresh : book.failed ≡ false
    pub kept : (s : State) → KeepsEither (state g opened) s → IsDurablyAt g book s

  -- this many openings took no book, in turn, each over what a crash left of the one before; the
  -- next opening took up the book
  abbrev pub IsReopenedAfter : ℕ → Held S → Kept S → Type 0
  IsReopenedAfter zero before book =
      (opened : Held S) × IsOpenedOver before opened × IsTakenUp opened book
  IsReopenedAfter (suc refusals) before book =
      (opened after : Held S) × IsOpenedOver before opened × IsRefused opened after
      × IsReopenedAfter refusals after book

  -- a book was taken up over what a crash left, at once or after openings that took none
  abbrev pub IsReopened : Held S → Kept S → Type 0
  IsReopened before book = (refusals : ℕ) × IsReopenedAfter refusals before book

  -- a book had more sessions, each over what a crash left of the session before, and after the last
  -- session it is the last book
  abbrev pub GoesOn : Kept S → List (List Call) → Kept S → Type 0
  GoesOn stopped [] last = last ≡ stopped
  GoesOn stopped (calls ∷ later) last =
      (again : Kept S) × (left : Kept S)
      × IsReopened stopped.held again × AreCalls g again calls left × GoesOn left later last

  -- a book is durably at this state, as `Book::create` and `Book::adopt` make one
  abbrev pub IsMadeAt : State → Kept S → Type 0
  IsMadeAt begin made = (made.failed ≡ false) × IsDurablyAt g made begin

  -- a book was taken up from a file that held this state, in version 1 or 2
  abbrev pub IsFoundAt : State → Kept S → Type 0
  IsFoundAt begin made = (file : Held S) × KeepsEither (state g file) begin × IsReopened file made

  -- A life: a book was made at this state, or found at it. These calls were done in its first
  -- session, and these lists of calls in its later ones. It is the last book now.
  pub record Life (begin : State) (calls : List Call) (later : List (List Call))
      (last : Kept S) : Type 0 where
    pub made : Kept S
    pub begun : IsMadeAt begin made ⊎ IsFoundAt begin made
    pub left : Kept S
    pub first : AreCalls g made calls left
    pub more : GoesOn left later last

-- ---- What comes of them

-- The commands that these calls of a book in state s left done. They are all that the calls
-- acknowledged, with the answers of the state machine; and what was in work when the store failed,
-- or not.
pub record AreDone (s : State) (calls : List Call) (done : List Asked) : Type 0 where
  pub all : (done ≡ acknowledged calls) ⊎ (done ≡ acknowledged calls ++ in_doubt calls)
  pub replies : answers calls ≡ Replies s (acknowledged calls)

-- the commands that some sessions left done, in turn, each session begun in the state that the
-- session before it left
abbrev pub AreDoneInTurn : State → List (List Call) → List (List Asked) → Type 0
AreDoneInTurn s [] [] = Unit {0}
AreDoneInTurn s [] (done ∷ more) = ⊥
AreDoneInTurn s (calls ∷ later) [] = ⊥
AreDoneInTurn s (calls ∷ later) (done ∷ more) =
    AreDone s calls done × AreDoneInTurn (Fold s done) later more

-- the commands that all sessions left done, in turn
abbrev pub in_turn : List (List Asked) → List Asked
in_turn sessions = flat_map (λ done. done) sessions

-- a state that is left of a life
pub record IsLeftOf (begin : State) (life : List (List Call)) (s : State) : Type 0 where
  pub done : List (List Asked)
  pub are : AreDoneInTurn begin life done
  pub fold : s ≡ Fold begin (in_turn done)
  -- an honest book is honest still
  pub honest : Honest begin → Honest s

-- Whatever a book is asked, and wherever it is stopped, a crash leaves something, and nothing but a
-- state that is left of the book's life.
abbrev pub EachLifeHolds : {S : Type 0} → Ghosts S → Type 0
EachLifeHolds {S} g =
    (begin : State) (calls : List Call) (later : List (List Call)) (last : Kept S) →
    Life g begin calls later last →
    CrashLeaves (state g last.held) (IsLeftOf begin (calls ∷ later))
    × CrashLeavesSome (state g last.held)

-- A connection that is opened over what a crash left has the book, in a state that tables may mean.
-- So `Book::adopt` doesn't refuse the book for its tables (40, 41, 42), as the clause `not_refused`
-- says.
pub record EachIsFoundAgain {S : Type 0} (g : Ghosts S) : Type 0 where
  -- the book had a life, and the state is one that is left of it
  pub lived : (begin : State) (calls : List Call) (later : List (List Call)) (last : Kept S) →
      Life g begin calls later last → (opened : Held S) → IsOpenedOver g last.held opened →
      (s : State) × KeepsEither (state g opened) s × IsLeftOf begin (calls ∷ later) s
  -- or the book was kept otherwise, as after an opening that took none, and the state is the same
  pub kept : (before opened : Held S) (s : State) → KeepsEither (state g before) s →
      IsOpenedOver g before opened → KeepsEither (state g opened) s
