-- What a connection leaves of a book, and what a book answers over it.
use Rattle.std.specs.Prelude.{◌≡◌, Bool, IfErr, IfOk, IsTrue, List, [], ℕ, Result, Some}
use Rattle.sqlite.specs.Held.{state}
use Rattle.sqlite_trees.specs.declared.store.Store.{Ghosts}
use Rattle.roster.specs.Honest.{Honest}
use Rattle.roster.specs.State.{State}
use Rattle.writing.specs.Beside.{KeepOthers}
use Rattle.state_rows.specs.Outcomes.{CrashAddsOnly, CrashLeaves}
use Rattle.book.specs.Calls.{IsAfterCalls}
use Rattle.book.specs.Kept.{IsDurablyAt, IsClean, Kept}
use Rattle.http_exchange.specs.Exchange.{ChannelBytes}
use Rattle.http_exchange.specs.declared.exchanges.Served.{Served}
use Rattle.http_exchange.specs.declared.sending.ChannelFault.{ChannelFault}
use Rattle.web.specs.Serving.{AsksOnce, IsBrokenOff, IsServed}

-- whether a book's store has failed
abbrev pub has_failed : {S : Type 0} → Kept S → Bool
has_failed book = book.failed

-- The book was asked what one request asks, or nothing. The clauses that hold of every asking hold.
pub record IsServedOnce {S : Type 0} (g : Ghosts S) (old new : Kept S) : Type 0 where
  pub once : (s : State) → IsDurablyAt g old s → AsksOnce g s old new
  pub shut : IsTrue old.failed → new ≡ old
  pub disk : IsClean g new → IsClean g old
  pub honest : (s : State) → IsDurablyAt g old s → Honest s → CrashLeaves (state g new.held) Honest
  pub others_left : CrashAddsOnly (state g old.held) (state g new.held)
      (KeepOthers (state g old.held).now)
  -- what was done to the book is a list of calls, whatever came over the connection
  pub calls : IsAfterCalls g old new

-- These bytes of a response are what the book answers to these bytes of a request; or there was no
-- memory to write them, and at most what the request asks was asked.
pub record IsAnsweredBy {S : Type 0} (g : Ghosts S) (old new : Kept S) (request response : List ℕ)
    (result : Result Served ChannelFault) : Type 0 where
  pub once : IsServedOnce g old new
  pub served : (s : State) → IsDurablyAt g old s → IsClean g new → IfOk result
      (λ it. (left : ChannelBytes)
      × IsServed g s (Some request) left (Some []) (Some response) old new it)
  pub broken_off : (s : State) → IsDurablyAt g old s → IfErr result
      (λ fault. IsBrokenOff g s (Some request) (Some []) (Some response) old new fault)
