-- What `do` does with a book, by whether nothing is kept, and by whether there is a command on each
-- line.
use Rattle.std.specs.Prelude.{Bool, true, false}
use Rattle.sqlite_trees.specs.declared.store.Store.{Ghosts}
use Rattle.book.specs.Kept.{Kept}
use Rattle.http_exchange.specs.Exchange.{ChannelBytes}
use Rattle.rosterbook.specs.Asking.{IsAskStopped, IsRequestAnswered, left_by_check, left_by_request}
use Rattle.rosterbook.specs.InLines.{AreChecksStopped, AreLinesAnswered, AreLinesChecked, AreLinesStopped}
use Rattle.rosterbook.specs.Showing.{IsShowStopped}
use Rattle.rosterbook.specs.declared.status.Status.{Status}
use Rattle.rosterbook.specs.declared.stop.Stop.{Stop}

module _ {S : Type 0} (g : Ghosts S) (old new : Kept S) (held out out' : ChannelBytes) where
  -- what a reader has was read, and what the book answered to it was printed
  abbrev pub IsInputAnswered : (dry_run lines : Bool) → Status → Type 0
  IsInputAnswered false false status =
      IsRequestAnswered g left_by_request old new held out out' status
  IsInputAnswered true false status =
      IsRequestAnswered g left_by_check old new held out out' status
  IsInputAnswered false true status = AreLinesAnswered g old new held out out' status
  IsInputAnswered true true status = AreLinesChecked g old new held out out' status

  -- the program stopped before all was read, answered and printed
  abbrev pub IsInputStopped : (dry_run lines : Bool) → Stop → Type 0
  IsInputStopped false false stop = IsAskStopped g old new held out out' stop
  IsInputStopped true false stop = IsShowStopped new out out' stop
  IsInputStopped false true stop = AreLinesStopped g old new held out out' stop
  IsInputStopped true true stop = AreChecksStopped g old new held out out' stop
