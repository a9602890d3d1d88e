-- What becomes of a call for the count of requests: a book says how many it keeps, and which number
-- is free for the next, and this is reported.
use Rattle.std.specs.Prelude.{◌≡◌, ℕ, List, string_bytes, String, Result, Ok, Err, IfOk, OnOk}
use Rattle.std.specs.Global.{Global}
use Rattle.sqlite_trees.specs.declared.store.Store.{Ghosts}
use Rattle.roster.specs.State.{State}
use Rattle.report_json.specs.CountJson.{count_json}
use Rattle.report_json.specs.Objects.{json_text}
use Rattle.state_rows.specs.declared.fault.StoreFault.{StoreFault}
use Rattle.lookup.specs.Count.{IsCount}
use Rattle.lookup.specs.declared.count.RequestCount.{RequestCount}
use Rattle.book.specs.Calls.{HasRead}
use Rattle.book.specs.Kept.{HasTablesOf, IsDurablyAt, IsClean, Kept}
use Rattle.asking.specs.declared.answers.AskFault.{AskFault}
use Rattle.asking.specs.declared.answers.AskFault.TheVariants.{Book, Memory}

-- the text of a count in JSON
abbrev pub count_text : RequestCount → List ℕ
count_text count = json_text (count_json count.kept count.next)

-- this is the text of how many requests a state keeps, and of which number is free for the next
abbrev pub IsCountText : State → List ℕ → Type 0
IsCountText s text = (count : RequestCount) × IsCount s count × (text ≡ count_text count)

-- a count is reported, or there is no memory for its text
abbrev pub TellsCount : RequestCount → Result (String Global) AskFault → Type 0
TellsCount count (Ok text) = string_bytes text ≡ count_text count
TellsCount count (Err fault) = fault ≡ Memory

-- what a book counts is reported, or a fault that the book met
abbrev pub ReportsCount : Result RequestCount StoreFault → Result (String Global) AskFault → Type 0
ReportsCount (Ok count) result = TellsCount count result
ReportsCount (Err fault) result = result ≡ Err (Book fault)

module _ {S : Type 0} (g : Ghosts S) (old new : Kept S) where
  -- A book was asked how many requests it keeps, and gave this count or fault, as `Book::count`
  -- says. The count is that of the state that the tables mean.
  pub record HasGivenCount (count : Result RequestCount StoreFault) : Type 0 where
    pub call : HasRead g old new count
    pub counted : (s : State) → IsDurablyAt g old s → IsClean g new → IfOk count (IsCount s)
    pub tables : (s : State) → IsDurablyAt g old s → HasTablesOf g old s →
        OnOk count (HasTablesOf g new s)

  -- a book was asked for the count of requests, and what it gave is reported
  pub record IsCountAsked (result : Result (String Global) AskFault) : Type 0 where
    pub count : Result RequestCount StoreFault
    pub has_counted : HasGivenCount count
    pub reported : ReportsCount count result
