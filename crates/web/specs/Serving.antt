-- What one exchange with a book is: the response was given, or 503 for a fault; and if the channel
-- fails, what was asked.
use Rattle.std.specs.Prelude.{◌≡◌, ◌⊎◌, ◌<◌, ⊤, ℕ, ◌+◌, false, IsTrue, List, [], ◌++◌, length, drop}
use Rattle.std.specs.Prelude.{take, Option, Some, None, Ok}
use Rattle.std.specs.Io.KnownBytes.{Appends}
use Rattle.httparse.specs.Grammar.{RequestHead}
use Rattle.sqlite.specs.Held.{state}
use Rattle.sqlite_trees.specs.declared.store.Store.{Ghosts}
use Rattle.roster.specs.Folds.{Fold}
use Rattle.roster.specs.State.{State}
use Rattle.state_rows.specs.Outcomes.{StaysOpen}
use Rattle.book.specs.Kept.{HasTablesOf, IsDurablyAt, IsInDoubt, Kept, StillHasTables}
use Rattle.http_message.specs.Heading.{heading}
use Rattle.http_message.specs.Plan.{Planned, plan_for_head}
use Rattle.http_message.specs.Reading.{HasHead, HasNoHead}
use Rattle.http_message.specs.Response.{no_memory, no_store}
use Rattle.http_exchange.specs.Exchange.{ChannelBytes, IsInterimAtMost, IsExchangeServed, asks}
use Rattle.http_exchange.specs.Exchange.{interim, unread}
use Rattle.http_exchange.specs.Handler.{HandlerRequest}
use Rattle.http_exchange.specs.declared.exchanges.Served.{Served}
use Rattle.http_exchange.specs.declared.exchanges.Served.TheVariants.{Answered, Nothing}
use Rattle.http_exchange.specs.declared.sending.ChannelFault.{ChannelFault}
use Rattle.http_exchange.specs.declared.sending.ChannelFault.TheVariants.{Reader, Writer}
use Rattle.web.specs.Acts.{Asks, Commands, IsAnsweredShut}
use Rattle.web.specs.Response.{IsResponse, WholeResponse, bytes}

-- the input has a head which, by its plan and these bytes after the head, is this request, and the
-- request asks these commands
pub record IsRequestFor (input : List ℕ) (p : Planned) (rest : List ℕ) (asked : HandlerRequest)
    (commands : Commands) : Type 0 where
  pub h : RequestHead
  pub head : HasHead input h rest
  pub planned : p ≡ plan_for_head (heading h)
  pub whole : asks p.step rest ≡ Ok asked
  pub listed : Asks asked commands

-- what is left unread is what a response says, if the response says it
abbrev pub IsLeftUnread : Option (List ℕ) → ChannelBytes → Type 0
IsLeftUnread None left = ⊤
IsLeftUnread (Some rest) left = left ≡ Some rest

-- the tables of the new book mean this state as long as its connection is open; it is open if it
-- was, unless the disk failed or refused a call
abbrev pub StillMeans : {S : Type 0} → Ghosts S → Kept S → Kept S → State → Type 0
StillMeans g old new s = StillHasTables g new s × StaysOpen (state g old.held) (state g new.held)

module _ {S : Type 0} (g : Ghosts S) (s : State) where
  -- some number of the first commands were done, and the tables mean the state after these
  abbrev pub IsBegun : Kept S → Kept S → Commands → Type 0
  IsBegun old new commands =
      (n : ℕ) × IsDurablyAt g new (Fold s (take n commands))
      × (HasTablesOf g old s → StillMeans g old new (Fold s (take n commands)))

  -- the store failed at one of the commands, which is done or not; those before it are done
  abbrev pub IsInDoubtAtOne : Kept S → Commands → Type 0
  IsInDoubtAtOne new commands =
      (n : ℕ) × IsInDoubt g new (Fold s (take n commands)) (Fold s (take (n + 1) commands))

  -- ---- a response

  -- the response to the input was given, and its commands are done
  pub record IsGiven (input : List ℕ) (left out out' : ChannelBytes) (old new : Kept S) (code : ℕ)
      : Type 0 where
    pub response : WholeResponse
    pub is : IsResponse s input response
    pub status : code ≡ response.final.status
    pub written : Appends out out' (bytes response)
    pub left_is : IsLeftUnread response.unread left
    pub failed : new.failed ≡ old.failed
    pub state : IsDurablyAt g new (Fold s response.commands)
    pub tables : HasTablesOf g old s → HasTablesOf g new (Fold s response.commands)

  -- the book's store failed (90), and the final response says so, after the interim response
  pub record IsStoreTold (input : List ℕ) (left out out' : ChannelBytes) (new : Kept S) (code : ℕ)
      : Type 0 where
    pub p : Planned
    pub rest : List ℕ
    pub asked : HandlerRequest
    pub commands : Commands
    pub request : IsRequestFor input p rest asked commands
    pub status : code ≡ 503
    pub written : Appends out out' (interim p.step ++ no_store p.is_head)
    pub left_is : left ≡ Some (unread p.step rest)
    pub failed : IsTrue new.failed
    pub state : IsInDoubtAtOne new commands

  -- the commands that the input asks were begun, or none was asked
  abbrev pub IsBegunOf : List ℕ → Planned → List ℕ → Kept S → Kept S → Type 0
  IsBegunOf input p rest old new =
      (new ≡ old)
      ⊎ ((asked : HandlerRequest) × (commands : Commands) × IsRequestFor input p rest asked commands
      × IsBegun old new commands)

  -- there was no memory (91) to report that there is no head, or for a head, of which one byte was
  -- read
  abbrev pub IsToldAtOnce : List ℕ → ChannelBytes → ChannelBytes → ChannelBytes → Kept S → Kept S
      → Type 0
  IsToldAtOnce input left out out' old new =
      (HasNoHead input ⊎ (left ≡ Some (drop 1 input))) × (new ≡ old)
      × Appends out out' (no_memory false)

  -- After a head there was no memory (91): before anything more was read, written or asked; or
  -- after the interim response, and the body if there is one.
  abbrev pub IsToldAfter : List ℕ → Planned → List ℕ → ChannelBytes → ChannelBytes → ChannelBytes
      → Kept S → Kept S → Type 0
  IsToldAfter input p rest left out out' old new =
      ((left ≡ Some rest) × (new ≡ old) × Appends out out' (no_memory p.is_head))
      ⊎ ((left ≡ Some (unread p.step rest))
      × Appends out out' (interim p.step ++ no_memory p.is_head) × IsBegunOf input p rest old new)

  -- there was no memory (91), and 503 says so in place of the final response
  pub record IsMemoryTold (input : List ℕ) (left out out' : ChannelBytes) (old new : Kept S)
      (code : ℕ) : Type 0 where
    pub some : 0 < length input
    pub status : code ≡ 503
    pub failed : new.failed ≡ old.failed
    pub told : IsToldAtOnce input left out out' old new
        ⊎ ((h : RequestHead) × (rest : List ℕ) × HasHead input h rest
        × IsToldAfter input (plan_for_head (heading h)) rest left out out' old new)

  -- what an input was served: nothing if it has no byte, else the response to it, or 503 for a
  -- fault
  abbrev pub IsServedOf : List ℕ → ChannelBytes → ChannelBytes → ChannelBytes → Kept S → Kept S
      → Served → Type 0
  IsServedOf input left out out' old new Nothing = (input ≡ []) × (out' ≡ out) × (new ≡ old)
  IsServedOf input left out out' old new (Answered code) =
      IsGiven input left out out' old new code
      ⊎ (IsStoreTold input left out out' new code
      ⊎ IsMemoryTold input left out out' old new code)

  -- what a reader's input was served, if it is known what the reader has
  abbrev pub IsServed : ChannelBytes → ChannelBytes → ChannelBytes → ChannelBytes → Kept S → Kept S
      → Served → Type 0
  IsServed None left out out' old new it = ⊤
  IsServed (Some input) left out out' old new it = IsServedOf input left out out' old new it

  -- ---- a channel that failed

  -- what a request asks was begun, or, after a fault of the store, it is in doubt at one of its
  -- commands
  abbrev pub IsLeftBy : Kept S → Kept S → Commands → Type 0
  IsLeftBy old new commands =
      IsBegun old new commands ⊎ (IsTrue new.failed × IsInDoubtAtOne new commands)

  -- The channel failed. If the reader did, nothing was asked, and no response is written; if the
  -- writer did, at most what the input asks was asked.
  abbrev pub IsBrokenOff : ChannelBytes → ChannelBytes → ChannelBytes → Kept S → Kept S
      → ChannelFault → Type 0
  IsBrokenOff had out out' old new Reader = (new ≡ old) × IsInterimAtMost had out out'
  IsBrokenOff None out out' old new Writer = ⊤
  IsBrokenOff (Some input) out out' old new Writer =
      (new ≡ old)
      ⊎ ((p : Planned) × (rest : List ℕ) × (asked : HandlerRequest) × (commands : Commands)
      × IsRequestFor input p rest asked commands × IsLeftBy old new commands)

  -- whatever the input is, nothing was asked, or the commands of one request
  abbrev pub AsksOnce : Kept S → Kept S → Type 0
  AsksOnce old new =
      (new ≡ old)
      ⊎ ((asked : HandlerRequest) × (commands : Commands) × Asks asked commands
      × IsLeftBy old new commands)

-- what an input is served by a book that has failed: why nothing of a body is read, the page of the
-- desk, and to a request that is read, that the store failed
abbrev pub IsServedShut : {S : Type 0} → ChannelBytes → ChannelBytes → ChannelBytes → ChannelBytes
    → Kept S → Kept S → Served → Type 0
IsServedShut had left out out' old new it =
    IsExchangeServed (λ was now asked told. IsAnsweredShut asked told) had left out out' old new it
