-- How a connection goes on: its request comes, is answered once it is whole, and the response goes.
use Rattle.std.specs.Prelude.{◌≡◌, ◌⊎◌, ⊤, ℕ, false, List, ◌++◌, Result, Ok, Err, length}
use Rattle.std.specs.Io.KnownBytes.{Appends, Consumes, IsAtEnd}
use Rattle.http_message.specs.Response.{no_memory}
use Rattle.http_exchange.specs.Exchange.{ChannelBytes}
use Rattle.http_exchange.specs.declared.exchanges.Served.{Served}
use Rattle.http_exchange.specs.declared.exchanges.Served.TheVariants.{Answered}
use Rattle.http_exchange.specs.declared.sending.ChannelFault.{ChannelFault}
use Rattle.waiting.specs.Handing.{HandsOut, IsSaid, IsSet}
use Rattle.waiting.specs.Whole.{HasWaitingHead, IsWhole}
use Rattle.waiting.specs.declared.dialogue.Dialogue.{Dialogue}
use Rattle.waiting.specs.declared.dialogue.Stage.{Stage}
use Rattle.waiting.specs.declared.dialogue.Stage.TheVariants.{Receiving, Sending, Ending, Over, Failed}
use Rattle.waiting.specs.declared.outgoing.Outgoing.{Outgoing}

-- how many requests may still be asked over a connection: one, until it is whole
abbrev pub requests_left : Stage → ℕ
requests_left Receiving = 1
requests_left (Sending served) = 0
requests_left (Ending served) = 0
requests_left (Over served) = 0
requests_left Failed = 0

-- a writer took the next bytes of what is said, up to those that have gone now
abbrev pub HandsOn : Outgoing → Outgoing → ChannelBytes → ChannelBytes → Type 0
HandsOn old new out out' = HandsOut new.bytes.items old.gone new.gone out out'

-- a response has gone as it is served only once a writer took all of it
abbrev pub IsGone : Stage → Outgoing → Type 0
IsGone (Ending served) response = response.gone ≡ length response.bytes.items
IsGone stage response = ⊤

-- It is over, since its channel failed; or there was no memory, which was written, as nothing else
-- was left to be said.
abbrev pub IsGivenUp : Dialogue → ChannelBytes → ChannelBytes → Type 0
IsGivenUp new out out' =
    (new.stage ≡ Failed)
    ⊎ ((new.stage ≡ Ending (Answered 503)) × IsGone new.stage new.response
    × Appends out out' (no_memory false))

-- the response goes, or has gone, or the channel failed meanwhile
abbrev pub IsOnItsWay : Served → Stage → Type 0
IsOnItsWay served stage =
    (stage ≡ Sending served) ⊎ ((stage ≡ Ending served) ⊎ (stage ≡ Failed))

-- How a connection goes on over which nothing is asked: its stage stays, or its response has gone,
-- or the channel failed.
abbrev pub StaysOrEnds : Stage → Dialogue → Type 0
StaysOrEnds (Sending served) new = IsOnItsWay served new.stage × IsGone new.stage new.response
StaysOrEnds old new = (new.stage ≡ old) ⊎ (new.stage ≡ Failed)

-- Nothing is asked: what is said goes on, to which at most `100 Continue` is added.
pub record IsSaidOn (old new : Dialogue) (out out' : ChannelBytes) : Type 0 where
  pub said : IsSaid old.response.bytes.items new.response.bytes.items
  pub sent : HandsOn old.response new.response out out'
  pub stage : StaysOrEnds old.stage new

-- The bytes of a response are set after what was said before, and a writer takes the first of them.
pub record IsSentOn (said : Outgoing) (new : Dialogue) (response : List ℕ) (served : Served)
    (out out' : ChannelBytes) : Type 0 where
  pub set : IsSet said.bytes.items response new.response.bytes.items
  pub sent : HandsOn said new.response out out'
  pub gone : IsGone new.stage new.response
  pub stage : IsOnItsWay served new.stage

-- What comes next of an answer that was written: its response is sent, or given up.
abbrev pub IsNextSaid : Result Served ChannelFault → List ℕ → Outgoing → Dialogue → ChannelBytes
    → ChannelBytes → Type 0
IsNextSaid (Ok served) response said new out out' =
    IsSentOn said new response served out out' ⊎ IsGivenUp new out out'
IsNextSaid (Err fault) response said new out out' = IsGivenUp new out out'

-- What is read stands behind what had come, as long as the request isn't whole.
abbrev pub IsReadOn : ChannelBytes → ChannelBytes → Dialogue → Dialogue → Type 0
IsReadOn had left old new =
    new.stage ≡ Receiving
    → (more : List ℕ) × Consumes had left more × (new.request ≡ old.request ++ more)

module _ {K : Type 0}
    (answers : K → K → List ℕ → List ℕ → Result Served ChannelFault → Type 0) where
  -- These bytes of a request were answered, and the answer's response is sent after what was said.
  pub record IsAnsweredOver (request : List ℕ) (said : Outgoing) (new : Dialogue)
      (out out' : ChannelBytes) (kept kept' : K) : Type 0 where
    pub response : List ℕ
    pub result : Result Served ChannelFault
    pub answered : answers kept kept' request response result
    pub next : IsNextSaid result response said new out out'

  -- The request of this connection was answered, and it was whole: nothing is left of the reader's,
  -- or whatever follows asks the same.
  pub record IsAsked (had left out out' : ChannelBytes) (old new : Dialogue) (kept kept' : K)
      : Type 0 where
    pub waited : old.stage ≡ Receiving
    pub request : List ℕ
    pub read : (more : List ℕ) × Consumes had left more × (request ≡ old.request ++ more)
    pub whole : IsAtEnd left ⊎ IsWhole request
    pub answered : IsAnsweredOver request old.response new out out' kept kept'

  -- Nothing was asked, and what is kept is as it was. Only a client that waits is told to go on.
  pub record AsksNothing (had left out out' : ChannelBytes) (old new : Dialogue) (kept kept' : K)
      : Type 0 where
    pub same : kept' ≡ kept
    pub read : IsReadOn had left old new
    pub told : (new.response.bytes.items ≡ old.response.bytes.items)
        ⊎ HasWaitingHead new.request
    pub next : IsSaidOn old new out out' ⊎ IsGivenUp new out out'

  -- nothing was asked, or the request of this connection was
  abbrev pub Converses : ChannelBytes → ChannelBytes → ChannelBytes → ChannelBytes → Dialogue
      → Dialogue → K → K → Type 0
  Converses had left out out' old new kept kept' =
      AsksNothing had left out out' old new kept kept'
      ⊎ IsAsked had left out out' old new kept kept'

-- What a writer took more of a response that is sent.
pub record IsHandedOn (old new : Dialogue) (served : Served) (out out' : ChannelBytes)
    : Type 0 where
  pub same : new.response.bytes.items ≡ old.response.bytes.items
  pub sent : HandsOn old.response new.response out out'
  pub gone : IsGone new.stage new.response
  pub stage : IsOnItsWay served new.stage
