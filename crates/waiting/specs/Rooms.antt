-- What a room does with the connections that it takes.
use Rattle.std.specs.Prelude.{◌≡◌, ◌⊎◌, ◌≤◌, ◌+◌, ℕ, suc, Bool, false, length, remove, sum_by}
use Rattle.std.specs.Prelude.{option_map, slice_get}
use Rattle.std.specs.Prelude.{List, Option, Some, None, Result, Ok, Err}
use Rattle.http_exchange.specs.declared.exchanges.Served.{Served}
use Rattle.http_exchange.specs.declared.exchanges.Served.TheVariants.{Nothing}
use Rattle.http_exchange.specs.declared.sending.ChannelFault.{ChannelFault}
use Rattle.waiting.specs.Answered.{InTurn}
use Rattle.waiting.specs.Dialogue.{requests_left}
use Rattle.waiting.specs.declared.connection.Connection.{Connection}
use Rattle.waiting.specs.declared.dialogue.Stage.{Stage}
use Rattle.waiting.specs.declared.dialogue.Stage.TheVariants.{Receiving, Sending, Ending, Over}
use Rattle.waiting.specs.declared.dialogue.Stage.TheVariants.{Failed}
use Rattle.waiting.specs.declared.fault.ServeFault.{ServeFault}
use Rattle.waiting.specs.declared.fault.ServeFault.TheVariants.{Channel, Network}
use Rattle.waiting.specs.declared.room.Room.{Room}

-- what came of a connection
abbrev pub Outcome : Type 0
Outcome = Result Served ServeFault

-- how many connections weren't taken of the one of which this came: one if it wasn't, else none
abbrev pub untaken : Outcome → ℕ
untaken (Ok served) = 0
untaken (Err Channel) = 0
untaken (Err Network) = 1

-- what came of a connection at this stage, if it is over
abbrev pub outcome_of : Stage → Option Outcome
outcome_of Receiving = None
outcome_of (Sending served) = None
outcome_of (Ending served) = None
outcome_of (Over served) = Some (Ok served)
outcome_of Failed = Some (Err Channel)

-- A connection stays as far as it is, or is ended: as served once its response has gone, as one
-- over which nothing came, or as failed.
abbrev pub MayEnd : Stage → Stage → Type 0
MayEnd Receiving new = (new ≡ Receiving) ⊎ ((new ≡ Over Nothing) ⊎ (new ≡ Failed))
MayEnd (Sending served) new = (new ≡ Sending served) ⊎ (new ≡ Failed)
MayEnd (Ending served) new = (new ≡ Ending served) ⊎ (new ≡ Over served)
MayEnd (Over served) new = new ≡ Over served
MayEnd Failed new = new ≡ Failed

-- how many requests may still be asked over a connection: one, until it is whole
abbrev pub requests_over : Connection → ℕ
requests_over it = requests_left it.dialogue.stage

-- how many requests may still be asked in a room: one over each connection that may still be taken,
-- and one over each that is open and whose request isn't whole
abbrev pub requests_to_come : Room → ℕ
requests_to_come room = room.left + sum_by requests_over room.connections.items

-- how many connections aren't over yet: those that may still be taken, and those that are open
abbrev pub connections_to_come : Room → ℕ
connections_to_come room = room.left + length room.connections.items

-- as many requests and connections are to come as before
pub record KeepsConnections (old new : Room) : Type 0 where
  pub requests : requests_to_come new ≡ requests_to_come old
  pub connections : connections_to_come new ≡ connections_to_come old

-- one connection fewer is to come, of which this came, and not more requests
pub record IsOneFewer (old new : Room) (outcome : Outcome) : Type 0 where
  pub few : untaken outcome + requests_to_come new ≤ requests_to_come old
  pub one : connections_to_come old ≡ suc (connections_to_come new)

-- at this place of the connections stands one that is over, of which this came
abbrev pub IsOverAt : List Connection → ℕ → Outcome → Type 0
IsOverAt connections at outcome =
    option_map (λ it. outcome_of it.dialogue.stage) (slice_get connections at)
    ≡ Some (Some outcome)

-- a connection is let go that is over, of which this came, if there is one
abbrev pub LetsGo : Room → Room → Option Outcome → Type 0
LetsGo old new (Some outcome) =
    IsOneFewer old new outcome
    × ((at : ℕ) × IsOverAt old.connections.items at outcome
    × (new.connections.items ≡ remove old.connections.items at))
LetsGo old new None = KeepsConnections old new

-- a connection is given up, of which this came, unless none is left
abbrev pub GivesUp : Room → Room → Option Outcome → Type 0
GivesUp old new (Some outcome) = IsOneFewer old new outcome
GivesUp old new None = KeepsConnections old new × (connections_to_come old ≡ 0)

-- connections are as far as they were
pub record StayAsFar (old new : List Connection) : Type 0 where
  pub requests : sum_by requests_over new ≡ sum_by requests_over old
  pub count : length new ≡ length old

module _ {K : Type 0} (answers : K → K → List ℕ → List ℕ → Result Served ChannelFault → Type 0)
    (fails : K → Bool) where
  -- Requests were answered in turn until one connection was over, of which this came. A connection
  -- that wasn't taken asks nothing. As long as what is kept hasn't failed, one fewer is to come.
  pub record IsOverNext (old new : Room) (kept kept' : K) (outcome : Outcome) : Type 0 where
    pub asked : ℕ
    pub answered : InTurn answers fails asked kept kept'
    pub few : asked + untaken outcome + requests_to_come new ≤ requests_to_come old
    pub one : fails kept' ≡ false → connections_to_come old ≡ suc (connections_to_come new)

  -- No connection is left. Requests were answered in turn: none, unless what is kept has failed.
  pub record IsEmptied (old new : Room) (kept kept' : K) : Type 0 where
    pub asked : ℕ
    pub answered : InTurn answers fails asked kept kept'
    pub few : asked + requests_to_come new ≤ requests_to_come old
    pub none : fails kept' ≡ false → connections_to_come old ≡ 0

  -- what a room does next
  abbrev pub ServesNext : Room → Room → K → K → Option Outcome → Type 0
  ServesNext old new kept kept' (Some outcome) = IsOverNext old new kept kept' outcome
  ServesNext old new kept kept' None = IsEmptied old new kept kept'
