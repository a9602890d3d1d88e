-- What `serve` does with its connections, and where it stops.
use Rattle.std.specs.Prelude.{◌≡◌, ◌⊎◌, ⊤, ◌≤◌, ◌+◌, ℕ, Bool, true, false, List, [], ◌∷◌, ◌++◌}
use Rattle.std.specs.Prelude.{length, sum_by, codes, Result, Ok, Err}
use Rattle.std.specs.Fmt.{decimal}
use Rattle.std.specs.Io.KnownBytes.{Appends}
use Rattle.waiting.specs.Answered.{InTurn}
use Rattle.waiting.specs.Rooms.{Outcome, untaken}
use Rattle.waiting.specs.ServeText.{serve_text}
use Rattle.web.specs.Connections.{IsAnsweredBy, has_failed}
use Rattle.sqlite_trees.specs.declared.store.Store.{Ghosts}
use Rattle.book.specs.Kept.{Kept}
use Rattle.state_rows.specs.declared.fault.StoreFault.TheVariants.{Store}
use Rattle.http_exchange.specs.Exchange.{ChannelBytes}
use Rattle.rosterbook.specs.Streams.{IsOfChannel, line_end, refused_line}
use Rattle.rosterbook.specs.declared.status.Status.{Status}
use Rattle.rosterbook.specs.declared.status.Status.TheVariants.{Done}
use Rattle.rosterbook.specs.declared.stop.Stop.{Stop}
use Rattle.rosterbook.specs.declared.stop.Stop.TheVariants.{Book, Channel}

-- the line of a connection that failed; a connection that didn't fail has none
abbrev pub failure_line : Outcome → List ℕ
failure_line (Ok served) = []
failure_line (Err fault) = refused_line (serve_text fault)

-- a line for each connection that failed, in turn
abbrev pub failure_lines : List Outcome → List ℕ
failure_lines [] = []
failure_lines (outcome ∷ outcomes) = failure_line outcome ++ failure_lines outcomes

-- one of these connections failed
abbrev pub HasFailure : List Outcome → Type 0
HasFailure [] = ⊥
HasFailure (Ok served ∷ outcomes) = HasFailure outcomes
HasFailure (Err fault ∷ outcomes) = ⊤

-- the line that names the port
abbrev pub port_line : ℕ → List ℕ
port_line port = codes "listening " ++ decimal port ++ line_end

module _ {S : Type 0} (g : Ghosts S) where
  -- Connections were over in turn, of which these outcomes came. Meanwhile the book answered
  -- requests in turn, as long as its store hadn't failed: at most one over each of this many
  -- connections, and none over one that wasn't taken. If all lines could be written (`told`), those
  -- of the failed connections were, and nothing else; if not, there was a line to write.
  pub record ServesBook (count : ℕ) (outcomes : List Outcome) (old new : Kept S)
      (err err' : ChannelBytes) (told : Bool) : Type 0 where
    pub asked : ℕ
    pub answered : InTurn (IsAnsweredBy g) has_failed asked old new
    pub few : asked + sum_by untaken outcomes ≤ count
    pub lines : told ≡ true → Appends err err' (failure_lines outcomes)
    pub untold : told ≡ false → HasFailure outcomes

  -- this many connections are over
  abbrev pub AllServed : ℕ → Kept S → Kept S → ChannelBytes → ChannelBytes → Bool → Type 0
  AllServed count old new err err' told =
      (outcomes : List Outcome) × (length outcomes ≡ count)
      × ServesBook count outcomes old new err err' told

  -- the store failed, and at most this many connections are over
  abbrev pub CutShort : ℕ → Kept S → Kept S → ChannelBytes → ChannelBytes → Bool → Type 0
  CutShort count old new err err' told =
      (outcomes : List Outcome) × (length outcomes ≤ count)
      × ServesBook count outcomes old new err err' told × (has_failed new ≡ true)

  -- all connections are over, and the store didn't fail; or it failed
  abbrev pub HasEnded : ℕ → Kept S → Kept S → ChannelBytes → ChannelBytes → Bool → Bool → Type 0
  HasEnded count old new err err' told false =
      AllServed count old new err err' told × (has_failed new ≡ false)
  HasEnded count old new err err' told true = CutShort count old new err err' told

  -- the line of the port was written, and then all connections were served
  pub record IsServeDone (port count : ℕ) (old new : Kept S) (out out' err err' : ChannelBytes)
      (status : Status) : Type 0 where
    pub ends : status ≡ Done
    pub listens : Appends out out' (port_line port)
    pub served : AllServed count old new err err' true
    pub well : has_failed new ≡ false

  -- `serve` stopped: the line of the port couldn't be written, and no connection was served; or the
  -- line of a failed connection couldn't be written, and all are over; or the store failed
  abbrev pub IsServeStopped : ℕ → ℕ → Kept S → Kept S → ChannelBytes → ChannelBytes → ChannelBytes
      → ChannelBytes → Stop → Type 0
  IsServeStopped port count old new out out' err err' stop =
      (IsOfChannel stop × (new ≡ old) × (err' ≡ err))
      ⊎ ((stop ≡ Channel) × Appends out out' (port_line port)
      × AllServed count old new err err' false × (has_failed new ≡ false))
      ⊎ ((stop ≡ Book Store) × Appends out out' (port_line port)
      × ((told : Bool) × CutShort count old new err err' told))

-- ---- How the program ends

-- how `serve` ends, by whether the store failed and whether all lines could be written
abbrev pub status_of_serve : Bool → Bool → Result Status Stop
status_of_serve true told = Err (Book Store)
status_of_serve false true = Ok Done
status_of_serve false false = Err Channel

-- the line of the port was written, and one for each connection that failed, of this many
pub record IsServeTold (port count : ℕ) (out out' err err' : ChannelBytes) (status : Status)
    : Type 0 where
  pub outcomes : List Outcome
  pub ends : status ≡ Done
  pub each : length outcomes ≡ count
  pub listens : Appends out out' (port_line port)
  pub lines : Appends err err' (failure_lines outcomes)
