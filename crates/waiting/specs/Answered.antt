-- Requests that are answered in turn.
use Rattle.std.specs.Prelude.{◌≡◌, ◌≤◌, ◌+◌, ℕ, zero, suc, Bool, false, List, Result}
use Rattle.http_exchange.specs.declared.exchanges.Served.{Served}
use Rattle.http_exchange.specs.declared.sending.ChannelFault.{ChannelFault}

module _ {K : Type 0} (answers : K → K → List ℕ → List ℕ → Result Served ChannelFault → Type 0)
    (fails : K → Bool) where
  -- this many requests were answered in turn, each by what hadn't failed
  abbrev pub InTurn : ℕ → K → K → Type 0
  InTurn zero old new = new ≡ old
  InTurn (suc n) old new =
      (fails old ≡ false)
      × (next : K)
      × ((request : List ℕ) × (response : List ℕ) × (result : Result Served ChannelFault)
      × answers old next request response result)
      × InTurn n next new

  -- of the requests that might be asked before, some were answered, and so many may be asked after
  abbrev pub AnswersOver : ℕ → ℕ → K → K → Type 0
  AnswersOver before after old new = (n : ℕ) × InTurn n old new × (n + after ≤ before)
