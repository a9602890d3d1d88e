-- How the bytes of a response go.
use Rattle.std.specs.Prelude.{◌≡◌, ◌⊎◌, ◌+◌, ⊤, ℕ, false, List, [], ◌∷◌, ◌++◌, length, take, drop}
use Rattle.std.specs.Prelude.{bytes_eq}
use Rattle.std.specs.Io.KnownBytes.{Appends}
use Rattle.http_message.specs.Response.{continue_bytes}
use Rattle.http_exchange.specs.Exchange.{ChannelBytes}
use Rattle.waiting.specs.declared.outgoing.Handed.{Handed}
use Rattle.waiting.specs.declared.outgoing.Handed.TheVariants.{All}

-- The client was told to go on, unless something was said before.
abbrev pub IsToldToGoOn : List ℕ → List ℕ → Type 0
IsToldToGoOn [] now = now ≡ continue_bytes
IsToldToGoOn (byte ∷ bytes) now = now ≡ byte ∷ bytes

-- what is said stays, or the client is told to go on
abbrev pub IsSaid : List ℕ → List ℕ → Type 0
IsSaid said now = (now ≡ said) ⊎ IsToldToGoOn said now

-- A response is set: as it is if it begins with what was said, else it is added to that.
abbrev pub IsSet : List ℕ → List ℕ → List ℕ → Type 0
IsSet said response now =
    ((now ≡ response) × ((rest : List ℕ) × (response ≡ said ++ rest)))
    ⊎ ((now ≡ said ++ response) × (bytes_eq said (take (length said) response) ≡ false))

-- Of these bytes the first had gone, and the next were handed to a writer.
pub record HandsOut (bytes : List ℕ) (gone now : ℕ) (out out' : ChannelBytes) : Type 0 where
  pub handed : List ℕ
  pub written : Appends out out' handed
  pub next : drop gone bytes ≡ handed ++ drop now bytes
  pub count : now ≡ gone + length handed

-- nothing is left to be handed out
abbrev pub IsAllGone : List ℕ → ℕ → Handed → Type 0
IsAllGone bytes gone All = gone ≡ length bytes
IsAllGone bytes gone handed = ⊤
