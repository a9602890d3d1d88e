-- What the program reads and writes, where it is known.
use Rattle.std.specs.Prelude.{◌≡◌, ◌⊎◌, ⊤, ℕ, List, [], ◌∷◌, ◌++◌, ◌+◌, take, codes, Some}
use Rattle.std.specs.Prelude.{None}
use Rattle.std.specs.Io.KnownBytes.{Appends}
use Rattle.codec.specs.Bounds.{most_bytes}
use Rattle.http_exchange.specs.Exchange.{ChannelBytes}
use Rattle.rosterbook.specs.declared.status.Status.{Status}
use Rattle.rosterbook.specs.declared.stop.Stop.{Stop}
use Rattle.rosterbook.specs.declared.stop.Stop.TheVariants.{Memory, Channel}

-- what is read of the bytes that a reader has: at most one byte more than a request or a schedule
-- may have
abbrev pub ReadsInput : ChannelBytes → List ℕ → Type 0
ReadsInput None input = ⊤
ReadsInput (Some bytes) input = input ≡ take (most_bytes + 1) bytes

-- the end of a line
abbrev pub line_end : List ℕ
line_end = 10 ∷ []

-- the line of a refusal
abbrev pub refused_line : List ℕ → List ℕ
refused_line fault = codes "refused " ++ fault ++ line_end

-- a line was written, and the program ends with this status
abbrev pub Prints : Status × List ℕ → Status → ChannelBytes → ChannelBytes → Type 0
Prints told status out out' = (status ≡ told.0) × Appends out out' (told.1 ++ line_end)

-- the program stopped because a reader or a writer failed, or the program itself found no memory
abbrev pub IsOfChannel : Stop → Type 0
IsOfChannel stop = (stop ≡ Memory) ⊎ (stop ≡ Channel)
