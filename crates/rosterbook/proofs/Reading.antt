-- What is read of a reader.
use Rattle.std.proofs.Common.{◌≡◌, ◌+◌, ℕ, List, [], ◌++◌, take, Some, None, IfSome, option_map}
use Rattle.codec.specs.Bounds.{most_bytes}
use Rattle.http_exchange.specs.Exchange.{ChannelBytes}
use Rattle.rosterbook.specs.Streams.{ReadsInput}

pub taken : (held : ChannelBytes) (limit : ℕ) (input : List ℕ) → limit ≡ most_bytes + 1 → IfSome (option_map (take limit) held) (λ bytes. input ≡ [] ++ bytes) → ReadsInput held input
taken None limit input is got = tt
taken (Some bytes) limit input is got = rw is at got
