-- What a reader has where a body of this many bytes is looked for.
use Rattle.std.specs.Prelude.{◌≡◌, ◌≤◌, ◌<◌, ⊤, ℕ, List, length, take, drop, Option, Some, None}
use Rattle.http_exchange.specs.declared.body.BodyRead.{BodyRead}
use Rattle.http_exchange.specs.declared.body.BodyRead.TheVariants.{Whole, Cut}

-- If the input is known, the body is its first `n` bytes, and what follows the body is left.
abbrev pub IsWholeAt : ℕ → Option (List ℕ) → Option (List ℕ) → List ℕ → Type 0
IsWholeAt n None left body = ⊤
IsWholeAt n (Some input) left body =
    (n ≤ length input) × (body ≡ take n input) × (left ≡ Some (drop n input))

-- If the input is known, it has fewer than `n` bytes, and none is left.
abbrev pub IsCutAt : ℕ → Option (List ℕ) → Option (List ℕ) → Type 0
IsCutAt n None left = ⊤
IsCutAt n (Some input) left = (length input < n) × (left ≡ Some (drop n input))

-- A body of `n` bytes was read whole, or the input ends before the body does.
abbrev pub IsBodyRead : ℕ → Option (List ℕ) → Option (List ℕ) → BodyRead → Type 0
IsBodyRead n had left (Whole body) = IsWholeAt n had left body.items
IsBodyRead n had left Cut = IsCutAt n had left
