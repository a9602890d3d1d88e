-- How much is read of what a client writes.
use Rattle.std.specs.Prelude.{ℕ}

-- the most bytes that a request's body may have, and that a schedule may have
abbrev pub most_bytes : ℕ
most_bytes = 1_048_576
