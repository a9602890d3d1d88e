use Rattle.std.proofs.Common.{◌≡◌, ◌≤◌}
use Rattle.std.specs.Prelude.{vec_len}
use Rattle.std.specs.Vec.{vec_capacity}
use Rattle.http_exchange.proofs.BodyLemmas.{IsFront}
use Rattle.http_exchange.proofs.body.read_body.Given as goal

abbrev pub invariant-loop-count : goal.invariant-loop-count
invariant-loop-count g l =
    IsFront (g.R.Read.remaining l.fn.reader) (g.R.Read.remaining l.reader) l.bytes.items l._count
    × (l.fn.length ≤ vec_capacity l.bytes) × (vec_len l.bytes ≡ l._count)
