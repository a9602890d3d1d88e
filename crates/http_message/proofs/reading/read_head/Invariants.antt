use Rattle.std.proofs.Common.{◌≡◌, ◌≤◌, true, false}
use Rattle.std.specs.List.{list_all}
use Rattle.std.specs.Prelude.{vec_len}
use Rattle.std.specs.Vec.{vec_capacity}
use Rattle.http_message.proofs.HeadLemmas.{IsFront}
use Rattle.http_message.specs.Reading.{is_line_end}
use Rattle.http_message.proofs.reading.read_head.Given as goal

abbrev pub invariant-loop-count : goal.invariant-loop-count
invariant-loop-count g l =
    IsFront (g.R.Read.remaining l.fn.reader) (g.R.Read.remaining l.reader) l.bytes.items l._count
    × (l.begun ≡ false → list_all is_line_end l.bytes.items ≡ true)
    × (16_384 ≤ vec_capacity l.bytes) × (vec_len l.bytes ≡ l._count)
