use Rattle.std.proofs.Common.{refl}
use Rattle.rosterbook.proofs.Reading.{taken}
use Rattle.rosterbook.proofs.lines.read_input.Goals as goal

pub returns : goal.returns
returns g c =
    let bytes = rw (c.new-bytes.ensures.items, c.take.ensures.limit, c.take.ensures.inner) at c.in_ok-read_to_end.ensures.bytes in
    taken _ _ _ refl bytes
