use Rattle.std.proofs.Common.{◌≡◌}
use Rattle.std.specs.List.{fold}
use Rattle.std.specs.Vec.Iter.{into_iter_items}
use Rattle.part.specs.Sources.{with_held}
use Rattle.part.proofs.near.add_all_held.Given as goal

abbrev pub invariant-loop-free : goal.invariant-loop-free
invariant-loop-free l =
    fold (λ some free. with_held l.seat l.who free some) l.pairings (into_iter_items l.free-iterator)
    ≡ fold (λ some free. with_held l.seat l.who free some) l.fn.pairings l.fn.found.items
