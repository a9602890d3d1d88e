use Rattle.std.proofs.Common.{◌≡◌}
use Rattle.std.specs.List.{fold}
use Rattle.std.specs.Vec.Iter.{into_iter_items}
use Rattle.roster.specs.Steps.{reseated}
use Rattle.roster.proofs.apply.reseat.Given as goal

abbrev pub invariant-loop-change : goal.invariant-loop-change
invariant-loop-change l =
    fold reseated l.pairings (into_iter_items l.change-iterator) ≡ fold reseated l.fn.pairings l.fn.seats.items
