use Rattle.std.proofs.Common.{◌≡◌, take}
use Rattle.lookup.specs.Entries.{ground_ids_in}
use Rattle.lookup.proofs.ground.ids_in.Given as goal

abbrev pub invariant-loop-row : goal.invariant-loop-row
invariant-loop-row l = l.ids.items ≡ ground_ids_in (take l.row-index l.records)
