use Rattle.std.proofs.Common.{◌≡◌, take}
use Rattle.lookup.specs.Ids.{pairings_in}
use Rattle.lookup.proofs.ids.pairings_in.Given as goal

abbrev pub invariant-loop-row : goal.invariant-loop-row
invariant-loop-row l = l.ids.items ≡ pairings_in (take l.row-index l.records)
