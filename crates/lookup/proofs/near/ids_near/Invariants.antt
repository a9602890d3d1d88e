use Rattle.std.proofs.Common.{◌≡◌, ◌++◌, drop}
use Rattle.lookup.specs.Near.{ids_near}
use Rattle.lookup.proofs.near.ids_near.Given as goal

abbrev pub invariant-loop-row : goal.invariant-loop-row
invariant-loop-row l = l.ids.items ++ ids_near l.spans (drop l.row-index l.records) ≡ ids_near l.spans l.records
