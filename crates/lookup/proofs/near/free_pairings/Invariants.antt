-- So far the pairings of so many of the ids are read.
use Rattle.std.proofs.Common.{Ok}
use Rattle.sqlite.specs.Held.{state}
use Rattle.lookup.proofs.NearPairings.{AreRead}
use Rattle.lookup.proofs.near.free_pairings.Given as goal

abbrev pub invariant-loop-id : goal.invariant-loop-id
invariant-loop-id g l = AreRead (λ found. found.items) l.known l.ids l.records l.id-index (state g.S.Store l.fn.conn) (state g.S.Store l.conn) (Ok l.found)
