use Rattle.loading.proofs.ReadPairings.{Adding}
use Rattle.loading.proofs.read_pairings.add_pairings.Given as goal

abbrev pub invariant-loop-id : goal.invariant-loop-id
invariant-loop-id l = Adding l.ids l.rows.periods l.rows.segments l.fn.roster l.roster l.id-iterator
