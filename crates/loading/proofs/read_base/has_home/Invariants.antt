use Rattle.loading.proofs.ReadBase.{AreOthers}
use Rattle.loading.proofs.read_base.has_home.Given as goal

abbrev pub invariant-loop-row : goal.invariant-loop-row
invariant-loop-row l = AreOthers l.records l.row-index l.zone
