use Rattle.limits.proofs.Far.{far_changes_nothing, far_overlaps_nothing}
use Rattle.limits.proofs.laws.far_changes_nothing.Goals as goal

pub returns-clause-judgement : goal.returns-clause-judgement
returns-clause-judgement c = far_changes_nothing

pub returns-clause-overlap : goal.returns-clause-overlap
returns-clause-overlap c = far_overlaps_nothing
