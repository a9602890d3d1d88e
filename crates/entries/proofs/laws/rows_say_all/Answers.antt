use Rattle.entries.proofs.SameStates.{rows_say_all}
use Rattle.entries.proofs.laws.rows_say_all.Goals as goal

pub returns : goal.returns
returns c = rows_say_all
