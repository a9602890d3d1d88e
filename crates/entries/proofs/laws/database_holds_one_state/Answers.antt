use Rattle.entries.proofs.SameStates.{database_holds_one_state}
use Rattle.entries.proofs.laws.database_holds_one_state.Goals as goal

pub returns : goal.returns
returns c = database_holds_one_state
