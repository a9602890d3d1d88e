use Rattle.entries.proofs.SameEditions.{database_holds_one_of_either}
use Rattle.entries.proofs.laws.database_holds_one_of_either.Goals as goal

pub returns : goal.returns
returns c = database_holds_one_of_either
