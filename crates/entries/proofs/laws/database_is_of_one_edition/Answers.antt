use Rattle.entries.proofs.Editions.{one_edition}
use Rattle.entries.proofs.laws.database_is_of_one_edition.Goals as goal

pub returns : goal.returns
returns c = one_edition
