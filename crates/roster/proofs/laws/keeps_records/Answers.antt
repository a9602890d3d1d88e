use Rattle.roster.proofs.KeepsRecords.{keeps_records}
use Rattle.roster.proofs.laws.keeps_records.Goals as goal

pub returns : goal.returns
returns c = keeps_records
