use Rattle.std.proofs.Common.{rules}
use Rattle.loading.proofs.ReadGrounds.{tells}
use Rattle.loading.proofs.read_grounds.ground_of.Goals as goal

pub returns-in-Ok : goal.returns-in-Ok
returns-in-Ok c = tells c.args.roster.now.crew c.args.row.now c.in-Ok.ground (search rules) (search rules) (search rules) (search rules) (search rules)
