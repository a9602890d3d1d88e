use Rattle.std.proofs.Common.{rules, tests}
use Rattle.entries.proofs.KeptTexts.{kept_otherwise}
use Rattle.entries.proofs.requests.command_of.Goals as goal

pub returns-else-eq : goal.returns-else-eq
returns-else-eq c = kept_otherwise c.args.text.now c.in-Ok.command (search rules) (search (rules, tests))
