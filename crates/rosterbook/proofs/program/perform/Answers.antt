use Rattle.rosterbook.proofs.Performing.{performed}
use Rattle.rosterbook.proofs.program.perform.Goals as goal

pub returns : goal.returns
returns g c done = performed _ c.perform_from.result.left c.args.action.now c.perform_from.result.status _ _ _ _ _ (c.perform_from.ensures.by_files done)
