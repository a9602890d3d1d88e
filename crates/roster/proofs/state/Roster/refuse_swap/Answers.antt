use Rattle.command.specs.declared.instruction.Instruction.TheVariants.{Swap}
use Rattle.roster.proofs.ByNames.{early_refused}
use Rattle.roster.proofs.state.Roster.refuse_swap.Goals as goal

pub returns-in-Err : goal.returns-in-Err
returns-in-Err c = early_refused c.args.self.now (Swap c.args.swap.now) c.in-Err.refusal c.in-Err.ensures.refused
