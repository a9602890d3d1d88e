use Rattle.command.specs.declared.instruction.Instruction.TheVariants.{Assign}
use Rattle.roster.proofs.ByNames.{early_refused}
use Rattle.roster.proofs.state.Roster.refuse_assign.Goals as goal

pub returns-in-Err : goal.returns-in-Err
returns-in-Err c = early_refused c.args.self.now (Assign c.args.id.now c.args.who.now) c.in-Err.refusal c.in-Err.ensures.refused
