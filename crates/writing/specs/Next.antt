-- Which changes are written: those that a step accepted.
use Rattle.std.specs.Prelude.{◌≡◌}
use Rattle.command.specs.Keys.{KeyParts}
use Rattle.command.specs.declared.exceedance.Reply.{Reply}
use Rattle.command.specs.declared.instruction.Instruction.{Instruction}
use Rattle.roster.specs.Sound.{Sound}
use Rattle.roster.specs.State.{State}
use Rattle.roster.specs.Steps.{step_of}
use Rattle.roster.specs.declared.change.Change.{Change}
use Rattle.roster.specs.declared.change.Verdict.TheVariants.{Accept}

-- the change is what the step of some command under some key accepted in a sound state
pub record IsAcceptedChange (s : State) (change : Change) : Type 0 where
  pub sound : Sound s
  pub key : KeyParts
  pub instruction : Instruction
  pub reply : Reply
  pub accepted : step_of s key instruction ≡ Accept change reply
