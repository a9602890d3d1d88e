-- Lists of commands: the states that they leave and their answers; imports; and books that are
-- stopped and opened again.
use Rattle.std.specs.Prelude.{◌≡◌, ℕ, ◌+◌, ◌≤◌, List, [], ◌∷◌, map, length, take, Result, Ok, Err}
use Rattle.std.specs.Prelude.{◌⊎◌}
use Rattle.std.specs.List.{fold, enumerate_from}
use Rattle.duty.specs.Plans.{Plan}
use Rattle.command.specs.Keys.{KeyParts}
use Rattle.command.specs.declared.exceedance.Reply.{Reply}
use Rattle.command.specs.declared.instruction.Instruction.{Instruction}
use Rattle.command.specs.declared.instruction.Instruction.TheVariants.{AddPairing}
use Rattle.command.specs.declared.refusal.Refusal.{Refusal}
use Rattle.roster.specs.State.{State}
use Rattle.roster.specs.Steps.{step_of, after}
use Rattle.roster.specs.declared.change.Verdict.{Verdict}
use Rattle.roster.specs.declared.change.Verdict.TheVariants.{Repeat, Accept, Refuse}

-- the answer to a command: its reply, or why it is refused
abbrev pub ReplyOrRefusal : Type 0
ReplyOrRefusal = Result Reply Refusal

-- a command under its key
abbrev pub Asked : Type 0
Asked = KeyParts × Instruction

-- the answer that a verdict gives: a repeat gives the kept reply
abbrev pub answer_of : Verdict → ReplyOrRefusal
answer_of (Repeat reply) = Ok reply
answer_of (Accept change reply) = Ok reply
answer_of (Refuse refusal) = Err refusal

-- the state that a verdict leaves: only an accepted command changes the state
abbrev pub left_by : State → Verdict → State
left_by s (Repeat reply) = s
left_by s (Accept change reply) = after s change
left_by s (Refuse refusal) = s

-- the state that one command leaves, be it accepted or not
abbrev pub next : State → Asked → State
next s (key, instruction) = left_by s (step_of s key instruction)

-- the state that the commands of a list leave, asked one after the other
abbrev pub Fold : State → List Asked → State
Fold s asked = fold next s asked

-- the answers to the commands of a list, asked one after the other
abbrev pub Replies : State → List Asked → List ReplyOrRefusal
Replies s [] = []
Replies s ((key, instruction) ∷ asked) =
    answer_of (step_of s key instruction) ∷ Replies (next s (key, instruction)) asked

-- the commands of an import: pairing i, counted from 1, is added under part i of the number
abbrev pub import : ℕ → List Plan → List Asked
import number plans =
    map (λ p. (record { number = number; part = p.0 }, AddPairing p.1)) (enumerate_from 1 plans)

-- a session of a book: the commands that were asked, how many of them were answered, and how many
-- it left done. All were answered, save perhaps the last, and all that were answered are done: the
-- last alone, unanswered, may be done or not. A command whose answer reports that the program is
-- out of memory changed nothing, and is no part of a session.
pub record Session : Type 0 where
  pub asked : List Asked
  pub answered : ℕ
  pub done : ℕ
  pub last_in_doubt : (answered ≡ length asked) ⊎ (answered + 1 ≡ length asked)
  pub answered_done : answered ≤ done
  pub asked_first : done ≤ length asked

-- what is left of a state after sessions that were stopped, each opened on what the session before
-- it left
abbrev pub Stopped : State → List Session → State
Stopped s sessions = fold (λ s session. Fold s (take session.done session.asked)) s sessions
