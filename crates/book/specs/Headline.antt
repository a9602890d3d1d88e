-- What is asked of a book first: that it accepts just what breaks no limit, that each command acts
-- once, and what the book leaves alone.
use Rattle.std.specs.Prelude.{◌≡◌, ◌⊎◌, IsTrue, Some}
use Rattle.std.specs.FinMap as fin
use Rattle.std.specs.List.{Contains}
use Rattle.sqlite.specs.State as conn
use Rattle.sqlite.specs.State.{HasCleanDisk}
use Rattle.limits.specs.declared.section.Section.{Section}
use Rattle.command.specs.Keys.{key_name}
use Rattle.command.specs.declared.exceedance.Reply.{Reply}
use Rattle.command.specs.declared.instruction.Instruction.{Instruction}
use Rattle.command.specs.declared.refusal.Refusal.{Refusal}
use Rattle.roster.specs.Folds.{Asked}
use Rattle.roster.specs.Laws.{Gain, IsBroken, gains}
use Rattle.roster.specs.State.{State}
use Rattle.roster.specs.Steps.{step_of}
use Rattle.roster.specs.declared.change.Verdict.TheVariants.{Refuse, Repeat}
use Rattle.lookup.specs.Reads.{ChangesNothing, IsOpen}
use Rattle.writing.specs.Beside.{KeepOthers}
use Rattle.state_rows.specs.Outcomes.{CrashLeaves, CrashLeavesOnly, ShowsOnly}
use Rattle.book.specs.declared.answer.Answer.{Answer}
use Rattle.book.specs.declared.answer.Answer.TheVariants.{Accepted, Refused}

-- ---- Answers

-- a command was accepted, with some reply
abbrev pub IsAcceptance : Answer → Type 0
IsAcceptance answer = (reply : Reply) × (answer ≡ Accepted reply)

-- a command was refused, for some reason
abbrev pub IsRefusal : Answer → Type 0
IsRefusal answer = (refusal : Refusal) × (answer ≡ Refused refusal)

-- ---- Limits

-- of the duties that members gain by this instruction, none breaks any of the eight limits, in any
-- window of minutes
abbrev pub BreaksNoLimit : State → Instruction → Type 0
BreaksNoLimit s instruction =
    (gain : Gain) → Contains (gains s instruction) gain →
    (section : Section) → IsBroken gain section → ⊥

-- ---- Each command acts once

-- the key of the command holds the command, with this reply
abbrev pub IsHeld : State → Asked → Reply → Type 0
IsHeld s asked reply =
    fin.get s.requests (key_name asked.0) ≡ Some (record { command = asked.1; reply = reply })

-- in every state that a crash may leave, the key of the command holds the command, with this reply
abbrev pub StaysHeld : conn.State → Asked → Reply → Type 0
StaysHeld now asked reply = CrashLeaves now (λ s. IsHeld s asked reply)

-- each command that this state holds stays held in every state that a crash may leave
abbrev pub KeepsHeld : conn.State → State → Type 0
KeepsHeld now s = (asked : Asked) (reply : Reply) → IsHeld s asked reply → StaysHeld now asked reply

-- the machine makes no change for the command in this state: it repeats a reply, or refuses
abbrev pub MakesNoChange : State → Asked → Type 0
MakesNoChange s asked =
    ((reply : Reply) × (step_of s asked.0 asked.1 ≡ Repeat reply))
    ⊎ ((refusal : Refusal) × (step_of s asked.0 asked.1 ≡ Refuse refusal))

-- ---- What is left alone

-- nothing that a connection shows has changed, and a crash leaves nothing that it could not leave
-- before; the connection was open, and still is
pub record Untouched (old now : conn.State) : Type 0 where
  pub changes : ChangesNothing old now
  pub is_open : IsOpen now

-- A crash leaves the schema that was there, and each table that isn't the book's with the rows that
-- it had. The connection shows the same; it was open, and still is.
pub record SparesOthers (old now : conn.State) : Type 0 where
  pub was_open : HasCleanDisk now → IsTrue old.is_open
  pub leaves : CrashLeavesOnly now (KeepOthers old.now)
  pub shows : ShowsOnly now (KeepOthers old.now)
  pub schema : HasCleanDisk now → now.now.schema ≡ old.now.schema
  pub is_open : HasCleanDisk now → IsTrue now.is_open
