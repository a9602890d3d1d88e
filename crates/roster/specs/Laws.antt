-- What holds of every book, in the words of its readers.
use Rattle.std.specs.Prelude.{◌≡◌, ℕ, Bool, true, false, nat_lt, List, [], ◌∷◌, ◌++◌, map, take}
use Rattle.std.specs.Prelude.{Some, None, ◌↔◌}
use Rattle.std.specs.FinMap as fin
use Rattle.std.specs.List.{Contains, fold}
use Rattle.duty.specs.Plans.{Plan}
use Rattle.duty.specs.Words.{each_next}
use Rattle.duty.specs.declared.duty_in_force.DutyInForce.{DutyInForce}
use Rattle.limits.specs.Meaning.{AreInOrder}
use Rattle.limits.specs.Rules.{Rule}
use Rattle.limits.specs.declared.section.Section.{Section}
use Rattle.command.specs.Keys.{KeyParts, key_name}
use Rattle.command.specs.Instructions.{IsMade}
use Rattle.command.specs.Texts.{refusal_number}
use Rattle.command.specs.declared.exceedance.Exceedance.{Exceedance}
use Rattle.command.specs.declared.exceedance.Reply.{Reply}
use Rattle.command.specs.declared.instruction.Instruction.{Instruction}
use Rattle.command.specs.declared.instruction.Instruction.TheVariants.{Assign, Swap, AddGround}
use Rattle.roster.specs.Folds.{Asked, Fold, Replies, import}
use Rattle.roster.specs.Honest.{Honest}
use Rattle.roster.specs.Places.{no_place, the_pairing, others, ground_at}
use Rattle.roster.specs.Refusals.{RefusalRow, refusals, duties_of, broken_by}
use Rattle.roster.specs.Sound.{Sound}
use Rattle.roster.specs.State.{State, empty}
use Rattle.roster.specs.Steps.{step_of, after}
use Rattle.roster.specs.declared.change.Change.{Change}
use Rattle.roster.specs.declared.change.Verdict.TheVariants.{Repeat, Accept}
use Rattle.roster.specs.declared.state.DutyId.{DutyId}
use Rattle.roster.specs.declared.state.LoggedCommand.{LoggedCommand}

-- ---- The order of refusals

-- the number of the refusal in a row of the list
abbrev pub number_of : RefusalRow → ℕ
number_of row = refusal_number row.0

-- the refusals of an instruction stand in the order of their numbers, so that the first that
-- applies has the lowest number
abbrev pub IsAscending : Type 0
IsAscending = (s : State) (instruction : Instruction) →
    each_next nat_lt (map number_of (refusals s instruction)) ≡ true

-- ---- Assignments and limits

-- the duties of a member who gains some: the other duties, which the member keeps, and the new ones
pub record Gain : Type 0 where
  pub others : List DutyInForce
  pub new : List DutyInForce

-- for each member who gains duties by an instruction, the member's other duties and the new ones
abbrev pub gains : State → Instruction → List Gain
gains s (Assign id who) = record { others = others s who no_place; new = duties_of s who id } ∷ []
gains s (Swap w) =
    record {
      others = others s w.crew (the_pairing w.pairing);
      new = duties_of s w.crew w.other_pairing;
    }
    ∷ record {
      others = others s w.other_crew (the_pairing w.other_pairing);
      new = duties_of s w.other_crew w.pairing;
    }
    ∷ []
gains s (AddGround g) =
    record { others = others s g.crew no_place; new = (ground_at (g.id, g)).1 ∷ [] } ∷ []
gains s instruction = []

-- the new duties break a section's rule beside the others, in some window of minutes
abbrev pub IsBroken : Gain → Section → Type 0
IsBroken gain section = Rule section (gain.others ++ gain.new) gain.new

-- the key is free, and no refusal of the instruction applies, save perhaps the refusal for limits
-- (12)
pub record PassesChecks (s : State) (key : KeyParts) (instruction : Instruction) : Type 0 where
  pub free : fin.get s.requests (key_name key) ≡ None
  pub passes : (row : RefusalRow) → Contains (refusals s instruction) row →
      (number_of row ≡ 12 → ⊥) → row.1 ≡ false

-- the instruction gives members duties: it is an assign, a swap, or a new ground duty
abbrev pub is_assignment : Instruction → Bool
is_assignment (Assign _ _) = true
is_assignment (Swap _) = true
is_assignment (AddGround _) = true
is_assignment instruction = false

-- the book accepts the instruction under the key
abbrev pub IsAccepted : State → KeyParts → Instruction → Type 0
IsAccepted s key instruction =
    (change : Change) × (reply : Reply) × (step_of s key instruction ≡ Accept change reply)

-- an assignment that passes the book's own checks is accepted if and only if it breaks no limit in
-- any window of minutes
abbrev pub AcceptedWithinLimits : Type 0
AcceptedWithinLimits = (s : State) (key : KeyParts) (instruction : Instruction) →
    is_assignment instruction ≡ true → PassesChecks s key instruction →
    IsAccepted s key instruction
    ↔ ((gain : Gain) → Contains (gains s instruction) gain →
    (section : Section) → IsBroken gain section → ⊥)

-- ---- The limits that are listed

-- an exceedance is listed for a member if and only if it is the member's and the new duties break
-- the rule of its section
abbrev pub ListsBroken : Type 0
ListsBroken = (who : List ℕ) (gain : Gain) (e : Exceedance) →
    Contains (broken_by who gain.others gain.new) e ↔ ((e.crew ≡ who) × IsBroken gain e.section)

-- the exceedances of a list stand in the order of their sections, each section at most once
abbrev pub ListsInOrder : Type 0
ListsInOrder = (who : List ℕ) (gain : Gain) →
    AreInOrder (map (λ e. e.section) (broken_by who gain.others gain.new))

-- ---- Sound and honest books

-- an accepted command leaves a sound book sound
abbrev pub KeepsSound : Type 0
KeepsSound =
    (s : State) (key : KeyParts) (instruction : Instruction) (change : Change) (reply : Reply) →
    IsMade instruction → Sound s →
    step_of s key instruction ≡ Accept change reply → Sound (after s change)

-- an accepted command leaves an honest book honest
abbrev pub KeepsHonest : Type 0
KeepsHonest =
    (s : State) (key : KeyParts) (instruction : Instruction) (change : Change) (reply : Reply) →
    IsMade instruction → Sound s → Honest s →
    step_of s key instruction ≡ Accept change reply → Honest (after s change)

-- each command of the list is one that `Command::new` makes
abbrev pub AreMade : List Asked → Type 0
AreMade asked = (a : Asked) → Contains asked a → IsMade a.1

-- a list of commands leaves a sound book sound
abbrev pub StaysSound : Type 0
StaysSound = (s : State) (asked : List Asked) → AreMade asked → Sound s → Sound (Fold s asked)

-- a list of commands leaves an honest book honest
abbrev pub StaysHonest : Type 0
StaysHonest = (s : State) (asked : List Asked) → AreMade asked → Sound s → Honest s →
    Honest (Fold s asked)

-- a book of nothing but the base HOME is sound and honest
abbrev pub StartsSound : Type 0
StartsSound = (zone : List ℕ) → Sound (empty zone) × Honest (empty zone)

-- a book that commands made of a book of nothing but the base HOME is sound and honest
abbrev pub MadeByCommands : Type 0
MadeByCommands = (zone : List ℕ) (asked : List Asked) → AreMade asked →
    Sound (Fold (empty zone) asked) × Honest (Fold (empty zone) asked)

-- an exceedance that was recorded stays for good
abbrev pub KeepsRecords : Type 0
KeepsRecords = (s : State) (asked : List Asked) → AreMade asked → Sound s →
    (name : List ℕ) (named : DutyId) → fin.get s.exceedances name ≡ Some named →
    fin.get (Fold s asked).exceedances name ≡ Some named

-- ---- Requests act once

-- a key that is held stays held, with its command and reply, whatever is asked
abbrev pub KeepsRequests : Type 0
KeepsRequests = (s : State) (key : KeyParts) (request : LoggedCommand) (asked : List Asked) →
    fin.get s.requests (key_name key) ≡ Some request →
    fin.get (Fold s asked).requests (key_name key) ≡ Some request

-- a command is answered with a kept reply, and changes nothing, if and only if its key holds that
-- command with that reply
abbrev pub Repeats : Type 0
Repeats = (s : State) (key : KeyParts) (instruction : Instruction) (reply : Reply) →
    (step_of s key instruction ≡ Repeat reply)
    ↔ (fin.get s.requests (key_name key) ≡ Some (record { command = instruction; reply = reply }))

-- An import was stopped after some of its commands and begun again, any number of times. When it is
-- handed in once more, it ends as if it had never been stopped.
abbrev pub Resumes : Type 0
Resumes = (s : State) (number : ℕ) (plans : List Plan) (stops : List ℕ) →
    let commands = import number plans in
    let stopped = fold (λ t stop. Fold t (take stop commands)) s stops in
    (Fold stopped commands ≡ Fold s commands) × (Replies stopped commands ≡ Replies s commands)
