-- What a part that was gathered says.
use Rattle.std.proofs.Common.{◌≡◌, ◌⊎◌, ◌↔◌, inl, inr, sym, ap, subst, ◌∙◌, ℕ, List, Result, Ok, Err, IfErr, IfOk}
use Rattle.sqlite.specs.State.{State, HasCleanDisk}
use Rattle.request.specs.declared.subject.Subject.{Subject}
use Rattle.command.specs.Keys.{KeyParts}
use Rattle.command.specs.declared.instruction.Instruction.{Instruction}
use Rattle.roster.specs.Sound.{Sound}
use Rattle.roster.specs.State as roster
use Rattle.roster.specs.Steps.{step_of}
use Rattle.state_rows.specs.declared.fault.StoreFault.{StoreFault}
use Rattle.state_rows.specs.declared.fault.StoreFault.TheVariants.{Memory}
use Rattle.part.specs.Part.{Part}
use Rattle.part.specs.Shown.{Absence, IsShown, shown_part}
use Rattle.part.proofs.Answers.{answers_as_whole}
use Rattle.part.proofs.ShownAlike.{part_is_shown_alike}
use Rattle.part.proofs.SoundParts.{part_is_sound}
use Rattle.lookup.proofs.Causes.{memory_fault}
use Rattle.lookup.specs.Reads.{IsReadFault, Shows}

pub on_ok : {A E : Type 0} {P Q : A → Type 0} (result : Result A E) → IfOk result P → ((a : A) → P a → Q a) → IfOk result Q
on_ok (Ok a) p f = f a p
on_ok (Err e) p f = tt

module _ (old new : State) (key : KeyParts) (instruction : Instruction) (result : Result roster.State StoreFault)
    (told : HasCleanDisk new → (s : roster.State) → Shows old s → IfOk result (λ a. Shows new s × (a ≡ Part s key instruction)))
    (s : roster.State) (shows : Shows old s) (clean : HasCleanDisk new) where
  pub is_part : IfOk result (λ a. a ≡ Part s key instruction)
  is_part = on_ok result (told clean s shows) (λ a it. it.1)

  pub is_sound : IfOk result Sound
  is_sound = on_ok result (told clean s shows) (λ a it. subst Sound (sym it.1) (part_is_sound s key instruction shows.sound))

  pub answers : IfOk result (λ a. step_of a key instruction ≡ step_of s key instruction)
  answers = on_ok result (told clean s shows) (λ a it. ap (λ x. step_of x key instruction) it.1 ∙ answers_as_whole s key instruction)

module _ {A : Type 0} (Is : roster.State → A → Type 0) (old new : State) (result : Result A StoreFault)
    (told : HasCleanDisk new → (s : roster.State) → Shows old s → IfOk result (λ a. Shows new s × Is s a))
    (s : roster.State) (shows : Shows old s) (clean : HasCleanDisk new) where
  pub is_told : IfOk result (Is s)
  is_told = on_ok result (told clean s shows) (λ a it. it.1)

-- of the part that is gathered for a text the same is shown as of the state
pub shown_alike : {E : Type 0} (what : Subject (List ℕ) (List ℕ)) (s : roster.State) (result : Result roster.State E) → IfOk result (λ r. r ≡ shown_part s what)
    → IfOk result (λ r. (answer : Result (List ℕ) Absence) → IsShown r what answer ↔ IsShown s what answer)
shown_alike what s result is =
    on_ok result is (λ r same. subst (λ (x : roster.State). (answer : Result (List ℕ) Absence) → IsShown x what answer ↔ IsShown s what answer) (sym same) (part_is_shown_alike s what))

-- a fault of a gathering is one of a read, or out of memory
pub read_fault : {A : Type 0} (M : Type 0) (old new : State) (result : Result A StoreFault) → IfErr result (λ fault. IsReadFault old new fault ⊎ ((none : M) × (fault ≡ Memory))) → IfErr result (IsReadFault old new)
read_fault M old new (Ok a) fault = tt
read_fault M old new (Err fault) (inl failed) = failed
read_fault M old new (Err fault) (inr none) = memory_fault old new fault none.1
