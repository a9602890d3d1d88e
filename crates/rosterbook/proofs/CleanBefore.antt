-- A call that leaves a book at the state after each state that it was at had a clean disk before, if it has one now: else it would leave a book at a state that no tables mean.
use Rattle.std.proofs.Common.{◌≡◌, inl, inr, sym, ◌∙◌, List, [], ◌∷◌, Some, Ok, Err}
use Rattle.std.proofs.lemmas.Bool.{cases_Bool, true≢false}
use Rattle.std.specs.FinMap as fin
use Rattle.sqlite_trees.proofs.Doubt.{clean_of, no_doubt}
use Rattle.sqlite_trees.specs.declared.store.Store.{Ghosts}
use Rattle.sqlite.specs.Held.{state}
use Rattle.command.specs.declared.instruction.Instruction.TheVariants.{CancelGround}
use Rattle.roster.proofs.Accepted.{insert_here}
use Rattle.roster.proofs.Requests.{get-after}
use Rattle.roster.specs.Folds.{Asked, Fold, left_by, next}
use Rattle.roster.specs.Sound.{Sound}
use Rattle.roster.specs.State.{State, empty}
use Rattle.roster.specs.Steps.{step_of}
use Rattle.roster.specs.declared.change.Verdict.{Verdict}
use Rattle.roster.specs.declared.change.Verdict.TheVariants.{Accept, Refuse, Repeat}
use Rattle.roster.specs.declared.state.LoggedCommand.{LoggedCommand}
use Rattle.book.specs.Kept.{IsClean, IsDurablyAt, Kept}
use Rattle.asking.specs.Requests.{ReadRequest}
use Rattle.rosterbook.specs.Asking.{left_by_request}

-- a command is kept under no key
abbrev IsOdd : State → Type 0
IsOdd s = (kept : LoggedCommand) × (fin.get s.requests [] ≡ Some kept)

unsound : (s : State) → IsOdd s → Sound s → ⊥
unsound s odd sound = let e = (sound.requests [] odd.0 odd.1).known_by in cc

-- it stays so
odd_left : (s : State) (v : Verdict) → IsOdd s → IsOdd (left_by s v)
odd_left s (Repeat reply) odd = odd
odd_left s (Accept change reply) odd = (odd.0, get-after s change [] ∙ odd.1)
odd_left s (Refuse refusal) odd = odd

odd_next : (s : State) (asked : Asked) → IsOdd s → IsOdd (next s asked)
odd_next s (key, instruction) odd = odd_left s (step_of s key instruction) odd

odd_fold : (asked : List Asked) (s : State) → IsOdd s → IsOdd (Fold s asked)
odd_fold [] s odd = odd
odd_fold (one ∷ asked) s odd = odd_fold asked (next s one) (odd_next s one odd)

odd_request : (request : ReadRequest) (s : State) → IsOdd s → IsOdd (left_by_request s request)
odd_request (Ok asked) s odd = odd_next s _ odd
odd_request (Err fault) s odd = odd

-- there is such a state
abbrev some_command : LoggedCommand
some_command = record { command = CancelGround []; reply = record { exceedances = [] } }

abbrev some_odd : State
some_odd = record (empty []) { requests = fin.insert fin.empty [] some_command }

is_odd : IsOdd some_odd
is_odd = (some_command, insert_here fin.empty [] some_command)

module _ {S : Type 0} (g : Ghosts S) (old new : Kept S) where
  clean_before : (after : State → State) → ((s : State) → IsOdd s → IsOdd (after s)) → ((s : State) → IsDurablyAt g old s → IsDurablyAt g new (after s)) → IsClean g new → IsClean g old
  clean_before after stays left clean = elim (cases_Bool (state g old.held).is_clean) [
    | inl was ↦ no_doubt _ was
    | inr lied ↦
        let never = λ (before : IsClean g old). true≢false (sym (clean_of _ before) ∙ lied) in
        let anything : IsDurablyAt g old some_odd = record {
          kept = λ before. absurd (never before);
          leaves = record { crash = λ before. absurd (never before) };
          some = λ before. absurd (never before);
        } in
        absurd (unsound (after some_odd) (stays some_odd is_odd) ((left some_odd anything).kept clean).sound)
  ]

  pub clean_before_same : ((s : State) → IsDurablyAt g old s → IsDurablyAt g new s) → IsClean g new → IsClean g old
  clean_before_same = clean_before (λ s. s) (λ s odd. odd)

  pub clean_before_request : (request : ReadRequest) → ((s : State) → IsDurablyAt g old s → IsDurablyAt g new (left_by_request s request)) → IsClean g new → IsClean g old
  clean_before_request request = clean_before (λ s. left_by_request s request) (odd_request request)

  pub clean_before_all : (asked : List Asked) → ((s : State) → IsDurablyAt g old s → IsDurablyAt g new (Fold s asked)) → IsClean g new → IsClean g old
  clean_before_all asked = clean_before (λ s. Fold s asked) (odd_fold asked)
