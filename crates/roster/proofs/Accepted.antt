-- What an accepted instruction has passed, and what a map has after a change.
use Rattle.std.proofs.Common.{◌≡◌, ◌⊎◌, inl, inr, refl, sym, ap, ◌∙◌, arith, ℕ, zero, suc, Bool, true, false, cond}
use Rattle.std.proofs.Common.{List, [], ◌∷◌, Contains, Option, Some, None, option_map}
use Rattle.std.specs.Ordering.{eq_by_cmp}
use Rattle.std.specs.FinMap as fin
use Rattle.std.specs.Cmp.Lexicographic.{nat_list_cmp_total}
use Rattle.std.proofs.lemmas.Bool.{true≢false}
use Rattle.values.specs.Name.{name_cmp, changed_at}
use Rattle.values.proofs.Names.{alike, itself, get-changed_at}
use Rattle.command.specs.Keys.{KeyParts, key_name}
use Rattle.command.specs.contracts.instruction.CommandPartialEq.TheImpl.{ghosts as commands}
use Rattle.command.specs.declared.exceedance.Reply.{Reply}
use Rattle.command.specs.declared.instruction.Instruction.{Instruction}
use Rattle.command.specs.declared.refusal.Refusal.{Refusal}
use Rattle.command.specs.declared.refusal.Refusal.TheVariants.{NumberUsed}
use Rattle.roster.specs.Refusals.{RefusalRow, first_of, refusals, refusal_of}
use Rattle.roster.specs.State.{State}
use Rattle.roster.specs.Steps.{judged, answered, change_of, step_of}
use Rattle.roster.specs.declared.change.Change.{Change}
use Rattle.roster.specs.declared.change.Verdict.TheVariants.{Repeat, Accept, Refuse}
use Rattle.roster.specs.declared.state.LoggedCommand.{LoggedCommand}

-- ---- An accepted instruction

-- no row applies
abbrev pub Passed : List RefusalRow → Type 0
Passed [] = Unit {0}
Passed (row ∷ rows) = (row.1 ≡ false) × Passed rows

passed : (rows : List RefusalRow) → first_of rows ≡ None → Passed rows
passed [] e = tt
passed ((refusal, true) ∷ rows) e = cc
passed ((refusal, false) ∷ rows) e = (refl, passed rows e)

pub passed_each : (rows : List RefusalRow) → Passed rows → (row : RefusalRow) → Contains rows row → row.1 ≡ false
passed_each [] p row (k, within, e) = absurd (omega arith)
passed_each (x ∷ rows) p row (zero, within, e) = ap (λ (r : RefusalRow). r.1) (sym e) ∙ p.0
passed_each (x ∷ rows) p row (suc k, within, e) = passed_each rows p.1 row (k, omega arith, e)

pub record Accepted (s : State) (key : KeyParts) (instruction : Instruction) (change : Change) : Type 0 where
  pub free : fin.get s.requests (key_name key) ≡ None
  pub passes : Passed (refusals s instruction)
  pub is : change ≡ change_of s key instruction

judged_none : (s : State) (key : KeyParts) (instruction : Instruction) (o : Option Refusal) (change : Change) (reply : Reply) →
    judged s key instruction o ≡ Accept change reply → (o ≡ None) × (change ≡ change_of s key instruction)
judged_none s key instruction None change reply e = (refl, cc)
judged_none s key instruction (Some refusal) change reply e = cc

no_repeat : (same : Bool) (kept : LoggedCommand) (change : Change) (reply : Reply) →
    cond same (Repeat kept.reply) (Refuse NumberUsed) ≡ Accept change reply → ⊥
no_repeat true kept change reply e = cc
no_repeat false kept change reply e = cc

answered_free : (s : State) (key : KeyParts) (instruction : Instruction) (o : Option LoggedCommand) (change : Change) (reply : Reply) →
    answered s key instruction o ≡ Accept change reply →
    (o ≡ None) × (refusal_of s instruction ≡ None) × (change ≡ change_of s key instruction)
answered_free s key instruction None change reply e =
    let j = judged_none s key instruction (refusal_of s instruction) change reply e in (refl, j.0, j.1)
answered_free s key instruction (Some kept) change reply e =
    absurd (no_repeat (commands.eq kept.command instruction) kept change reply e)

pub accepted : (s : State) (key : KeyParts) (instruction : Instruction) (change : Change) (reply : Reply) →
    step_of s key instruction ≡ Accept change reply → Accepted s key instruction change
unfolding step_of
accepted s key instruction change reply e =
    let a = answered_free s key instruction (fin.get s.requests (key_name key)) change reply e in
    record { free = a.0; passes = passed (refusals s instruction) a.1; is = a.2 }

-- ---- A map after a change

pub decide : (q k : List ℕ) → (q ≡ k) ⊎ (q ≡ k → ⊥)
decide q k = elim (eq_by_cmp name_cmp q k) as (λ t. eq_by_cmp name_cmp q k ≡ t → (q ≡ k) ⊎ (q ≡ k → ⊥)) [
  | true ↦ λ tied. inl (alike q k tied)
  | false ↦ λ apart. inr (λ same. true≢false (sym (itself q k same) ∙ apart))
] refl

untied : (q k : List ℕ) → (q ≡ k → ⊥) → eq_by_cmp name_cmp q k ≡ false
untied q k other = elim (eq_by_cmp name_cmp q k) as (λ t. eq_by_cmp name_cmp q k ≡ t → t ≡ false) [
  | true ↦ λ tied. absurd (other (alike q k tied))
  | false ↦ λ _. refl
] refl

module _ {X : Type 0} (m : fin.FinMap name_cmp X) (k : List ℕ) where
  -- at the name, and elsewhere
  pub insert_here : (v : X) → fin.get (fin.insert m k v) k ≡ Some v
  insert_here v = fin.get-insert nat_list_cmp_total m k v k ∙ ap (λ t. cond t (Some v) (fin.get m k)) (itself k k refl)

  pub insert_elsewhere : (v : X) (q : List ℕ) → (q ≡ k → ⊥) → fin.get (fin.insert m k v) q ≡ fin.get m q
  insert_elsewhere v q other =
      fin.get-insert nat_list_cmp_total m k v q ∙ ap (λ t. cond t (Some v) (fin.get m q)) (untied q k other)

  pub remove_here : fin.get (fin.remove m k) k ≡ None
  remove_here = fin.get-remove nat_list_cmp_total m k k ∙ ap (λ t. cond t None (fin.get m k)) (itself k k refl)

  pub remove_elsewhere : (q : List ℕ) → (q ≡ k → ⊥) → fin.get (fin.remove m k) q ≡ fin.get m q
  remove_elsewhere q other =
      fin.get-remove nat_list_cmp_total m k q ∙ ap (λ t. cond t None (fin.get m q)) (untied q k other)

  pub change_here : (f : X → X) → fin.get (changed_at m k f) k ≡ option_map f (fin.get m k)
  change_here f =
      get-changed_at m k f k ∙ ap (λ t. cond t (option_map f (fin.get m k)) (fin.get m k)) (itself k k refl)

  pub change_elsewhere : (f : X → X) (q : List ℕ) → (q ≡ k → ⊥) → fin.get (changed_at m k f) q ≡ fin.get m q
  change_elsewhere f q other =
      get-changed_at m k f q ∙ ap (λ t. cond t (option_map f (fin.get m k)) (fin.get m q)) (untied q k other)

  -- where a value comes from
  pub inserted : (v : X) (q : List ℕ) (r : X) → fin.get (fin.insert m k v) q ≡ Some r →
      ((q ≡ k) × (v ≡ r)) ⊎ ((q ≡ k → ⊥) × (fin.get m q ≡ Some r))
  inserted v q r e = elim (decide q k) [
    | inl same ↦ inl (same, (let x = sym (insert_here v) ∙ ap (fin.get (fin.insert m k v)) (sym same) ∙ e in cc))
    | inr other ↦ inr (other, sym (insert_elsewhere v q other) ∙ e)
  ]

  pub removed : (q : List ℕ) (r : X) → fin.get (fin.remove m k) q ≡ Some r → (q ≡ k → ⊥) × (fin.get m q ≡ Some r)
  removed q r e = elim (decide q k) [
    | inl same ↦ absurd (let x : None ≡ Some r = sym remove_here ∙ ap (fin.get (fin.remove m k)) (sym same) ∙ e in cc)
    | inr other ↦ (other, sym (remove_elsewhere q other) ∙ e)
  ]

  mapped : (f : X → X) (o : Option X) (r : X) → option_map f o ≡ Some r → (old : X) × (o ≡ Some old) × (f old ≡ r)
  mapped f None r e = cc
  mapped f (Some old) r e = (old, refl, cc)

  pub changed : (f : X → X) (q : List ℕ) (r : X) → fin.get (changed_at m k f) q ≡ Some r →
      ((q ≡ k) × (old : X) × (fin.get m k ≡ Some old) × (f old ≡ r)) ⊎ ((q ≡ k → ⊥) × (fin.get m q ≡ Some r))
  changed f q r e = elim (decide q k) [
    | inl same ↦
        let old = mapped f (fin.get m k) r (sym (change_here f) ∙ ap (fin.get (changed_at m k f)) (sym same) ∙ e) in
        inl (same, old.0, old.1, old.2)
    | inr other ↦ inr (other, sym (change_elsewhere f q other) ∙ e)
  ]

  -- a value that isn't at a new name stays
  pub insert_keeps : (v : X) → fin.get m k ≡ None → (q : List ℕ) (r : X) → fin.get m q ≡ Some r →
      fin.get (fin.insert m k v) q ≡ Some r
  insert_keeps v new q r e = elim (decide q k) [
    | inl same ↦ absurd (let x : None ≡ Some r = sym new ∙ ap (fin.get m) (sym same) ∙ e in cc)
    | inr other ↦ insert_elsewhere v q other ∙ e
  ]
