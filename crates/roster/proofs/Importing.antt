-- What the commands of an import are answered, and what they leave.
use Rattle.std.proofs.Common.{◌≡◌, ℕ, ◌+◌, ◌<◌, Bool, true, false, cond, List, [], ◌∷◌, map, Some, None, is_some, refl, sym, ap, subst, ◌∙◌, arith}
use Rattle.std.specs.FinMap as fin
use Rattle.std.specs.List.{enumerate_from}
use Rattle.std.specs.Ordering.{eq_by_cmp}
use Rattle.std.specs.Option.{option_map}
use Rattle.std.specs.Cmp.Lexicographic.{nat_list_cmp_total}
use Rattle.values.specs.Name.{name_cmp}
use Rattle.values.proofs.Names.{alike}
use Rattle.duty.specs.Plans.{Plan}
use Rattle.command.specs.Keys.{KeyParts, key_name}
use Rattle.command.specs.contracts.instruction.CommandPartialEq.TheImpl.{ghosts as commands}
use Rattle.command.specs.declared.instruction.Instruction.TheVariants.{AddPairing}
use Rattle.command.specs.declared.refusal.Refusal.{Refusal}
use Rattle.command.specs.declared.refusal.Refusal.TheVariants.{PairingExists}
use Rattle.roster.specs.Folds.{Asked, left_by, next, Fold}
use Rattle.roster.specs.Pairings.{unheld}
use Rattle.roster.specs.Refusals.{is_pairing, refusals}
use Rattle.roster.specs.State.{State}
use Rattle.roster.specs.Steps.{step_of, judged, change_of, after, recorded_by}
use Rattle.roster.specs.declared.change.Verdict.{Verdict}
use Rattle.roster.specs.declared.change.Verdict.TheVariants.{Accept, Refuse}
use Rattle.roster.specs.declared.state.PairingEntry.{PairingEntry}
use Rattle.roster.proofs.Requests.{under_held, under_free, held_leaves, get-after}

-- ---- One command of an import

abbrev pub key_of : ℕ → ℕ → KeyParts
key_of number part = record { number = number; part = part }

-- the commands from part n on
abbrev pub parts_from : ℕ → ℕ → List Plan → List Asked
parts_from number n plans = map (λ p. (key_of number p.0, AddPairing p.1)) (enumerate_from n plans)

abbrev pub added : State → KeyParts → Plan → State
added s key plan = after s (change_of s key (AddPairing plan))

abbrev pub accepted : State → KeyParts → Plan → Verdict
accepted s key plan =
    Accept (change_of s key (AddPairing plan)) (record { exceedances = recorded_by s (AddPairing plan) })

-- under a free key: refused where the pairing's id is there, else accepted
of_new : (s : State) (key : KeyParts) (plan : Plan) → fin.get s.requests (key_name key) ≡ None →
    step_of s key (AddPairing plan) ≡ cond (is_pairing s plan.id) (Refuse PairingExists) (accepted s key plan)
unfolding refusals
of_new s key plan free =
    under_free s key (AddPairing plan) free
    ∙ elim (is_pairing s plan.id) as (λ b. judged s key (AddPairing plan)
    (option_map (λ (row : Refusal × Bool). row.0) (cond b (Some (PairingExists, b)) None)) ≡
    cond b (Refuse PairingExists) (accepted s key plan)) [
      | true ↦ refl
      | false ↦ refl
    ]

pub refused_new : (s : State) (key : KeyParts) (plan : Plan) → fin.get s.requests (key_name key) ≡ None →
    is_pairing s plan.id ≡ true → step_of s key (AddPairing plan) ≡ Refuse PairingExists
refused_new s key plan free there =
    of_new s key plan free ∙ ap (λ b. cond b (Refuse PairingExists) (accepted s key plan)) there

pub accepted_new : (s : State) (key : KeyParts) (plan : Plan) → fin.get s.requests (key_name key) ≡ None →
    is_pairing s plan.id ≡ false → step_of s key (AddPairing plan) ≡ accepted s key plan
accepted_new s key plan free absent =
    of_new s key plan free ∙ ap (λ b. cond b (Refuse PairingExists) (accepted s key plan)) absent

-- it adds its own pairing, and takes none away
added_pairings : (s : State) (key : KeyParts) (plan : Plan) →
    (added s key plan).pairings ≡ fin.insert s.pairings plan.id (unheld plan)
unfolding after
added_pairings s key plan = refl

still_there : (s : State) (key : KeyParts) (plan : Plan) (id : List ℕ) → is_pairing s id ≡ true →
    is_pairing (added s key plan) id ≡ true
still_there s key plan id there =
    ap (λ (m : fin.FinMap name_cmp PairingEntry). is_some (fin.get m id)) (added_pairings s key plan)
    ∙ ap is_some (fin.get-insert nat_list_cmp_total s.pairings plan.id (unheld plan) id)
    ∙ elim (eq_by_cmp name_cmp id plan.id) as
    (λ b. is_some (cond b (Some (unheld plan)) (fin.get s.pairings id)) ≡ true) [
      | true ↦ refl
      | false ↦ there
    ]

-- and takes no key but its own
still_free : (s : State) (key : KeyParts) (plan : Plan) (name : List ℕ) → (name ≡ key_name key → ⊥) →
    fin.get s.requests name ≡ None → fin.get (added s key plan).requests name ≡ None
still_free s key plan name other free =
    let change = change_of s key (AddPairing plan) in
    get-after s change name
    ∙ elim (eq_by_cmp name_cmp name (key_name key)) as (λ b. eq_by_cmp name_cmp name (key_name key) ≡ b →
    cond b (Some (record { command = change.command; reply = change.reply })) (fin.get s.requests name) ≡ None) [
      | true ↦ λ tied. absurd (other (alike _ _ tied))
      | false ↦ λ _. free
    ] refl

-- so what holds of a state, and of it after its pairing is added, holds of the next
of_next : (P : State → Type 0) (s : State) (key : KeyParts) (plan : Plan) → P s → P (added s key plan) →
    P (next s (key, AddPairing plan))
of_next P s key plan before then =
    elim (fin.get s.requests (key_name key)) as (λ o. fin.get s.requests (key_name key) ≡ o →
    P (left_by s (step_of s key (AddPairing plan)))) [
      | Some kept ↦ λ held. subst (λ v. P (left_by s v)) (sym (under_held s key (AddPairing plan) kept held))
          (subst P (sym (held_leaves s (commands.eq kept.command (AddPairing plan)) kept)) before)
      | None ↦ λ free. subst (λ v. P (left_by s v)) (sym (of_new s key plan free))
          (elim (is_pairing s plan.id) as (λ b. P (left_by s (cond b (Refuse PairingExists) (accepted s key plan)))) [
            | true ↦ before
            | false ↦ then
          ])
    ] refl

-- ---- The later commands of an import

-- leave the pairings there
pub keep_pairing : (number n : ℕ) (plans : List Plan) (s : State) (id : List ℕ) → is_pairing s id ≡ true →
    is_pairing (Fold s (parts_from number n plans)) id ≡ true
keep_pairing number n [] s id there = there
keep_pairing number n (plan ∷ plans) s id there =
    keep_pairing number (n + 1) plans (next s (key_of number n, AddPairing plan)) id
    (of_next (λ t. is_pairing t id ≡ true) s (key_of number n) plan there
    (still_there s (key_of number n) plan id there))

-- and the keys of earlier parts free
pub keep_free : (number part n : ℕ) → part < n → (plans : List Plan) (s : State) →
    fin.get s.requests (key_name (key_of number part)) ≡ None →
    fin.get (Fold s (parts_from number n plans)).requests (key_name (key_of number part)) ≡ None
keep_free number part n below [] s free = free
keep_free number part n below (plan ∷ plans) s free =
    let name = key_name (key_of number part) in
    let other : name ≡ key_name (key_of number n) → ⊥ = λ e. let same : part ≡ n = cc in omega arith in
    keep_free number part (n + 1) (omega arith) plans (next s (key_of number n, AddPairing plan))
    (of_next (λ t. fin.get t.requests name ≡ None) s (key_of number n) plan free
    (still_free s (key_of number n) plan name other free))
