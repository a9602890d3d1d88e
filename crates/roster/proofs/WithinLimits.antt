-- An assignment that passes the book's own checks is accepted if and only if it breaks no limit.
use Rattle.std.proofs.Common.{◌≡◌, ℕ, Bool, true, false, cond, List, [], ◌∷◌, ◌++◌, map, Option, Some, None, ◌↔◌, inl, inr, refl, sym, ap, subst, ◌∙◌, arith, eqb, length, lt-ltb}
use Rattle.std.specs.FinMap as fin
use Rattle.std.specs.List.{Contains, filter, find}
use Rattle.std.specs.Option.{option_map}
use Rattle.limits.specs.Judgement.{Broken}
use Rattle.limits.specs.Laws.Broken.{broken_is}
use Rattle.limits.specs.declared.section.Section.{Section}
use Rattle.command.specs.Keys.{KeyParts, key_name}
use Rattle.command.specs.declared.exceedance.Exceedance.{Exceedance}
use Rattle.command.specs.declared.exceedance.Reply.{Reply}
use Rattle.command.specs.declared.instruction.Instruction.{Instruction}
use Rattle.command.specs.declared.instruction.Instruction.TheVariants.{AddBase, AddCrew, AddPairing, CancelPairing, Assign, Release, Swap, AddGround, CancelGround, Actual, RecordOutside}
use Rattle.command.specs.declared.refusal.Refusal.{Refusal}
use Rattle.command.specs.declared.refusal.Refusal.TheVariants.{Limits}
use Rattle.roster.specs.Laws.{AcceptedWithinLimits, Gain, IsAccepted, IsBroken, PassesChecks, gains, is_assignment, number_of}
use Rattle.roster.specs.Places.{no_place, the_pairing, others, ground_at}
use Rattle.roster.specs.Refusals.{RefusalRow, broken_by, duties_of, first_of, over_limits, refusal_of, refusals}
use Rattle.roster.specs.State.{State}
use Rattle.roster.specs.Steps.{judged, change_of, recorded_by}
use Rattle.roster.specs.declared.change.Change.{Change}
use Rattle.roster.specs.declared.change.Verdict.TheVariants.{Accept}
use Rattle.roster.proofs.Lists.{first_of_all, later, first_or_later, no_member, has_none}
use Rattle.roster.proofs.Requests.{under_free}

through : {A B C : Type 0} → (A ↔ B) → (B ↔ C) → A ↔ C
through p q = (λ a. q.0 (p.0 a), λ c. p.1 (q.1 c))

-- ---- Lists

module _ {X : Type 0} where
  both_empty : (xs ys : List X) → (xs ++ ys ≡ []) ↔ ((xs ≡ []) × (ys ≡ []))
  both_empty [] ys = (λ e. (refl, e), λ e. e.1)
  both_empty (x ∷ xs) ys = (λ e. absurd (cc), λ e. absurd (let f = e.0 in cc))

  -- what holds of each element, holds of the first and of each later one
  each_is : (P : X → Type 0) (x : X) (xs : List X) →
      ((y : X) → Contains (x ∷ xs) y → P y) ↔ (P x × ((y : X) → Contains xs y → P y))
  each_is P x xs = (
    λ each. (each x (first_of_all x xs), λ y c. each y (later x xs y c)),
    λ parts y c. elim (first_or_later x xs y c) [ inl e ↦ subst P e parts.0 | inr more ↦ parts.1 y more ],
  )

  one_is : (P : X → Type 0) (x : X) → P x ↔ ((y : X) → Contains (x ∷ []) y → P y)
  one_is P x = (
    λ it. (each_is P x []).1 (it, λ y c. absurd (no_member [] y refl c)),
    λ each. each x (first_of_all x []),
  )

  two_are : (P : X → Type 0) (x y : X) → (P x × P y) ↔ ((z : X) → Contains (x ∷ y ∷ []) z → P z)
  two_are P x y = (
    λ both. (each_is P x (y ∷ [])).1 (both.0, (one_is P y).0 both.1),
    λ each. (each x (first_of_all x (y ∷ [])), each y (later x (y ∷ []) y (first_of_all y []))),
  )

map_none : {X Y : Type 0} (f : X → Y) (xs : List X) → map f xs ≡ [] → xs ≡ []
map_none f [] e = refl
map_none f (x ∷ xs) e = cc

-- ---- Which refusal applies first

abbrev pub is_limit : RefusalRow → Bool
is_limit row = eqb (number_of row) 12

passed_over : (row : RefusalRow) (rows : List RefusalRow) → row.1 ≡ false → first_of (row ∷ rows) ≡ first_of rows
passed_over row rows off =
    ap (λ b. option_map (λ (r : RefusalRow). r.0) (cond b (Some row) (find (λ (r : RefusalRow). r.1) rows))) off

beside : (row : RefusalRow) (xs ys : List RefusalRow) → first_of xs ≡ first_of ys → first_of (row ∷ xs) ≡ first_of (row ∷ ys)
beside row xs ys same =
    elim row.1 as (λ b. option_map (λ (r : RefusalRow). r.0) (cond b (Some row) (find (λ (r : RefusalRow). r.1) xs)) ≡
    option_map (λ (r : RefusalRow). r.0) (cond b (Some row) (find (λ (r : RefusalRow). r.1) ys))) [
      | true ↦ refl
      | false ↦ same
    ]

-- where no other applies, those for limits decide
limits_decide : (rows : List RefusalRow) →
    ((row : RefusalRow) → Contains rows row → (number_of row ≡ 12 → ⊥) → row.1 ≡ false) →
    first_of rows ≡ first_of (filter is_limit rows)
limits_decide [] pass = refl
limits_decide (row ∷ rows) pass =
    let rest = limits_decide rows (λ r c. pass r (later row rows r c)) in
    elim (is_limit row) as (λ b. is_limit row ≡ b →
    first_of (row ∷ rows) ≡ first_of (cond b (row ∷ filter is_limit rows) (filter is_limit rows))) [
      | true ↦ λ _. beside row rows (filter is_limit rows) rest
      | false ↦ λ other. passed_over row rows (pass row (first_of_all row rows)
          (λ e. let f : true ≡ false = subst (λ n. eqb n 12 ≡ false) e other in cc)) ∙ rest
    ] refl

-- a list of limits applies where it isn't empty
applies : (broken : List Exceedance) (rest : List RefusalRow) → first_of rest ≡ None →
    (first_of (over_limits broken ∷ rest) ≡ None) ↔ (broken ≡ [])
applies [] rest clear = (λ _. refl, λ _. clear)
applies (e ∷ es) rest clear =
    let on : first_of (over_limits (e ∷ es) ∷ rest) ≡ Some (Limits (e ∷ es)) =
    ap (λ b. option_map (λ (r : RefusalRow). r.0) (cond b (Some (Limits (e ∷ es), b)) (find (λ (r : RefusalRow). r.1) rest)))
    (lt-ltb 0 (length (e ∷ es)) (omega arith)) in
    (λ is. absurd (let f : None ≡ Some (Limits (e ∷ es)) = sym is ∙ on in cc), λ is. absurd (cc))

-- ---- What is broken

abbrev pub BreaksNone : Gain → Type 0
BreaksNone gain = (section : Section) → IsBroken gain section → ⊥

nothing_broken : (who : List ℕ) (gain : Gain) → (broken_by who gain.others gain.new ≡ []) ↔ BreaksNone gain
unfolding broken_by
nothing_broken who gain =
    let is = broken_is (gain.others ++ gain.new) gain.new in
    let the_list = Broken (gain.others ++ gain.new) gain.new in (
      λ empty section rule. no_member the_list section (map_none _ the_list empty) ((is section).1 rule),
      λ kept. ap (map (λ section. record { crew = who; section = section }))
          (has_none the_list (λ section c. kept section ((is section).0 c))),
    )

-- ---- The instructions

not_refused : (s : State) (key : KeyParts) (instruction : Instruction) (o : Option Refusal) (change : Change) (reply : Reply) →
    judged s key instruction o ≡ Accept change reply → o ≡ None
not_refused s key instruction None change reply e = refl
not_refused s key instruction (Some refusal) change reply e = cc

accepted_is : (s : State) (key : KeyParts) (instruction : Instruction) → fin.get s.requests (key_name key) ≡ None →
    IsAccepted s key instruction ↔ (refusal_of s instruction ≡ None)
accepted_is s key instruction free = (
  λ a. not_refused s key instruction (refusal_of s instruction) a.0 a.1 (sym (under_free s key instruction free) ∙ a.2),
  λ clear. (
    change_of s key instruction,
    record { exceedances = recorded_by s instruction },
    under_free s key instruction free ∙ ap (judged s key instruction) clear,
  ),
)

-- under a free key, the rows of limits alone decide
decided : (s : State) (key : KeyParts) (instruction : Instruction) → PassesChecks s key instruction →
    IsAccepted s key instruction ↔ (first_of (filter is_limit (refusals s instruction)) ≡ None)
decided s key instruction passes =
    let same = limits_decide (refusals s instruction) passes.passes in
    through (accepted_is s key instruction passes.free) (λ e. sym same ∙ e, λ e. same ∙ e)

-- which for an assignment are one row, of what the gains break
breaks_none : (s : State) (instruction : Instruction) → is_assignment instruction ≡ true →
    (first_of (filter is_limit (refusals s instruction)) ≡ None)
    ↔ ((gain : Gain) → Contains (gains s instruction) gain → BreaksNone gain)
unfolding refusals
breaks_none s (Assign id who) is =
    let gain : Gain = record { others = others s who no_place; new = duties_of s who id } in
    through (applies (broken_by who gain.others gain.new) [] refl)
    (through (nothing_broken who gain) (one_is BreaksNone gain))
breaks_none s (Swap w) is =
    let gain : Gain = record { others = others s w.crew (the_pairing w.pairing); new = duties_of s w.crew w.other_pairing } in
    let other : Gain = record {
      others = others s w.other_crew (the_pairing w.other_pairing);
      new = duties_of s w.other_crew w.pairing;
    } in
    let broken = broken_by w.crew gain.others gain.new in
    let other_broken = broken_by w.other_crew other.others other.new in
    let one = nothing_broken w.crew gain in
    let two = nothing_broken w.other_crew other in
    through (applies (broken ++ other_broken) [] refl)
    (through (both_empty broken other_broken)
    (through (λ e. (one.0 e.0, two.0 e.1), λ e. (one.1 e.0, two.1 e.1))
    (two_are BreaksNone gain other)))
breaks_none s (AddGround g) is =
    let gain : Gain = record { others = others s g.crew no_place; new = (ground_at (g.id, g)).1 ∷ [] } in
    through (applies (broken_by g.crew gain.others gain.new) [] refl)
    (through (nothing_broken g.crew gain) (one_is BreaksNone gain))
breaks_none s (AddBase id zone) is = absurd (cc)
breaks_none s (AddCrew who member) is = absurd (cc)
breaks_none s (AddPairing plan) is = absurd (cc)
breaks_none s (CancelPairing id) is = absurd (cc)
breaks_none s (Release id who) is = absurd (cc)
breaks_none s (CancelGround id) is = absurd (cc)
breaks_none s (Actual id a) is = absurd (cc)
breaks_none s (RecordOutside who o) is = absurd (cc)

pub accepted_within_limits : AcceptedWithinLimits
accepted_within_limits s key instruction is passes = through (decided s key instruction passes) (breaks_none s instruction is)
