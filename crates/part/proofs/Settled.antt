-- What an instruction names settles each verdict that no history can change.
use Rattle.std.proofs.Common.{◌≡◌, inl, inr, ℕ, true, false, not, ◌&&◌, ◌||◌, ◌==◌, IsTrue, List, [], ◌∷◌, ◌++◌, length, refl, sym, ap, subst, ◌∙◌, Option, Some, None, is_some, is_none}
use Rattle.std.specs.FinMap as fin
use Rattle.std.specs.Option.{option_map_or}
use Rattle.std.specs.Str.{bytes_eq}
use Rattle.std.proofs.lemmas.Bool.{cases_Bool, true≢false}
use Rattle.duty.specs.declared.fdp.Fdp.{Fdp}
use Rattle.command.specs.Keys.{KeyParts, key_name}
use Rattle.command.specs.contracts.member.SeatPartialEq.TheImpl.{ghosts as seats}
use Rattle.command.specs.declared.instruction.Instruction.{Instruction}
use Rattle.command.specs.declared.instruction.Instruction.TheVariants.{AddBase, AddCrew, AddPairing, CancelPairing, Assign, Release, Swap, AddGround, CancelGround, Actual, RecordOutside}
use Rattle.command.specs.declared.refusal.Refusal.{Refusal}
use Rattle.command.specs.declared.refusal.Refusal.TheVariants.{NoSuchCrew, NoSuchPairing, SeatTaken, WrongSeat, NotAssigned, Flown, NoSuchDuty, SegmentCount, OutsideTaken}
use Rattle.roster.specs.Pairings.{is_held_by, is_flown, is_fully_crewed}
use Rattle.roster.specs.Places.{others}
use Rattle.roster.specs.Refusals.{RefusalRow, first_of, refusals, refusal_of}
use Rattle.roster.specs.ByNames.{refusals_by_names}
use Rattle.roster.proofs.ByNames.{early_refused, names_first, refusals_after}
use Rattle.roster.specs.State.{State}
use Rattle.roster.specs.Steps.{answered, judged, step_of}
use Rattle.roster.specs.declared.change.Verdict.{Verdict}
use Rattle.roster.specs.declared.change.Verdict.TheVariants.{Refuse}
use Rattle.roster.specs.declared.state.LoggedCommand.{LoggedCommand}
use Rattle.part.specs.Part.{NamedPart, NamesSettle, has_histories, is_settled, members_named, pairings_named, grounds_named, outsides_named, is_one_of, judged_by}
use Rattle.part.proofs.Retained.{same_name, retained}
use Rattle.part.proofs.Alike.{Agree, first_name, second_name, same_holder, same_planned, same_step}

-- ---- Refusals that stand before those of histories

-- no row of these is settled by names
abbrev AreLate : Instruction → List RefusalRow → Type 0
AreLate instruction [] = Unit {0}
AreLate instruction (row ∷ rows) = (is_settled instruction (Refuse row.0) ≡ false) × AreLate instruction rows

-- the rows of an instruction that is judged by histories: those that its names decide, and then others
record Splits (s : State) (instruction : Instruction) : Type 0 where
  pub rows : refusals s instruction ≡ refusals_by_names s instruction ++ refusals_after s instruction
  pub later : AreLate instruction (refusals_after s instruction)

after_names : (s : State) (instruction : Instruction) → has_histories instruction ≡ true → AreLate instruction (refusals_after s instruction)
after_names s (AddBase id zone) is = cc
after_names s (AddCrew who member) is = cc
after_names s (AddPairing plan) is = cc
after_names s (CancelPairing id) is = cc
after_names s (Release id who) is = cc
after_names s (CancelGround id) is = cc
after_names s (Assign id who) is = (refl, (refl, tt))
after_names s (Swap w) is = (refl, (refl, tt))
after_names s (AddGround g) is = (refl, (refl, (refl, tt)))
after_names s (Actual id a) is = tt
after_names s (RecordOutside who o) is = tt

splits : (s : State) (instruction : Instruction) → has_histories instruction ≡ true → Splits s instruction
splits s instruction is = record { rows = names_first s instruction; later = after_names s instruction is }

module _ (s t : State) (key : KeyParts) (instruction : Instruction) (is : has_histories instruction ≡ true) where
  -- by others alone nothing is settled
  unsettled : (rows : List RefusalRow) → AreLate instruction rows → IsTrue (is_settled instruction (judged s key instruction (first_of rows))) → ⊥
  unsettled [] after settled = true≢false (sym settled ∙ ap not is)
  unsettled ((refusal, true) ∷ rows) after settled = true≢false (sym settled ∙ after.0)
  unsettled ((refusal, false) ∷ rows) after settled = unsettled rows after.1 settled

  -- the first that applies of those that names decide is the answer
  settles : (rows before others : List RefusalRow) → AreLate instruction before →
      IsTrue (is_settled instruction (judged s key instruction (first_of (rows ++ before)))) →
      judged s key instruction (first_of (rows ++ before)) ≡ judged t key instruction (first_of (rows ++ others))
  settles [] before others after settled = absurd (unsettled before after settled)
  settles ((refusal, true) ∷ rows) before others after settled = refl
  settles ((refusal, false) ∷ rows) before others after settled = settles rows before others after settled

-- ---- What is named

module _ (s : State) (key : KeyParts) (instruction : Instruction) where
  abbrev named : State
  named = NamedPart s key instruction

  crew_named : (who : List ℕ) → is_one_of (members_named instruction) who ≡ true → fin.get named.crew who ≡ fin.get s.crew who
  crew_named who is = retained s.crew (is_one_of (members_named instruction)) who is

  pairing_named : (id : List ℕ) → is_one_of (pairings_named instruction) id ≡ true → fin.get named.pairings id ≡ fin.get s.pairings id
  pairing_named id is = retained s.pairings (is_one_of (pairings_named instruction)) id is

  outside_named : (id : List ℕ) → is_one_of (outsides_named instruction) id ≡ true → fin.get named.outsides id ≡ fin.get s.outsides id
  outside_named id is = retained s.outsides (is_one_of (outsides_named instruction)) id is

  request_named : fin.get named.requests (key_name key) ≡ fin.get s.requests (key_name key)
  request_named = retained s.requests (bytes_eq (key_name key)) (key_name key) (same_name (key_name key))

same_early : (s : State) (key : KeyParts) (instruction : Instruction) → refusals_by_names (NamedPart s key instruction) instruction ≡ refusals_by_names s instruction
unfolding refusals_by_names
same_early s key (AddBase id zone) = refl
same_early s key (AddCrew who member) = refl
same_early s key (AddPairing plan) = refl
same_early s key (CancelPairing id) = refl
same_early s key (Release id who) = refl
same_early s key (CancelGround id) = refl
same_early s key (Assign id who) =
    let n = NamedPart s key (Assign id who) in
    let m = crew_named s key (Assign id who) who (first_name who []) in
    let p = pairing_named s key (Assign id who) id (first_name id []) in
    let held = same_holder n s id p who m in
    λ i. (NoSuchCrew, not (is_some (m i))) ∷ (NoSuchPairing, not (is_some (p i))) ∷ (SeatTaken, is_some (held i)) ∷ []
same_early s key (Swap w) =
    let n = NamedPart s key (Swap w) in
    let m = crew_named s key (Swap w) w.crew (first_name w.crew (w.other_crew ∷ [])) in
    let o = crew_named s key (Swap w) w.other_crew (second_name w.crew w.other_crew []) in
    let p = pairing_named s key (Swap w) w.pairing (first_name w.pairing (w.other_pairing ∷ [])) in
    let q = pairing_named s key (Swap w) w.other_pairing (second_name w.pairing w.other_pairing []) in
    let held = same_holder n s w.pairing p w.crew m in
    let other_held = same_holder n s w.other_pairing q w.other_crew o in
    λ i. (NoSuchCrew, not (is_some (m i) && is_some (o i)))
    ∷ (NoSuchPairing, not (is_some (p i) && is_some (q i)))
    ∷ (WrongSeat, option_map_or (λ a. option_map_or (λ b. not (seats.eq a.seat b.seat)) (o i) false) (m i) false)
    ∷ (NotAssigned, not (is_held_by w.crew (held i) && is_held_by w.other_crew (other_held i)))
    ∷ (Flown, option_map_or is_flown (p i) false || option_map_or is_flown (q i) false)
    ∷ []
same_early s key (AddGround g) =
    let m = crew_named s key (AddGround g) g.crew (first_name g.crew []) in
    λ i. (NoSuchCrew, not (is_some (m i))) ∷ []
same_early s key (Actual id a) =
    let p = pairing_named s key (Actual id a) id (first_name id []) in
    let period = same_planned (NamedPart s key (Actual id a)) s id p a.period in
    λ i. (NoSuchPairing, not (is_some (p i)))
    ∷ (NotAssigned, option_map_or (λ r. not (is_fully_crewed r)) (p i) false)
    ∷ (NoSuchDuty, is_none (period i))
    ∷ (SegmentCount a.period, option_map_or (λ (fdp : Fdp). not (length fdp.segments == length a.segments)) (period i) false)
    ∷ []
same_early s key (RecordOutside who o) =
    let m = crew_named s key (RecordOutside who o) who (first_name who []) in
    let there = outside_named s key (RecordOutside who o) o.id (first_name o.id []) in
    λ i. (NoSuchCrew, not (is_some (m i))) ∷ (OutsideTaken, option_map_or (λ x. not (bytes_eq x.crew who)) (there i) false) ∷ []

-- ---- Those that no history judges

nobody_judged : (s : State) (instruction : Instruction) (who : List ℕ) → has_histories instruction ≡ false → is_one_of (judged_by s instruction) who ≡ true → ⊥
nobody_judged s (AddBase id zone) who none is = cc
nobody_judged s (AddCrew m member) who none is = cc
nobody_judged s (AddPairing plan) who none is = cc
nobody_judged s (CancelPairing id) who none is = cc
nobody_judged s (Release id m) who none is = cc
nobody_judged s (CancelGround id) who none is = cc
nobody_judged s (Assign id m) who none is = cc
nobody_judged s (Swap w) who none is = cc
nobody_judged s (AddGround g) who none is = cc
nobody_judged s (Actual id a) who none is = cc
nobody_judged s (RecordOutside m o) who none is = cc

agrees : (s : State) (key : KeyParts) (instruction : Instruction) → has_histories instruction ≡ false → Agree (NamedPart s key instruction) s key instruction
agrees s key instruction none = record {
  bases = refl;
  zone = λ who judged. absurd (nobody_judged s instruction who none judged);
  request = request_named s key instruction;
  crew = crew_named s key instruction;
  pairings = pairing_named s key instruction;
  grounds = λ id is. retained s.grounds (is_one_of (grounds_named instruction)) id is;
  outsides = outside_named s key instruction;
  fit = λ who judged out new is. absurd (nobody_judged s instruction who none judged);
}

-- ---- The law

settled_free : (s : State) (key : KeyParts) (instruction : Instruction) → has_histories instruction ≡ true →
    IsTrue (is_settled instruction (judged (NamedPart s key instruction) key instruction (refusal_of (NamedPart s key instruction) instruction))) →
    judged (NamedPart s key instruction) key instruction (refusal_of (NamedPart s key instruction) instruction) ≡ judged s key instruction (refusal_of s instruction)
settled_free s key instruction is settled =
    let n = NamedPart s key instruction in
    let here = splits n instruction is in
    let there = splits s instruction is in
    let verdict : List RefusalRow → Verdict = λ rows. judged n key instruction (first_of rows) in
    ap verdict here.rows
    ∙ settles n s key instruction is (refusals_by_names n instruction) (refusals_after n instruction) (refusals_after s instruction) here.later
    (subst (λ rows. IsTrue (is_settled instruction (verdict rows))) here.rows settled)
    ∙ ap (λ rows. judged s key instruction (first_of (rows ++ refusals_after s instruction))) (same_early s key instruction)
    ∙ ap (λ rows. judged s key instruction (first_of rows)) (sym there.rows)

settled_by : (s : State) (key : KeyParts) (instruction : Instruction) → has_histories instruction ≡ true → (o : Option LoggedCommand) →
    IsTrue (is_settled instruction (answered (NamedPart s key instruction) key instruction o)) →
    answered (NamedPart s key instruction) key instruction o ≡ answered s key instruction o
settled_by s key instruction is (Some kept) settled = refl
settled_by s key instruction is None settled = settled_free s key instruction is settled

with_histories : (s : State) (key : KeyParts) (instruction : Instruction) → has_histories instruction ≡ true →
    IsTrue (is_settled instruction (step_of (NamedPart s key instruction) key instruction)) →
    step_of (NamedPart s key instruction) key instruction ≡ step_of s key instruction
unfolding step_of
with_histories s key instruction is settled =
    let n = NamedPart s key instruction in
    let same = request_named s key instruction in
    ap (answered n key instruction) same
    ∙ settled_by s key instruction is (fin.get s.requests (key_name key))
    (subst (λ o. IsTrue (is_settled instruction (answered n key instruction o))) same settled)

pub names_settle : NamesSettle
names_settle s key instruction settled = elim (cases_Bool (has_histories instruction)) [
  | inl is ↦ with_histories s key instruction is settled
  | inr none ↦ same_step (NamedPart s key instruction) s key instruction (agrees s key instruction none)
]

-- a refusal by what is named is the answer under a free key
pub early_is : (s : State) (key : KeyParts) (instruction : Instruction) (refusal : Refusal) → fin.get s.requests (key_name key) ≡ None →
    Some refusal ≡ first_of (refusals_by_names (NamedPart s key instruction) instruction) → Refuse refusal ≡ step_of s key instruction
unfolding step_of
early_is s key instruction refusal free is =
    ap (judged s key instruction) (early_refused s instruction refusal (is ∙ ap first_of (same_early s key instruction)))
    ∙ ap (answered s key instruction) (sym free)

-- an instruction that no history judges is answered by what it names
pub bare_is : (s : State) (key : KeyParts) (instruction : Instruction) → has_histories instruction ≡ false → step_of (NamedPart s key instruction) key instruction ≡ step_of s key instruction
bare_is s key instruction none = same_step (NamedPart s key instruction) s key instruction (agrees s key instruction none)

-- what a key holds is the answer
pub by_key : (s : State) (key : KeyParts) (instruction : Instruction) (held : Option LoggedCommand) → held ≡ fin.get s.requests (key_name key) →
    answered s key instruction held ≡ step_of s key instruction
unfolding step_of
by_key s key instruction held is = ap (answered s key instruction) is
