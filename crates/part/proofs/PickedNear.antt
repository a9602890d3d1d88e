-- What is added to what an instruction names is a near part.
use Rattle.std.proofs.Common.{◌≡◌, ℕ, ◌++◌, List, [], ◌∷◌, refl, sym, ap, subst, ◌∙◌, Contains}
use Rattle.std.specs.FinMap as fin
use Rattle.std.specs.Option.{option_map_or}
use Rattle.values.specs.Name.{name_cmp}
use Rattle.duty.specs.declared.span.Span.{Span}
use Rattle.command.specs.declared.instruction.Instruction.{Instruction}
use Rattle.command.specs.declared.instruction.Instruction.TheVariants.{AddBase, AddCrew, AddPairing, CancelPairing, Assign, Release, Swap, AddGround, CancelGround, Actual, RecordOutside}
use Rattle.command.specs.declared.member.Member.{Member}
use Rattle.roster.specs.State.{State}
use Rattle.roster.specs.declared.state.PairingEntry.{PairingEntry}
use Rattle.part.specs.Near.{AreSo, HasNear, needs_judged, new_times, new_times_in}
use Rattle.roster.specs.Near.{IsHeldNear, period_times}
use Rattle.part.specs.Part.{is_one_of, judged_by, members_named, pairings_named}
use Rattle.part.specs.Sources.{AddsNear, IsPartOf, picked}
use Rattle.part.proofs.Alike.{first_name, second_name}
use Rattle.part.proofs.Picked.{names_are, names_known, of_one, one_of, picked_twice}
use Rattle.part.proofs.Retained.{from_retained, or_right, retained}

-- ---- Of a state

module _ (s : State) where
  -- the pairings that are named say where the new duties lie
  pub times_same : (instruction : Instruction) (p : fin.FinMap name_cmp PairingEntry) → p ≡ fin.retain_keys s.pairings (is_one_of (pairings_named instruction)) →
      new_times_in p instruction ≡ new_times s instruction
  times_same (AddBase id zone) p is = refl
  times_same (AddCrew who member) p is = refl
  times_same (AddPairing plan) p is = refl
  times_same (CancelPairing id) p is = refl
  times_same (Assign id who) p is =
      ap (λ o. option_map_or period_times o []) (ap (λ m. fin.get m id) is ∙ retained s.pairings (is_one_of (id ∷ [])) id (first_name id []))
  times_same (Release id who) p is = refl
  times_same (Swap w) p is =
      let names = w.pairing ∷ w.other_pairing ∷ [] in
      let one = ap (λ m. fin.get m w.pairing) is ∙ retained s.pairings (is_one_of names) w.pairing (first_name w.pairing (w.other_pairing ∷ [])) in
      let other = ap (λ m. fin.get m w.other_pairing) is ∙ retained s.pairings (is_one_of names) w.other_pairing (second_name w.pairing w.other_pairing []) in
      λ i. option_map_or period_times (one i) [] ++ option_map_or period_times (other i) []
  times_same (AddGround g) p is = refl
  times_same (CancelGround id) p is = refl
  times_same (Actual id a) p is = refl
  times_same (RecordOutside who o) p is = refl

module _ (s : State) (instruction : Instruction) where
  -- the named pairings are the state's
  pub named_so : (p : fin.FinMap name_cmp PairingEntry) → p ≡ fin.retain_keys s.pairings (is_one_of (pairings_named instruction)) → AreSo s p
  named_so p is id some there =
      let known = from_retained s.pairings (is_one_of (pairings_named instruction)) id some (ap (λ m. fin.get m id) (sym is) ∙ there) in
      (some, known.1, record { plan = refl; actuals = refl; seats = λ x who held. held })

  pub near_as : (p q : fin.FinMap name_cmp PairingEntry) (judged : List (List ℕ)) (spans : List Span) →
      p ≡ fin.retain_keys s.pairings (is_one_of (pairings_named instruction)) → judged ≡ judged_by s instruction → spans ≡ new_times s instruction →
      AddsNear s spans judged p q → HasNear s instruction q
  near_as p q judged spans is ej es adds = record {
    named = λ id one. adds.whole id (ap (λ m. fin.get m id) is ∙ retained s.pairings (is_one_of (pairings_named instruction)) id one);
    so = adds.so (named_so p is);
    near = λ who one id held. adds.near (named_so p is) who (subst (λ names. Contains names who) (sym ej) (of_one (judged_by s instruction) who one)) id
        (subst (λ times. IsHeldNear s times who id) (sym es) held);
  }

  pub judged_as : (p1 p2 : fin.FinMap name_cmp Member) (judged : List (List ℕ)) →
      p1 ≡ fin.retain_keys s.crew (is_one_of (members_named instruction)) → judged ≡ judged_by s instruction →
      (IsPartOf p1 s.crew → p2 ≡ picked s.crew p1 judged) → p2 ≡ fin.retain_keys s.crew (needs_judged s instruction)
  judged_as p1 p2 judged e1 ej e2 =
      let names = members_named instruction in
      let first : p1 ≡ picked s.crew fin.empty names = e1 ∙ sym (names_are s.crew names) in
      e2 (names_known s.crew p1 names e1)
      ∙ (λ i. picked s.crew (first i) (ej i))
      ∙ picked_twice s.crew names (judged_by s instruction) (needs_judged s instruction) (λ q v there. refl)

  -- of the judged members it has what the state has
  pub crew_known : (crew : fin.FinMap name_cmp Member) (judged : List (List ℕ)) → crew ≡ fin.retain_keys s.crew (needs_judged s instruction) → judged ≡ judged_by s instruction →
      (who : List ℕ) → Contains judged who → fin.get crew who ≡ fin.get s.crew who
  crew_known crew judged is ej who c =
      ap (λ m. fin.get m who) is
      ∙ retained s.crew (needs_judged s instruction) who
      (or_right (is_one_of (members_named instruction) who) _ (one_of (judged_by s instruction) who (subst (λ names. Contains names who) ej c)))
