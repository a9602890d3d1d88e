-- A near part of a state agrees with it on what the instruction looks at.
use Rattle.std.proofs.Common.{◌≡◌, ◌⊎◌, ℕ, Bool, true, false, List, Contains, Some, None, sym, ap, subst, ◌∙◌, inl, inr, not, map, slice_get}
use Rattle.std.specs.FinMap as fin
use Rattle.std.specs.List.{filter, zip}
use Rattle.std.specs.Option.{option_map_or}
use Rattle.std.specs.Str.{bytes_eq}
use Rattle.std.proofs.lemmas.Bool.{cases_Bool, false≢true, not-true}
use Rattle.std.proofs.lemmas.Option.{same_Some}
use Rattle.command.specs.Instructions.{instruction_fault}
use Rattle.command.specs.Keys.{KeyParts, key_name}
use Rattle.command.specs.declared.instruction.Instruction.{Instruction}
use Rattle.command.specs.declared.member.Member.{Member}
use Rattle.duty.specs.Shape.{home}
use Rattle.duty.specs.declared.duty_in_force.DutyInForce.{DutyInForce}
use Rattle.limits.specs.Reach.{AreAllButFar, IsFar, is_reached}
use Rattle.limits.specs.Laws.TableRules.{from_contained}
use Rattle.limits.proofs.Unreached.{unreached_is_far}
use Rattle.roster.specs.Bases.{zone_at}
use Rattle.roster.specs.Pairings.{flown}
use Rattle.roster.specs.Places.{Place, Placed, history_of, on_ground, others, outside, period}
use Rattle.roster.specs.Sound.{Sound}
use Rattle.roster.specs.State.{State, zone_of}
use Rattle.roster.specs.declared.state.PairingEntry.{PairingEntry}
use Rattle.roster.proofs.Members.{from_filter, from_map}
use Rattle.roster.proofs.Standing.{IsPeriod, Stands, among_others, standing}
use Rattle.part.specs.Near.{IsNearPart, NearAnswersCommands, needs_judged, new_times}
use Rattle.roster.specs.Near.{is_near, period_times}
use Rattle.part.specs.Part.{grounds_named, is_one_of, judged_by, members_named, needs_ground, needs_outside, outsides_named}
use Rattle.part.proofs.Alike.{Agree, same_step}
use Rattle.part.proofs.Fits.{same_fit}
use Rattle.part.proofs.Inside.{stands_inside}
use Rattle.part.proofs.NearPairings.{holds_so}
use Rattle.part.proofs.NewDuties.{new_in}
use Rattle.part.proofs.Retained.{from_retained, or_left, or_right, retained, same_name}

module _ (s : State) (key : KeyParts) (instruction : Instruction) (sound : Sound s) (part : State) (is : IsNearPart s key instruction part) where
  -- the part has the zone of each judged member
  judged_zone : (who : List ℕ) → is_one_of (judged_by s instruction) who ≡ true → zone_of part who ≡ zone_of s who
  judged_zone who judged = ap (λ (t : State). zone_of t who) is.rest ∙ ap (λ o. zone_at s.bases (option_map_or (λ (m : Member). m.base) o home))
      (retained s.crew (needs_judged s instruction) who (or_right (is_one_of (members_named instruction) who) _ judged))

  -- ---- What stands

  -- a duty of a pairing that no window reaches is far
  far_of : (id : List ℕ) (r : PairingEntry) → fin.get s.pairings id ≡ Some r → is_near (new_times s instruction) r ≡ false →
      (zone : List ℕ) (number : ℕ) (d : DutyInForce) → IsPeriod zone r number d → IsFar (new_times s instruction) d
  far_of id r there not_near zone number d is =
      let t = stands_inside s sound id r there zone number d is in
      elim (cases_Bool (is_reached (new_times s instruction) t.0)) [
        | inl reached ↦ absurd (false≢true (sym not_near ∙ from_contained (is_reached (new_times s instruction)) (period_times r) t.0 t.1 reached))
        | inr none ↦ unreached_is_far t.0 d (new_times s instruction) t.2 none
      ]

  -- a pairing that says of another what is so has its periods
  period_same : (r some : PairingEntry) → some.plan ≡ r.plan → some.actuals ≡ r.actuals → (zone : List ℕ) (number : ℕ) (d : DutyInForce) → IsPeriod zone r number d → IsPeriod zone some number d
  period_same r some plan actuals zone number d h = record {
    place = h.place;
    counted = h.counted;
    fdp = h.fdp;
    found = (λ i. slice_get (map flown (zip (plan i).periods (actuals i))) h.place) ∙ h.found;
    is = h.is;
  }

  stays : (who : List ℕ) → is_one_of (judged_by s instruction) who ≡ true → (place : Place) (d : DutyInForce) → Stands s who place d →
      Stands part who place d ⊎ IsFar (new_times s instruction) d
  stays who judged (period id number) d h =
      elim (cases_Bool (is_near (new_times s instruction) h.0)) [
        | inl near ↦
            let has = is.pairings.near who judged id (h.0, h.1, h.2, near) in
            let so = is.pairings.so id has.0 has.1 in
            let value : so.0 ≡ h.0 = same_Some so.0 h.0 (sym so.1 ∙ h.1) in
            inl (
              has.0,
              has.1,
              has.2,
              subst (λ zone. IsPeriod zone has.0 number d) (sym (judged_zone who judged))
                  (period_same h.0 has.0 (so.2.plan ∙ ap (λ (r : PairingEntry). r.plan) value) (so.2.actuals ∙ ap (λ (r : PairingEntry). r.actuals) value) (zone_of s who) number d h.3),
            )
        | inr far ↦ inr (far_of id h.0 h.1 far (zone_of s who) number d h.3)
      ]
  stays who judged (on_ground id) d h = inl (
    h.0,
    ap (λ (t : State). fin.get t.grounds id) is.rest ∙ retained s.grounds (needs_ground s instruction) id
        (or_right (is_one_of (grounds_named instruction) id) _
        (ap (λ o. option_map_or (λ x. is_one_of (judged_by s instruction) x.crew) o false) h.1
        ∙ ap (is_one_of (judged_by s instruction)) h.2 ∙ judged))
        ∙ h.1,
    h.2,
    h.3,
  )
  stays who judged (outside id) d h = inl (
    h.0,
    ap (λ (t : State). fin.get t.outsides id) is.rest ∙ retained s.outsides (needs_outside s instruction) id
        (or_right (is_one_of (outsides_named instruction) id) _
        (ap (λ o. option_map_or (λ x. is_one_of (judged_by s instruction) x.crew) o false) h.1
        ∙ ap (is_one_of (judged_by s instruction)) h.2 ∙ judged))
        ∙ h.1,
    h.2,
    h.3,
  )

  back : (who : List ℕ) → is_one_of (judged_by s instruction) who ≡ true → (place : Place) (d : DutyInForce) → Stands part who place d → Stands s who place d
  back who judged (period id number) d h =
      let so = is.pairings.so id h.0 h.1 in (
        so.0,
        so.1,
        holds_so so.0 h.0 so.2 who h.2,
        subst (λ zone. IsPeriod zone so.0 number d) (judged_zone who judged) (period_same h.0 so.0 (sym so.2.plan) (sym so.2.actuals) (zone_of part who) number d h.3),
      )
  back who judged (on_ground id) d h = (h.0, (from_retained s.grounds (needs_ground s instruction) id h.0 (ap (λ (t : State). fin.get t.grounds id) (sym is.rest) ∙ h.1)).1, h.2, h.3)
  back who judged (outside id) d h = (h.0, (from_retained s.outsides (needs_outside s instruction) id h.0 (ap (λ (t : State). fin.get t.outsides id) (sym is.rest) ∙ h.1)).1, h.2, h.3)

  -- a duty among the others, with its place
  from_others : (t : State) (who : List ℕ) (out : Place → Bool) (d : DutyInForce) → Contains (others t who out) d →
      (place : Place) × (out place ≡ false) × Stands t who place d
  from_others t who out d c =
      let m = from_map (λ (p : Placed). p.1) (filter (λ p. not (out p.0)) (history_of t who)) d c in
      let f = from_filter (λ (p : Placed). not (out p.0)) (history_of t who) m.0 m.1 in
      (m.0.0, not-true (out m.0.0) f.1, subst (Stands t who m.0.0) m.2 (standing t who m.0 f.0))

  all_but_far : (who : List ℕ) → is_one_of (judged_by s instruction) who ≡ true → (out : Place → Bool) →
      AreAllButFar (new_times s instruction) (others s who out) (others part who out)
  all_but_far who judged out = record {
    within = λ d c. (let o = from_others part who out d c in among_others s who out o.0 d (back who judged o.0 d o.2) o.1);
    others = λ d c. (let o = from_others s who out d c in
        elim (stays who judged o.0 d o.2) [
          | inl stands ↦ inl (among_others part who out o.0 d stands o.1)
          | inr far ↦ inr far
        ]);
  }

  agrees : instruction_fault instruction ≡ None → Agree part s key instruction
  agrees made = record {
    bases = ap (λ (t : State). t.bases) is.rest;
    zone = judged_zone;
    request = ap (λ (t : State). fin.get t.requests (key_name key)) is.rest ∙ retained s.requests (bytes_eq (key_name key)) (key_name key) (same_name (key_name key));
    crew = λ who named. ap (λ (t : State). fin.get t.crew who) is.rest ∙ retained s.crew (needs_judged s instruction) who (or_left (is_one_of (members_named instruction) who) _ named);
    pairings = is.pairings.named;
    grounds = λ id named. ap (λ (t : State). fin.get t.grounds id) is.rest ∙ retained s.grounds (needs_ground s instruction) id (or_left (is_one_of (grounds_named instruction) id) _ named);
    outsides = λ id named. ap (λ (t : State). fin.get t.outsides id) is.rest ∙ retained s.outsides (needs_outside s instruction) id (or_left (is_one_of (outsides_named instruction) id) _ named);
    fit = λ who judged out new it. same_fit who (others s who out) (others part who out) new (new_times s instruction)
        (new_in s sound instruction made new it) (all_but_far who judged out);
  }

pub near_answers_commands : NearAnswersCommands
near_answers_commands s part key instruction sound made is = same_step part s key instruction (agrees s key instruction sound part is made.0)
