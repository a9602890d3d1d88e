-- The new duties of a command that is made lie in the times of its new duties, in a sound state.
use Rattle.std.proofs.Common.{◌≡◌, ℕ, Bool, true, false, List, [], ◌∷◌, Contains, Option, Some, None, refl, sym, ap, subst, ◌∙◌, inl, inr}
use Rattle.std.specs.Prelude.{ℤ, pos, ◌≤ℤ◌, ◌<ℤ◌}
use Rattle.std.specs.FinMap as fin
use Rattle.std.specs.List.{enumerate_from, list_any}
use Rattle.std.specs.Option.{option_map_or}
use Rattle.std.proofs.lemmas.Bool.{false≢true}
use Rattle.std.proofs.lemmas.List.Elements.{Contains-append_left, Contains-append_right}
use Rattle.duty.specs.DutiesInForce.{in_force}
use Rattle.duty.specs.Minutes.{covers, minutes_in, spans_of}
use Rattle.duty.specs.Pairings.{actual_fault, outside_fault}
use Rattle.duty.specs.Plans.{ActualTimes, flown_at}
use Rattle.duty.specs.Shape.{is_id}
use Rattle.duty.specs.Words.{unless}
use Rattle.duty.specs.declared.duty_in_force.DutyInForce.{DutyInForce}
use Rattle.duty.specs.declared.duty_in_force.DutyInForce.TheVariants.{Fdp, Ground}
use Rattle.duty.specs.declared.fault.DutyFault.TheVariants.{BadField}
use Rattle.duty.specs.declared.fault.Field.TheVariants as field
use Rattle.duty.specs.declared.fdp.Fdp.{Fdp as PlacedFdp}
use Rattle.duty.specs.declared.kind.Kind.{Kind}
use Rattle.duty.specs.declared.kind.Kind.TheVariants.{Flight, FlightDuty, Duty}
use Rattle.duty.specs.declared.placed_duty.Duty.TheVariants as duty
use Rattle.duty.specs.declared.span.Span.{Span}
use Rattle.limits.specs.Reach.{AreIn, IsDuring}
use Rattle.limits.specs.Laws.Parts.{from_minutes}
use Rattle.command.specs.Instructions.{instruction_fault}
use Rattle.command.specs.declared.instruction.Instruction.{Instruction}
use Rattle.command.specs.declared.instruction.Instruction.TheVariants.{AddBase, AddCrew, AddPairing, CancelPairing, Assign, Release, Swap, AddGround, CancelGround, Actual, RecordOutside}
use Rattle.roster.specs.Pairings.{periods_in_force}
use Rattle.roster.specs.Places.{Placed, period, duties, outside_duty, periods_at}
use Rattle.roster.specs.Refusals.{duties_of, planned}
use Rattle.roster.specs.Sound.{Sound}
use Rattle.roster.specs.State.{State, zone_of}
use Rattle.roster.specs.declared.state.PairingEntry.{PairingEntry}
use Rattle.roster.proofs.Members.{first_or_later, from_map, from_numbers, is_first, none_in}
use Rattle.roster.proofs.Standing.{IsPeriod}
use Rattle.part.specs.Near.{new_times}
use Rattle.roster.specs.Near.{period_times}
use Rattle.part.proofs.Alike.{AreNew}
use Rattle.part.proofs.Inside.{flown_inside, no_first, of_one, outside_inside, stands_inside}

-- ---- One duty, or none

none_new : (spans : List Span) → AreIn spans []
none_new spans = record {
  minutes = λ kind i is. absurd (false≢true (none_of kind i is));
  reports = λ fdp c. absurd (none_in (Fdp fdp) c);
}
  where
    none_of : (kind : Kind) (i : ℤ) → minutes_in kind [] i ≡ true → false ≡ true
    none_of Flight i is = is
    none_of FlightDuty i is = is
    none_of Duty i is = is

-- one duty is in its times
in_one : (times : Span) (d : DutyInForce) → IsDuring times d → AreIn (times ∷ []) (d ∷ [])
in_one times d inside = record {
  minutes = λ kind i is. (let h = from_minutes kind (d ∷ []) i is in
      elim (first_or_later d [] h.0 h.1) [
        | inl same ↦ (let m = inside.minutes kind i (subst (λ (x : DutyInForce). list_any (covers i) (spans_of kind x) ≡ true) (sym same) h.2) in
            (times, is_first times [] times refl, m.0, m.1))
        | inr none ↦ absurd (none_in h.0 none)
      ]);
  reports = λ fdp c. elim (first_or_later d [] (Fdp fdp) c) [
    | inl same ↦ (let m = inside.report fdp same in (times, is_first times [] times refl, m.0, m.1))
    | inr none ↦ absurd (none_in (Fdp fdp) none)
  ];
}

flown_in : (zone : List ℕ) (a : ActualTimes) → actual_fault a ≡ None → (o : Option PlacedFdp) →
    AreIn (record { from = a.report; to = a.release } ∷ []) (option_map_or (λ fdp. in_force zone (duty.Fdp (flown_at fdp a)) ∷ []) o [])
flown_in zone a e None = none_new (record { from = a.report; to = a.release } ∷ [])
flown_in zone a e (Some fdp) = in_one (record { from = a.report; to = a.release }) (in_force zone (duty.Fdp (flown_at fdp a))) (flown_inside zone fdp a e)

-- ---- A ground duty

abbrev is_fdp : DutyInForce → Bool
is_fdp (Fdp fdp) = true
is_fdp (Ground span) = false

ground_minutes : (span : Span) (kind : Kind) (i : ℤ) → list_any (covers i) (spans_of kind (Ground span)) ≡ true → (pos span.from ≤ℤ i) × (i <ℤ pos span.to)
ground_minutes span Flight i is = absurd (false≢true is)
ground_minutes span FlightDuty i is = absurd (false≢true is)
ground_minutes span Duty i is = of_one i span is

ground_inside : (span : Span) → IsDuring span (Ground span)
ground_inside span = record {
  minutes = λ kind i is. ground_minutes span kind i is;
  report = λ fdp is. absurd (false≢true (ap is_fdp is));
}

-- ---- The periods of a pairing

module _ (s : State) (sound : Sound s) (who id : List ℕ) where
  -- a duty of a pairing is one of its periods
  period_in : (r : PairingEntry) (d : DutyInForce) → Contains (duties (periods_at (zone_of s who) (id, r))) d → (number : ℕ) × IsPeriod (zone_of s who) r number d
  period_in r d c =
      let m = from_map (λ (p : Placed). p.1) (periods_at (zone_of s who) (id, r)) d c in
      let at = from_map (λ (p : ℕ × PlacedFdp). (period id p.0, in_force (zone_of s who) (duty.Fdp p.1))) (enumerate_from 1 (periods_in_force r)) m.0 m.1 in
      let n = from_numbers 1 (periods_in_force r) at.0 at.1 in
      (at.0.0, record { place = n.0; counted = n.1; fdp = at.0.1; found = n.2; is = ap (λ (p : Placed). p.1) at.2 ∙ m.2 })

  in_pairing : (spans : List Span) (o : Option PairingEntry) → fin.get s.pairings id ≡ o →
      ((t : Span) → Contains (option_map_or period_times o []) t → Contains spans t) →
      AreIn spans (option_map_or (λ r. duties (periods_at (zone_of s who) (id, r))) o [])
  in_pairing spans None there among = none_new spans
  in_pairing spans (Some r) there among = record {
    minutes = λ kind i is. (let h = from_minutes kind (duties (periods_at (zone_of s who) (id, r))) i is in
        let p = period_in r h.0 h.1 in
        let t = stands_inside s sound id r there (zone_of s who) p.0 h.0 p.1 in
        let m = t.2.minutes kind i h.2 in
        (t.0, among t.0 t.1, m.0, m.1));
    reports = λ fdp c. (let p = period_in r (Fdp fdp) c in
        let t = stands_inside s sound id r there (zone_of s who) p.0 (Fdp fdp) p.1 in
        let m = t.2.report fdp refl in
        (t.0, among t.0 t.1, m.0, m.1));
  }

  given_in : (spans : List Span) → ((t : Span) → Contains (option_map_or period_times (fin.get s.pairings id) []) t → Contains spans t) →
      AreIn spans (duties_of s who id)
  given_in spans among = in_pairing spans (fin.get s.pairings id) refl among

-- ---- All new duties

pub new_in : (s : State) → Sound s → (instruction : Instruction) → instruction_fault instruction ≡ None → (new : List DutyInForce) →
    AreNew s instruction new → AreIn (new_times s instruction) new
unfolding instruction_fault
new_in s sound (AddBase id zone) e new is = absurd is
new_in s sound (AddCrew id member) e new is = absurd is
new_in s sound (AddPairing plan) e new is = absurd is
new_in s sound (CancelPairing id) e new is = absurd is
new_in s sound (Assign id who) e new is =
    subst (AreIn (new_times s (Assign id who))) is (given_in s sound who id (new_times s (Assign id who)) (λ t c. c))
new_in s sound (Release id who) e new is = absurd is
new_in s sound (Swap w) e new (inl is) =
    subst (AreIn (new_times s (Swap w))) is (given_in s sound w.other_crew w.pairing (new_times s (Swap w))
    (Contains-append_left (option_map_or period_times (fin.get s.pairings w.pairing) []) (option_map_or period_times (fin.get s.pairings w.other_pairing) [])))
new_in s sound (Swap w) e new (inr is) =
    subst (AreIn (new_times s (Swap w))) is (given_in s sound w.crew w.other_pairing (new_times s (Swap w))
    (Contains-append_right (option_map_or period_times (fin.get s.pairings w.pairing) []) (option_map_or period_times (fin.get s.pairings w.other_pairing) [])))
new_in s sound (AddGround g) e new is =
    let span : Span = record { from = g.begin; to = g.end } in
    subst (AreIn (span ∷ [])) is (in_one span (Ground span) (ground_inside span))
new_in s sound (CancelGround id) e new is = absurd is
new_in s sound (Actual id a) e new is =
    let one = (no_first (unless (is_id id) (BadField field.Pairing)) (actual_fault a ∷ []) e).1 in
    let fault = (no_first (actual_fault a) [] one).0 in
    subst (AreIn (record { from = a.report; to = a.release } ∷ [])) is.1 (flown_in (zone_of s is.0) a fault (planned s id a.period))
new_in s sound (RecordOutside who o) e new is =
    let one = (no_first (unless (is_id o.id) (BadField field.Outside)) (unless (is_id who) (BadField field.Crew) ∷ outside_fault o ∷ []) e).1 in
    let two = (no_first (unless (is_id who) (BadField field.Crew)) (outside_fault o ∷ []) one).1 in
    let fault = (no_first (outside_fault o) [] two).0 in
    let times : Span = record { from = o.report; to = o.release } in
    subst (AreIn (times ∷ [])) is (in_one times (outside_duty o) (outside_inside o fault))
