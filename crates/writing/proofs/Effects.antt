-- What an accepted command writes are the rows of the next state.
use Rattle.std.proofs.Common.{◌≡◌, refl, sym, ap, subst, ◌∙◌, arith, ℕ, ◌+◌, ◌-◌, ◌<◌, Bool, true, false, not, List, [], ◌∷◌, ◌++◌, length, Option, Some, None, is_some}
use Rattle.std.specs.FinMap as fin
use Rattle.std.specs.Option.{option_map_or}
use Rattle.std.proofs.lemmas.Bool.{not-false}
use Rattle.sqlite.specs.Effect.{Database}
use Rattle.command.specs.Keys.{KeyParts, key_name}
use Rattle.command.specs.Instructions.{IsMade}
use Rattle.command.specs.declared.instruction.Instruction.{Instruction}
use Rattle.command.specs.declared.instruction.Instruction.TheVariants.{AddBase, AddCrew, AddPairing, CancelPairing, Assign, Release, Swap, AddGround, CancelGround, Actual, RecordOutside}
use Rattle.roster.proofs.Accepted.{Passed, accepted}
use Rattle.roster.proofs.Records.{names_same}
use Rattle.roster.proofs.Sound.Flown.{found, get_within}
use Rattle.roster.proofs.Sound.Kept.{is_there}
use Rattle.roster.specs.Pairings.{is_crewed}
use Rattle.roster.specs.Refusals.{refusals}
use Rattle.roster.specs.Sound.{Sound}
use Rattle.roster.specs.State.{State, exceedance_name}
use Rattle.roster.specs.Steps.{after, change_of, effect, seat_change, recorded_by}
use Rattle.roster.specs.declared.change.Change.{Change}
use Rattle.roster.specs.declared.change.SeatChange.{SeatChange}
use Rattle.roster.specs.declared.state.PairingEntry.{PairingEntry}
use Rattle.writing.specs.Calls.{IsFit}
use Rattle.writing.specs.Next.{IsAcceptedChange}
use Rattle.state_rows.specs.Rows.{ExceedanceAt, Rows}
use Rattle.writing.specs.Writing.{Writes, WritesInstruction}
use Rattle.writing.proofs.EffectActual.{actual_flown}
use Rattle.writing.proofs.EffectOutside.{outside_recorded}
use Rattle.writing.proofs.EffectPairing.{plan_added, pairing_removed}
use Rattle.writing.proofs.EffectPlans.{Pairings}
use Rattle.writing.proofs.EffectSeats.{AreThere, all_reseated}
use Rattle.writing.proofs.EffectSimple.{base_added, member_added, ground_duty_added, ground_removed, request_added}

absent : {X : Type 0} (o : Option X) → is_some o ≡ false → o ≡ None
absent None e = refl
absent (Some x) e = absurd (cc)

-- ---- The seats of a change are of pairings that are there

seats_there : (s : State) (id who : List ℕ) (new : Option (List ℕ)) (r : PairingEntry) → fin.get s.pairings id ≡ Some r → AreThere s.pairings (seat_change s id who new)
seats_there s id who new r there =
    elim (fin.get s.crew who) as (λ o. AreThere s.pairings (option_map_or (λ m. record { pairing = id; seat = m.seat; holder = new } ∷ []) o [])) [
      | None ↦ tt
      | Some m ↦ ((r, there), tt)
    ]

both_there : (m : Pairings) (cs ds : List SeatChange) → AreThere m cs → AreThere m ds → AreThere m (cs ++ ds)
both_there m [] ds p q = q
both_there m (c ∷ cs) ds p q = (p.0, both_there m cs ds p.1 q)

and_true : (a b : Bool) → not (Rattle.std.proofs.Common.◌&&◌ a b) ≡ false → (a ≡ true) × (b ≡ true)
and_true true true e = (refl, refl)
and_true true false e = absurd (cc)
and_true false b e = absurd (cc)

-- ---- The effect

module _ (s : State) (key : KeyParts) (free : fin.get s.requests (key_name key) ≡ None) (sound : Sound s) where
  -- no exceedance has a free key
  fresh : (at : ExceedanceAt s.exceedances) → at.key ≡ key → ⊥
  fresh at same =
      let x = sound.exceedances (exceedance_name at.key at.crew at.section) at.named at.there in
      let keys = names_same at.key x.key at.crew x.crew at.section x.section x.known_by in
      let no : None ≡ Some x.request = sym free ∙ ap (λ k. fin.get s.requests (key_name k)) (sym same ∙ keys.0) ∙ x.held in
      cc

  effect_rows : (instruction : Instruction) → IsMade instruction → Passed (refusals s instruction) → (old mid : Database) → IsFit old → Rows s old →
      WritesInstruction (change_of s key instruction) instruction old mid → Rows (effect s (change_of s key instruction) instruction) mid
  unfolding refusals
  effect_rows (AddBase id zone) made passed old mid fit rows is = base_added s id zone old mid (absent _ passed.0) sound.has_home fit rows is
  effect_rows (AddCrew who m) made passed old mid fit rows is = member_added s who m old mid (absent _ passed.0) fit rows is
  effect_rows (AddPairing plan) made passed old mid fit rows is = plan_added s plan (absent _ passed.0) old mid fit rows is
  effect_rows (CancelPairing id) made passed old mid fit rows is =
      pairing_removed s id (λ r there. subst (λ o. option_map_or is_crewed o false ≡ false) there passed.1.0) old mid fit rows is
  effect_rows (Assign id who) made passed old mid fit rows is =
      let r = is_there (fin.get s.pairings id) (not-false _ passed.1.0) in
      (all_reseated 0 s (seat_change s id who (Some who)) (seats_there s id who (Some who) r.0 r.1) old mid fit rows is).1
  effect_rows (Release id who) made passed old mid fit rows is =
      let r = is_there (fin.get s.pairings id) (not-false _ passed.1.0) in
      (all_reseated 0 s (seat_change s id who None) (seats_there s id who None r.0 r.1) old mid fit rows is).1
  effect_rows (Swap w) made passed old mid fit rows is =
      let both = and_true _ _ passed.1.0 in
      let r = is_there (fin.get s.pairings w.pairing) both.0 in
      let q = is_there (fin.get s.pairings w.other_pairing) both.1 in
      let first = seat_change s w.pairing w.crew (Some w.other_crew) in
      let second = seat_change s w.other_pairing w.other_crew (Some w.crew) in
      (all_reseated 0 s (first ++ second) (both_there s.pairings first second (seats_there s w.pairing w.crew (Some w.other_crew) r.0 r.1)
      (seats_there s w.other_pairing w.other_crew (Some w.crew) q.0 q.1)) old mid fit rows is).1
  effect_rows (AddGround g) made passed old mid fit rows is = ground_duty_added s g old mid (absent _ passed.1.1.1.0) fit rows is
  effect_rows (CancelGround id) made passed old mid fit rows is = ground_removed s id old mid fit rows is
  effect_rows (Actual id a) made passed old mid fit rows is =
      let f = found s id a passed in
      let positive = made.1.0 in
      let within : a.period - 1 < length f.entry.actuals =
      let places = (sound.pairings id f.entry f.there).places in
      let planned = get_within f.entry.plan.periods (a.period - 1) f.fdp f.planned in
      omega (arith, places, planned) in
      actual_flown s id a f.entry f.there (a.period - 1) (omega (arith, positive)) f.fdp f.planned f.count within
      key (recorded_by s (Actual id a)) fresh old mid fit rows is
  effect_rows (RecordOutside who o) made passed old mid fit rows is = outside_recorded s who o key (recorded_by s (RecordOutside who o)) fresh old mid fit rows is

-- it leaves the requests
requests_stay : (s : State) (change : Change) (instruction : Instruction) → (effect s change instruction).requests ≡ s.requests
requests_stay s change (AddBase id zone) = refl
requests_stay s change (AddCrew who m) = refl
requests_stay s change (AddPairing plan) = refl
requests_stay s change (CancelPairing id) = refl
requests_stay s change (Assign id who) = refl
requests_stay s change (Release id who) = refl
requests_stay s change (Swap w) = refl
requests_stay s change (AddGround g) = refl
requests_stay s change (CancelGround id) = refl
requests_stay s change (Actual id a) = refl
requests_stay s change (RecordOutside who o) = refl

-- ---- All of it

pub written : (s : State) (change : Change) → IsAcceptedChange s change → IsMade change.command → (old new : Database) → IsFit old → Rows s old → Writes change old new → Rows (after s change) new
unfolding after
written s change next =
    let it = accepted s next.key next.instruction change next.reply next.accepted in
    subst (λ c. IsMade c.command → (old new : Database) → IsFit old → Rows s old → Writes c old new → Rows (after s c) new) (sym it.is)
    (λ made old new fit rows is.
    let c = change_of s next.key next.instruction in
    let mid = effect_rows s next.key it.free next.sound next.instruction made it.passes old is.0 fit rows is.1.0 in
    request_added (effect s c next.instruction) next.key (record { command = next.instruction; reply = c.reply }) is.0 new
    (ap (λ m. fin.get m (key_name next.key)) (requests_stay s c next.instruction) ∙ it.free) is.1.1 mid is.2)
