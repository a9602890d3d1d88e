-- The parts of a state stay of their types after each accepted command.
use Rattle.std.proofs.Common.{◌≡◌, ◌&&◌, ◌∙◌, ◌-◌, inl, inr, refl, sym, ap, subst, ℕ, zero, suc, true, List, [], ◌∷◌, map, Contains, Option, Some, None, IsUtf8, slice_get}
use Rattle.std.specs.FinMap as fin
use Rattle.std.specs.List.{fold, list_all}
use Rattle.std.proofs.lemmas.Bool.{and_parts}
use Rattle.values.specs.Name.{name_cmp}
use Rattle.time117.specs.Local.{is_zone_text}
use Rattle.duty.specs.Plans.{ActualTimes, GroundPlan, Plan}
use Rattle.duty.specs.Shape.{home, is_id, is_plain_text}
use Rattle.duty.specs.Words.{unless}
use Rattle.duty.specs.declared.fault.DutyFault.TheVariants.{BadField}
use Rattle.duty.specs.declared.fault.Field.TheVariants as field
use Rattle.command.specs.Instructions.{IsMade, instruction_fault}
use Rattle.command.specs.Keys.{KeyParts, key_name}
use Rattle.command.specs.declared.exceedance.Exceedance.{Exceedance}
use Rattle.command.specs.declared.exceedance.Reply.{Reply}
use Rattle.command.specs.declared.instruction.Instruction.{Instruction}
use Rattle.command.specs.declared.instruction.Instruction.TheVariants.{AddBase, AddCrew, AddPairing, CancelPairing, Assign, Release, Swap, AddGround, CancelGround, Actual, RecordOutside}
use Rattle.command.specs.declared.member.Member.{Member}
use Rattle.command.specs.declared.member.Seat.{Seat}
use Rattle.command.specs.declared.member.Seat.TheVariants.{Captain, FirstOfficer}
use Rattle.stored_json.specs.Instants.{is_instant, period_has_instants, times_have_instants}
use Rattle.stored_json.specs.Laws.{IsCommand}
use Rattle.roster.proofs.Accepted.{accepted, changed, inserted, removed}
use Rattle.roster.proofs.Members.{none_in}
use Rattle.roster.proofs.Recording.{is_recorded}
use Rattle.roster.proofs.Records.{names_same}
use Rattle.roster.proofs.Requests.{after_requests, request_of}
use Rattle.roster.proofs.Sound.{keeps_sound}
use Rattle.roster.proofs.Sound.Flown.{set_cases}
use Rattle.roster.specs.Pairings.{unheld, with_holder}
use Rattle.roster.specs.Sound.{Sound}
use Rattle.roster.specs.State.{State, empty, exceedance_name}
use Rattle.roster.specs.Steps.{after, change_of, effect, recorded_by, reseated, step_of, with_actual}
use Rattle.roster.specs.declared.change.Change.{Change}
use Rattle.roster.specs.declared.change.SeatChange.{SeatChange}
use Rattle.roster.specs.declared.change.Verdict.TheVariants.{Accept}
use Rattle.roster.specs.declared.state.DutyId.{DutyId}
use Rattle.roster.specs.declared.state.DutyId.TheVariants as duty_id
use Rattle.roster.specs.declared.state.LoggedCommand.{LoggedCommand}
use Rattle.roster.specs.declared.state.OutsideEntry.{OutsideEntry}
use Rattle.roster.specs.declared.state.PairingEntry.{PairingEntry}
use Rattle.entries.specs.Right.{AreMembers, HasInstantTimes, IsMember, IsRequest}
use Rattle.store.proofs.Faultless.{first_passes, passes}
use Rattle.store.proofs.Utf8Texts.{kept_utf8, reply_utf8}
use Rattle.store.specs.Typed.{HasTypedParts, HasUtf8, IsTypedBase, IsTypedChange, IsTypedGround, IsTypedOutside, IsTypedPairing}

-- ---- Bases, members, ground duties and outside periods

bases_stay : (s : State) (change : Change) (instruction : Instruction) → IsMade instruction → HasTypedParts s →
    (id zone : List ℕ) → fin.get (effect s change instruction).bases id ≡ Some zone → IsTypedBase id zone
unfolding instruction_fault
bases_stay s change (AddBase k rule) made typed id zone e = elim (inserted s.bases k rule id zone e) [
  | inl new ↦ record {
    id_shape = subst (λ x. is_id x ≡ true) (sym new.0) (passes (is_id k) (BadField field.Base) made.0);
    rule = subst (λ x. is_zone_text x ≡ true) new.1 made.1;
  }
  | inr old ↦ typed.bases id zone old.1
]
bases_stay s change (AddCrew who member) made typed id zone e = typed.bases id zone e
bases_stay s change (AddPairing plan) made typed id zone e = typed.bases id zone e
bases_stay s change (CancelPairing k) made typed id zone e = typed.bases id zone e
bases_stay s change (Assign k who) made typed id zone e = typed.bases id zone e
bases_stay s change (Release k who) made typed id zone e = typed.bases id zone e
bases_stay s change (Swap w) made typed id zone e = typed.bases id zone e
bases_stay s change (AddGround g) made typed id zone e = typed.bases id zone e
bases_stay s change (CancelGround k) made typed id zone e = typed.bases id zone e
bases_stay s change (Actual k a) made typed id zone e = typed.bases id zone e
bases_stay s change (RecordOutside who o) made typed id zone e = typed.bases id zone e

new_member : (who : List ℕ) (member : Member) → IsMade (AddCrew who member) → IsUtf8 member.name → IsMember who member
unfolding instruction_fault
new_member who member made utf8 =
    let first = first_passes (is_id who) (BadField field.Crew) (unless (is_plain_text member.name) (BadField field.Name) ∷ unless (is_id member.base) (BadField field.Base) ∷ []) made.0 in
    let second = first_passes (is_plain_text member.name) (BadField field.Name) (unless (is_id member.base) (BadField field.Base) ∷ []) first.1 in
    record { id_shape = first.0; name_shape = second.0; utf8 = utf8 }

members_stay : (s : State) (change : Change) (instruction : Instruction) → IsMade instruction → HasUtf8 instruction → HasTypedParts s →
    AreMembers (effect s change instruction)
members_stay s change (AddBase k rule) made utf8 typed id m e = typed.members id m e
members_stay s change (AddCrew who member) made utf8 typed id m e = elim (inserted s.crew who member id m e) [
  | inl new ↦ subst (λ x. IsMember x m) (sym new.0) (subst (IsMember who) new.1 (new_member who member made utf8))
  | inr old ↦ typed.members id m old.1
]
members_stay s change (AddPairing plan) made utf8 typed id m e = typed.members id m e
members_stay s change (CancelPairing k) made utf8 typed id m e = typed.members id m e
members_stay s change (Assign k who) made utf8 typed id m e = typed.members id m e
members_stay s change (Release k who) made utf8 typed id m e = typed.members id m e
members_stay s change (Swap w) made utf8 typed id m e = typed.members id m e
members_stay s change (AddGround g) made utf8 typed id m e = typed.members id m e
members_stay s change (CancelGround k) made utf8 typed id m e = typed.members id m e
members_stay s change (Actual k a) made utf8 typed id m e = typed.members id m e
members_stay s change (RecordOutside who o) made utf8 typed id m e = typed.members id m e

grounds_stay : (s : State) (change : Change) (instruction : Instruction) → IsCommand instruction → HasUtf8 instruction → HasTypedParts s →
    (id : List ℕ) (g : GroundPlan) → fin.get (effect s change instruction).grounds id ≡ Some g → IsTypedGround g
unfolding instruction_fault
grounds_stay s change (AddBase k rule) is utf8 typed id g e = typed.grounds id g e
grounds_stay s change (AddCrew who member) is utf8 typed id g e = typed.grounds id g e
grounds_stay s change (AddPairing plan) is utf8 typed id g e = typed.grounds id g e
grounds_stay s change (CancelPairing k) is utf8 typed id g e = typed.grounds id g e
grounds_stay s change (Assign k who) is utf8 typed id g e = typed.grounds id g e
grounds_stay s change (Release k who) is utf8 typed id g e = typed.grounds id g e
grounds_stay s change (Swap w) is utf8 typed id g e = typed.grounds id g e
grounds_stay s change (AddGround d) is utf8 typed id g e = elim (inserted s.grounds d.id d id g e) [
  | inl new ↦
      let times = and_parts (is_instant d.begin) (is_instant d.end) is.1 in
      subst IsTypedGround new.1 (record { made = is.0.0; begin = times.0; end = times.1; utf8 = utf8 })
  | inr old ↦ typed.grounds id g old.1
]
grounds_stay s change (CancelGround k) is utf8 typed id g e = typed.grounds id g (removed s.grounds k id g e).1
grounds_stay s change (Actual k a) is utf8 typed id g e = typed.grounds id g e
grounds_stay s change (RecordOutside who o) is utf8 typed id g e = typed.grounds id g e

outsides_stay : (s : State) (change : Change) (instruction : Instruction) → IsCommand instruction → HasTypedParts s →
    (id : List ℕ) (o : OutsideEntry) → fin.get (effect s change instruction).outsides id ≡ Some o → IsTypedOutside o.period
outsides_stay s change (AddBase k rule) is typed id o e = typed.outsides id o e
outsides_stay s change (AddCrew who member) is typed id o e = typed.outsides id o e
outsides_stay s change (AddPairing plan) is typed id o e = typed.outsides id o e
outsides_stay s change (CancelPairing k) is typed id o e = typed.outsides id o e
outsides_stay s change (Assign k who) is typed id o e = typed.outsides id o e
outsides_stay s change (Release k who) is typed id o e = typed.outsides id o e
outsides_stay s change (Swap w) is typed id o e = typed.outsides id o e
outsides_stay s change (AddGround d) is typed id o e = typed.outsides id o e
outsides_stay s change (CancelGround k) is typed id o e = typed.outsides id o e
outsides_stay s change (Actual k a) is typed id o e = typed.outsides id o e
outsides_stay s change (RecordOutside who p) is typed id o e =
    let entry : OutsideEntry = record { crew = who; period = p } in
    elim (inserted s.outsides p.id entry id o e) [
      | inl new ↦
          let all = and_parts (is_instant p.report && is_instant p.release) (list_all times_have_instants p.segments) is.1 in
          let ends = and_parts (is_instant p.report) (is_instant p.release) all.0 in
          subst (λ (x : OutsideEntry). IsTypedOutside x.period) new.1 (record { report = ends.0; release = ends.1; segments = all.1 })
      | inr old ↦ typed.outsides id o old.1
    ]

-- ---- Pairings

abbrev AreTypedPairings : fin.FinMap name_cmp PairingEntry → Type 0
AreTypedPairings pairings = (id : List ℕ) (r : PairingEntry) → fin.get pairings id ≡ Some r → IsTypedPairing r

no_actual : {A X : Type 0} (xs : List A) (i : ℕ) (x : X) → slice_get (map {B = Option X} (λ _. None) xs) i ≡ Some (Some x) → ⊥
no_actual [] i x e = cc
no_actual (y ∷ xs) zero x e = cc
no_actual (y ∷ xs) (suc i) x e = no_actual xs i x e

new_pairing : (plan : Plan) → list_all period_has_instants plan.periods ≡ true → IsTypedPairing (unheld plan)
new_pairing plan instants = record { planned = instants; flown = λ i a no. absurd (no_actual plan.periods i a no) }

reseat : (seat : Seat) (who : Option (List ℕ)) (r : PairingEntry) → IsTypedPairing r → IsTypedPairing (with_holder seat who r)
reseat Captain who r is = record { planned = is.planned; flown = is.flown }
reseat FirstOfficer who r is = record { planned = is.planned; flown = is.flown }

reseat_all : (pairings : fin.FinMap name_cmp PairingEntry) (seats : List SeatChange) → AreTypedPairings pairings → AreTypedPairings (fold reseated pairings seats)
reseat_all pairings [] typed = typed
reseat_all pairings (it ∷ rest) typed = reseat_all (reseated pairings it) rest (λ id r e.
    elim (changed pairings it.pairing (with_holder it.seat it.holder) id r e) [
      | inl new ↦ subst IsTypedPairing new.3 (reseat it.seat it.holder new.1 (typed it.pairing new.1 new.2))
      | inr old ↦ typed id r old.1
    ])

fly : (a : ActualTimes) (r : PairingEntry) → HasInstantTimes a → IsTypedPairing r → IsTypedPairing (with_actual a r)
fly a r times is = record {
  planned = is.planned;
  flown = λ i b got. elim (set_cases r.actuals (a.period - 1) (Some a) i (Some b) got) [
    | inl new ↦ subst HasInstantTimes (let e = new.1 in let same : a ≡ b = cc in same) times
    | inr old ↦ is.flown i b old
  ];
}

pairings_stay : (s : State) (change : Change) (instruction : Instruction) → IsCommand instruction → HasTypedParts s →
    AreTypedPairings (effect s change instruction).pairings
pairings_stay s change (AddBase k rule) is typed = typed.pairings
pairings_stay s change (AddCrew who member) is typed = typed.pairings
pairings_stay s change (AddPairing plan) is typed = λ id r e. elim (inserted s.pairings plan.id (unheld plan) id r e) [
  | inl new ↦ subst IsTypedPairing new.1 (new_pairing plan is.1)
  | inr old ↦ typed.pairings id r old.1
]
pairings_stay s change (CancelPairing k) is typed = λ id r e. typed.pairings id r (removed s.pairings k id r e).1
pairings_stay s change (Assign k who) is typed = reseat_all s.pairings change.seats typed.pairings
pairings_stay s change (Release k who) is typed = reseat_all s.pairings change.seats typed.pairings
pairings_stay s change (Swap w) is typed = reseat_all s.pairings change.seats typed.pairings
pairings_stay s change (AddGround g) is typed = typed.pairings
pairings_stay s change (CancelGround k) is typed = typed.pairings
pairings_stay s change (Actual k a) is typed = λ id r e. elim (changed s.pairings k (with_actual a) id r e) [
  | inl new ↦
      let all = and_parts (is_instant a.report && is_instant a.release) (list_all times_have_instants a.segments) is.1 in
      let ends = and_parts (is_instant a.report) (is_instant a.release) all.0 in
      subst IsTypedPairing new.3 (fly a new.1 (ends.0, ends.1, all.1) (typed.pairings k new.1 new.2))
  | inr old ↦ typed.pairings id r old.1
]
pairings_stay s change (RecordOutside who o) is typed = typed.pairings

-- ---- Kept commands

-- whoever exceeds a limit by the command is a member
told_of : (s : State) (key : KeyParts) (instruction : Instruction) → AreMembers s → Sound (after s (change_of s key instruction)) →
    (e : Exceedance) → Contains (recorded_by s instruction) e → is_id e.crew ≡ true
unfolding after recorded_by
told_of s key (AddBase id zone) members sound e c = absurd (none_in e c)
told_of s key (AddCrew who member) members sound e c = absurd (none_in e c)
told_of s key (AddPairing plan) members sound e c = absurd (none_in e c)
told_of s key (CancelPairing id) members sound e c = absurd (none_in e c)
told_of s key (Assign id who) members sound e c = absurd (none_in e c)
told_of s key (Release id who) members sound e c = absurd (none_in e c)
told_of s key (Swap w) members sound e c = absurd (none_in e c)
told_of s key (AddGround g) members sound e c = absurd (none_in e c)
told_of s key (CancelGround id) members sound e c = absurd (none_in e c)
told_of s key (Actual id a) members sound e c =
    let named : DutyId = duty_id.Period (record { pairing = id; number = a.period }) in
    let x = sound.exceedances (exceedance_name key e.crew e.section) named (is_recorded key named (recorded_by s (Actual id a)) s.exceedances e c) in
    let same = names_same key x.key e.crew x.crew e.section x.section x.known_by in
    subst (λ who. is_id who ≡ true) (sym same.1) (members x.crew x.member x.of_member).id_shape
told_of s key (RecordOutside who o) members sound e c =
    let named : DutyId = duty_id.Outside o.id in
    let x = sound.exceedances (exceedance_name key e.crew e.section) named (is_recorded key named (recorded_by s (RecordOutside who o)) s.exceedances e c) in
    let same = names_same key x.key e.crew x.crew e.section x.section x.known_by in
    subst (λ who. is_id who ≡ true) (sym same.1) (members x.crew x.member x.of_member).id_shape

module _ (s : State) (key : KeyParts) (instruction : Instruction) (change : Change) (reply : Reply) (new : IsTypedChange change) (sound : Sound s) (typed : HasTypedParts s)
    (step : step_of s key instruction ≡ Accept change reply) where
  is : change ≡ change_of s key instruction
  is = (accepted s key instruction change reply step).is

  made : IsMade instruction
  made = subst IsMade (ap (λ (c : Change). c.command) is) new.command.0

  shapes : (e : Exceedance) → Contains change.reply.exceedances e → is_id e.crew ≡ true
  shapes = subst (λ (c : Change). (e : Exceedance) → Contains c.reply.exceedances e → is_id e.crew ≡ true) (sym is)
      (told_of s key instruction typed.members (subst (λ (c : Change). Sound (after s c)) is (keeps_sound s key instruction change reply made sound step)))

  requests_stay : (name : List ℕ) (r : LoggedCommand) → fin.get (after s change).requests name ≡ Some r → (k : KeyParts) × (name ≡ key_name k) × IsRequest k r
  requests_stay name r e =
      let now = ap (λ m. fin.get m name) (sym (after_requests s change)) ∙ e in
      elim (inserted s.requests (key_name change.key) (request_of change) name r now) [
        | inl it ↦ (
          change.key,
          it.0,
          subst (IsRequest change.key) it.1 (record {
            is_key = new.key;
            command = new.command;
            utf8 = (kept_utf8 change.command new.command new.utf8, reply_utf8 change.reply shapes);
          }),
        )
        | inr old ↦ typed.requests name r old.1
      ]

  pub stays_typed : HasTypedParts (after s change)
  unfolding after
  stays_typed = record {
    bases = bases_stay s change change.command new.command.0 typed;
    members = members_stay s change change.command new.command.0 new.utf8 typed;
    pairings = pairings_stay s change change.command new.command typed;
    grounds = grounds_stay s change change.command new.command new.utf8 typed;
    outsides = outsides_stay s change change.command new.command typed;
    requests = requests_stay;
  }

-- ---- The empty book

not_there : {X : Type 0} (name : List ℕ) (x : X) → fin.get (fin.empty {X = X} {R = name_cmp}) name ≡ Some x → ⊥
not_there name x there = let none : None ≡ Some x = sym (fin.get-empty name_cmp name) ∙ there in cc

pub starts_typed : (zone : List ℕ) → is_zone_text zone ≡ true → HasTypedParts (empty zone)
starts_typed zone rule = record {
  bases = λ id z e. elim (inserted fin.empty home zone id z e) [
    | inl new ↦ record {
      id_shape = subst (λ x. is_id x ≡ true) (sym new.0) refl;
      rule = subst (λ x. is_zone_text x ≡ true) new.1 rule;
    }
    | inr old ↦ absurd (not_there id z old.1)
  ];
  members = λ id m e. absurd (not_there id m e);
  pairings = λ id r e. absurd (not_there id r e);
  grounds = λ id g e. absurd (not_there id g e);
  outsides = λ id o e. absurd (not_there id o e);
  requests = λ name r e. absurd (not_there name r e);
}
