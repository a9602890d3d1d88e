-- The table `seat`: what its records say, and when it is right.
use Rattle.std.proofs.Common.{◌≡◌, ◌⊎◌, ◌↔◌, inl, inr, refl, sym, ap, subst, ◌∙◌, ℕ, true, false, not, Bool, ◌&&◌, ◌||◌, List, [], ◌∷◌, map, take, cond, slice_get, ◌+◌, length, Option, Some, None}
use Rattle.std.specs.FinMap as fin
use Rattle.std.specs.List.{list_all}
use Rattle.std.specs.Option.{option_map}
use Rattle.std.specs.Ordering.{eq_by_cmp}
use Rattle.std.specs.Prelude.{is_some}
use Rattle.std.proofs.lemmas.Bool.{cases_Bool}
use Rattle.values.proofs.Names as names
use Rattle.values.proofs.Names.{alike, get-changed_at}
use Rattle.values.specs.Name.{name_cmp, changed_at, named_rows}
use Rattle.sqlite_value.specs.Order.{Row, column}
use Rattle.sqlite_rules.specs.Lists.{Has}
use Rattle.command.specs.declared.member.Member.{Member}
use Rattle.command.specs.declared.member.Seat.{Seat}
use Rattle.command.specs.declared.member.Seat.TheVariants.{Captain, FirstOfficer}
use Rattle.roster.specs.Pairings.{holder, with_holder, is_flown, is_fully_crewed}
use Rattle.roster.specs.Sound.{Members, IsHolder}
use Rattle.roster.specs.State.{State}
use Rattle.roster.specs.declared.state.PairingEntry.{PairingEntry}
use Rattle.tables.specs.Records.{seat_row}
use Rattle.tables.specs.declared.seat.SeatRecord.{SeatRecord}
use Rattle.state_rows.proofs.Lists.{one_value, some_same}
use Rattle.entries.proofs.Entries.{values_pass}
use Rattle.entries.proofs.Mapping.{mapped_at, mapped_place, of_appended, in_appended, of_taken, take_next, has_at}
use Rattle.loading.proofs.ReadCrew.{seat_known, number_known}
use Rattle.state_rows.proofs.Values.{text_is, number_is}
use Rattle.loading.specs.Reading.{seat_of, SeatIndex, SeatsRead, IsSeatHeldBy, IsSamePlan, AreCrewed, HaveNoHolders, AreUnseated, row_of_held}
use Rattle.entries.specs.Mapping.{AreOnce, TellsOf, HasStranger}
use Rattle.entries.specs.Faults.{Blames}
use Rattle.state_rows.specs.Rows.{InSeat, row_of_seat}
use Rattle.entries.specs.declared.fault.LoadFault.{LoadFault}
use Rattle.entries.specs.declared.fault.LoadFault.TheVariants.{NotABook, Version, Damaged, Fault}
use Rattle.entries.specs.declared.fault.TableName.TheVariants as table_name
use Rattle.loading.specs.declared.read_seats.TakenSeat.{TakenSeat}

-- ---- One record

module _ (members : Members) (pairings : fin.FinMap name_cmp PairingEntry) (it : SeatRecord) where
  abbrev Tells : Option TakenSeat → Type 0
  Tells = TellsOf (λ at who held. (held.pairing ≡ at.pairing) × (held.taken.seat ≡ at.seat) × (held.taken.crew ≡ who)) row_of_held (IsSeatHeldBy members pairings) (seat_row it)

  same_seat : (at : SeatIndex) (who : List ℕ) → seat_row it ≡ row_of_held at who → seat_of it.seat ≡ Some at.seat
  same_seat at who e = ap seat_of (number_is (ap (λ (row : Row). column row 1) e)) ∙ seat_known at.seat

  pub no_seat : seat_of it.seat ≡ None → Tells None
  no_seat none at who e is = absurd (let f = sym none ∙ same_seat at who e in cc)

  pub no_pairing : fin.contains_key pairings it.pairing ≡ false → Tells None
  no_pairing none at who e is =
      let there : fin.get pairings it.pairing ≡ Some is.entry = ap (fin.get pairings) (text_is (ap (λ (row : Row). column row 0) e)) ∙ is.of_pairing in
      absurd (let f = sym none ∙ ap is_some there in cc)

  pub no_holder : (seat : Seat) → seat_of it.seat ≡ Some seat → ((m : Member) × (fin.get members it.crew ≡ Some m) × (m.seat ≡ seat) → ⊥) → Tells None
  no_holder seat is_seat none at who e is =
      let kind : at.seat ≡ seat = some_same (sym (same_seat at who e) ∙ is_seat) in
      none (is.member, ap (fin.get members) (text_is (ap (λ (row : Row). column row 2) e)) ∙ is.of_member, is.of_kind ∙ kind)

  pairing_there : (o : Option PairingEntry) → is_some o ≡ true → (r : PairingEntry) × (o ≡ Some r)
  pairing_there None e = absurd (cc)
  pairing_there (Some r) e = (r, refl)

  pub tells : (pairing who : List ℕ) (seat : Seat) → pairing ≡ it.pairing → who ≡ it.crew → seat_of it.seat ≡ Some seat → fin.contains_key pairings pairing ≡ true →
      (m : Member) × (fin.get members who ≡ Some m) × (m.seat ≡ seat) → Tells (Some (record { pairing = pairing; taken = record { seat = seat; crew = who } }))
  tells pairing who seat is_pairing is_crew is_seat known m =
      let r = pairing_there (fin.get pairings pairing) known in (
        record { pairing = pairing; seat = seat },
        who,
        (refl, refl, refl),
        (λ i. seat_row (record { pairing = sym is_pairing i; seat = number_known it.seat seat is_seat i; crew = sym is_crew i })),
        record { entry = r.0; of_pairing = r.1; member = m.0; of_member = m.1; of_kind = m.2 },
      )

-- ---- A seat is taken

seats_alike : (a b : Seat) → (a ≡ b) ⊎ (a ≡ b → ⊥)
seats_alike Captain Captain = inl refl
seats_alike Captain FirstOfficer = inr (λ e. absurd (cc))
seats_alike FirstOfficer Captain = inr (λ e. absurd (cc))
seats_alike FirstOfficer FirstOfficer = inl refl

taken_here : (seat : Seat) (w : Option (List ℕ)) (r : PairingEntry) → holder seat (with_holder seat w r) ≡ w
taken_here Captain w r = refl
taken_here FirstOfficer w r = refl

taken_beside : (seat other : Seat) (w : Option (List ℕ)) (r : PairingEntry) → (seat ≡ other → ⊥) → holder other (with_holder seat w r) ≡ holder other r
taken_beside Captain Captain w r apart = absurd (apart refl)
taken_beside Captain FirstOfficer w r apart = refl
taken_beside FirstOfficer Captain w r apart = refl
taken_beside FirstOfficer FirstOfficer w r apart = absurd (apart refl)

plan_stays : (seat : Seat) (w : Option (List ℕ)) (r : PairingEntry) → ((with_holder seat w r).plan ≡ r.plan) × ((with_holder seat w r).actuals ≡ r.actuals)
plan_stays Captain w r = (refl, refl)
plan_stays FirstOfficer w r = (refl, refl)

pub plan_itself : (o : Option PairingEntry) → IsSamePlan o o
plan_itself None = tt
plan_itself (Some r) = (refl, refl)

plan_taken : (o : Option PairingEntry) (r : PairingEntry) (seat : Seat) (w : Option (List ℕ)) → IsSamePlan o (Some r) → IsSamePlan o (Some (with_holder seat w r))
plan_taken None r seat w same = same
plan_taken (Some q) r seat w same = let stays = plan_stays seat w r in (stays.0 ∙ same.0, stays.1 ∙ same.1)

module _ (t : State) (at : SeatIndex) (who : List ℕ) (r : PairingEntry) (there : fin.get t.pairings at.pairing ≡ Some r) where
  abbrev with : PairingEntry → PairingEntry
  with = with_holder at.seat (Some who)

  abbrev pub taken : State
  taken = record t { pairings = changed_at t.pairings at.pairing (with_holder at.seat (Some who)) }

  get_taken : (q : List ℕ) → fin.get taken.pairings q ≡ cond (eq_by_cmp name_cmp q at.pairing) (Some (with r)) (fin.get t.pairings q)
  get_taken q = get-changed_at t.pairings at.pairing with q ∙ ap (λ o. cond (eq_by_cmp name_cmp q at.pairing) (option_map with o) (fin.get t.pairings q)) there

  here : fin.get taken.pairings at.pairing ≡ Some (with r)
  here = get_taken at.pairing ∙ ap (λ b. cond b (Some (with r)) (fin.get t.pairings at.pairing)) (names.itself at.pairing at.pairing refl)

  elsewhere : (q : List ℕ) → eq_by_cmp name_cmp q at.pairing ≡ false → fin.get taken.pairings q ≡ fin.get t.pairings q
  elsewhere q apart = get_taken q ∙ ap (λ b. cond b (Some (with r)) (fin.get t.pairings q)) apart

  new_row : InSeat taken (row_of_held at who)
  new_row = (record { name = at.pairing; value = with r; there = here }, record { seat = at.seat; crew = who; held = taken_here at.seat (Some who) r }, refl)

  -- a row that was there stands for the new holder, or for one who stays
  old_row : (rows : List Row) → AreOnce row_of_held rows → Has rows (row_of_held at who) → (row : Row) → Has rows row → InSeat t row → InSeat taken row
  old_row rows once new_here row row_here x = elim (cases_Bool (eq_by_cmp name_cmp x.0.name at.pairing)) [
    | inl tied ↦
        let n : x.0.name ≡ at.pairing = alike _ _ tied in
        let value : x.0.value ≡ r = one_value x.0.there (ap (fin.get t.pairings) n ∙ there) in
        elim (seats_alike at.seat x.1.seat) [
          | inl same ↦
              let told : row ≡ row_of_held at x.1.crew = x.2 ∙ (λ i. row_of_seat (n i) (sym same i) x.1.crew) in
              subst (InSeat taken) (sym (told ∙ once at x.1.crew who (subst (Has rows) told row_here) new_here)) new_row
          | inr apart ↦ (
            record { name = at.pairing; value = with r; there = here },
            record { seat = x.1.seat; crew = x.1.crew; held = taken_beside at.seat x.1.seat (Some who) r apart ∙ ap (holder x.1.seat) (sym value) ∙ x.1.held },
            x.2 ∙ ap (λ q. row_of_seat q x.1.seat x.1.crew) n,
          )
        ]
    | inr apart ↦ (record { name = x.0.name; value = x.0.value; there = elsewhere x.0.name apart ∙ x.0.there }, x.1, x.2)
  ]

  -- and a row now is the new one, or was there
  of_taken_row : (row : Row) → InSeat taken row → (row ≡ row_of_held at who) ⊎ InSeat t row
  of_taken_row row x = elim (cases_Bool (eq_by_cmp name_cmp x.0.name at.pairing)) [
    | inl tied ↦
        let n : x.0.name ≡ at.pairing = alike _ _ tied in
        let value : x.0.value ≡ with r = one_value x.0.there (ap (fin.get taken.pairings) n ∙ here) in
        let held : holder x.1.seat (with r) ≡ Some x.1.crew = ap (holder x.1.seat) (sym value) ∙ x.1.held in
        elim (seats_alike at.seat x.1.seat) [
          | inl same ↦
              let crew : x.1.crew ≡ who = some_same (sym held ∙ ap (λ s. holder s (with r)) (sym same) ∙ taken_here at.seat (Some who) r) in
              inl (x.2 ∙ (λ i. row_of_seat (n i) (sym same i) (crew i)))
          | inr apart ↦ inr (
            record { name = at.pairing; value = r; there = there },
            record { seat = x.1.seat; crew = x.1.crew; held = sym (taken_beside at.seat x.1.seat (Some who) r apart) ∙ held },
            x.2 ∙ ap (λ q. row_of_seat q x.1.seat x.1.crew) n,
          )
        ]
    | inr apart ↦ inr (record { name = x.0.name; value = x.0.value; there = sym (elsewhere x.0.name apart) ∙ x.0.there }, x.1, x.2)
  ]

  kinds : (members : Members) (m : Member) → fin.get members who ≡ Some m → m.seat ≡ at.seat →
      ((id : List ℕ) (q : PairingEntry) (seat : Seat) → fin.get t.pairings id ≡ Some q → IsHolder members seat (holder seat q)) →
      (id : List ℕ) (q : PairingEntry) (seat : Seat) → fin.get taken.pairings id ≡ Some q → IsHolder members seat (holder seat q)
  kinds members m is_member of_kind known id q seat found w held = elim (cases_Bool (eq_by_cmp name_cmp id at.pairing)) [
    | inl tied ↦
        let value : q ≡ with r = one_value found (ap (fin.get taken.pairings) (alike _ _ tied) ∙ here) in
        let is : holder seat (with r) ≡ Some w = ap (holder seat) (sym value) ∙ held in
        elim (seats_alike at.seat seat) [
          | inl same ↦
              let crew : w ≡ who = some_same (sym is ∙ ap (λ s. holder s (with r)) (sym same) ∙ taken_here at.seat (Some who) r) in
              (m, ap (fin.get members) crew ∙ is_member, of_kind ∙ same)
          | inr apart ↦ known at.pairing r seat there w (sym (taken_beside at.seat seat (Some who) r apart) ∙ is)
        ]
    | inr apart ↦ known id q seat (sym (elsewhere id apart) ∙ found) w held
  ]

  plans : (m : fin.FinMap name_cmp PairingEntry) → ((id : List ℕ) → IsSamePlan (fin.get m id) (fin.get t.pairings id)) → (id : List ℕ) → IsSamePlan (fin.get m id) (fin.get taken.pairings id)
  plans m planned id = elim (cases_Bool (eq_by_cmp name_cmp id at.pairing)) [
    | inl tied ↦
        let n : id ≡ at.pairing = alike _ _ tied in
        subst (λ q. IsSamePlan (fin.get m q) (fin.get taken.pairings q)) (sym n) (subst (IsSamePlan (fin.get m at.pairing)) (sym here)
        (plan_taken (fin.get m at.pairing) r at.seat (Some who) (subst (IsSamePlan (fin.get m at.pairing)) there (planned at.pairing))))
    | inr apart ↦ subst (IsSamePlan (fin.get m id)) (sym (elsewhere id apart)) (planned id)
  ]

-- ---- Records in turn

no_holder_yet : (r : PairingEntry) → (r.captain ≡ None) × (r.first_officer ≡ None) → (seat : Seat) (who : List ℕ) → holder seat r ≡ Some who → ⊥
no_holder_yet r free Captain who held = absurd (let e = sym free.0 ∙ held in cc)
no_holder_yet r free FirstOfficer who held = absurd (let e = sym free.1 ∙ held in cc)

pub none_read : (records : List SeatRecord) (s : State) → HaveNoHolders s → SeatsRead records 0 s s
none_read records s free = record {
  same = refl;
  planned = λ id. plan_itself (fin.get s.pairings id);
  rows = λ once row. (λ h. absurd h, λ x. absurd (no_holder_yet x.0.value (free x.0.name x.0.value x.0.there) x.1.seat x.1.crew x.1.held));
  known = λ id r seat here who held. absurd (no_holder_yet r (free id r here) seat who held);
}

module _ (records : List SeatRecord) (count : ℕ) (it : SeatRecord) (there : slice_get records count ≡ Some it) where
  abbrev rows : List Row
  rows = map seat_row records

  -- the members stay, and so does whether a pairing is there
  pairing_was : (o p : Option PairingEntry) (r : PairingEntry) → IsSamePlan o p → o ≡ Some r → (q : PairingEntry) × (p ≡ Some q)
  pairing_was None None r same e = absurd (cc)
  pairing_was (Some a) (Some b) r same e = (b, refl)
  pairing_was (Some a) None r same e = absurd same
  pairing_was None (Some b) r same e = absurd same

  as_begun : (s t : State) → SeatsRead records count s t → (at : SeatIndex) (who : List ℕ) → IsSeatHeldBy s.crew s.pairings at who → IsSeatHeldBy t.crew t.pairings at who
  as_begun s t read at who is =
      let q = pairing_was _ _ is.entry (read.planned at.pairing) is.of_pairing in
      record {
        entry = q.0;
        of_pairing = q.1;
        member = is.member;
        of_member = ap (λ (x : State). fin.get x.crew who) read.same ∙ is.of_member;
        of_kind = is.of_kind;
      }

  pub stranger : (s t : State) → SeatsRead records count s t → Tells t.crew t.pairings it None → HasStranger row_of_held (IsSeatHeldBy s.crew s.pairings) (map seat_row records)
  stranger s t read none = record {
    row = seat_row it;
    here = mapped_at seat_row records count it there;
    strange = λ at who e is. none at who e (as_begun s t read at who is);
  }

  one_taken : (s t : State) (at : SeatIndex) (who : List ℕ) → seat_row it ≡ row_of_held at who → (is : IsSeatHeldBy t.crew t.pairings at who) → SeatsRead records count s t →
      SeatsRead records (count + 1) s (taken t at who is.entry is.of_pairing)
  one_taken s t at who row_is is read =
      let place = mapped_place seat_row records count it there ∙ ap Some row_is in
      let new_here = has_at rows count (row_of_held at who) place in
      let r = is.entry in
      let found = is.of_pairing in
      let next = take_next rows count (row_of_held at who) place in
      record {
        same = λ i. record (read.same i) { pairings = changed_at t.pairings at.pairing (with_holder at.seat (Some who)) };
        planned = plans t at who r found s.pairings read.planned;
        rows = λ once row. (
          λ h. elim (of_appended (take count rows) (row_of_held at who ∷ []) row (subst (λ l. Has l row) next h)) [
            | inl was ↦ old_row t at who r found rows once new_here row (of_taken rows count row was) ((read.rows once row).0 was)
            | inr now ↦ elim now [
              | inl e ↦ subst (InSeat (taken t at who r found)) (sym e) (new_row t at who r found)
              | inr none ↦ absurd none
            ]
          ],
          λ x. subst (λ l. Has l row) (sym next) (in_appended (take count rows) (row_of_held at who ∷ []) row (elim (of_taken_row t at who r found row x) [
            | inl e ↦ inr (inl e)
            | inr old ↦ inl ((read.rows once row).1 old)
          ])),
        );
        known = kinds t at who r found s.crew is.member (ap (λ (x : State). fin.get x.crew who) (sym read.same) ∙ is.of_member) is.of_kind read.known;
      }

  pub one_read : (s t u : State) (held : TakenSeat) → Tells t.crew t.pairings it (Some held) → SeatsRead records count s t →
      u ≡ record t { pairings = changed_at t.pairings held.pairing (with_holder held.taken.seat (Some held.taken.crew)) } → SeatsRead records (count + 1) s u
  one_read s t u held told read made =
      let at = told.0 in
      let who = told.1 in
      let is = told.2 in
      let same : u ≡ taken t at who told.4.entry told.4.of_pairing = made ∙ (λ i. record t { pairings = changed_at t.pairings (is.0 i) (with_holder (is.1 i) (Some (is.2 i))) }) in
      subst (SeatsRead records (count + 1) s) (sym same) (one_taken s t at who told.3 told.4 read)

-- ---- That both seats of each flown pairing are held

-- where it is flown, both its seats are held
abbrev pub is_seated : PairingEntry → Bool
is_seated r = not (is_flown r) || is_fully_crewed r

seated_if : (flown crewed : Bool) → (not flown || crewed ≡ true) ↔ (flown ≡ true → crewed ≡ true)
seated_if true crewed = (λ e _. e, λ f. f refl)
seated_if false crewed = (λ _ e. absurd (cc), λ _. refl)

pub all_crewed : (items : List (List ℕ × PairingEntry)) (s : State) → named_rows (λ (id : List ℕ). id) items ≡ fin.entries s.pairings → (list_all (λ e. is_seated e.1) items ≡ true) ↔ AreCrewed s
all_crewed items s listed =
    let pass = values_pass (λ (id : List ℕ). id) is_seated items s.pairings listed in (
      λ all id r here. (seated_if (is_flown r) (is_fully_crewed r)).0 (pass.0 all id r here),
      λ crewed. pass.1 (λ id r here. (seated_if (is_flown r) (is_fully_crewed r)).1 (crewed id r here)),
    )

pub read_stranger : (fault : LoadFault) (records : List SeatRecord) (s : State) →
    Blames table_name.Seat (HasStranger row_of_held (IsSeatHeldBy s.crew s.pairings) (map seat_row records)) fault → Blames table_name.Seat (AreUnseated records s) fault
read_stranger NotABook records s blame = blame
read_stranger Version records s blame = blame
read_stranger (Damaged other) records s blame = (blame.0, inl blame.1)
read_stranger (Fault fault) records s blame = blame

pub not_all_crewed : (records : List SeatRecord) (s t : State) → SeatsRead records (length records) s t → (AreCrewed t → ⊥) → AreUnseated records s
not_all_crewed records s t read none = inr (t, read, none)

-- the rest of some pairings, after one
module _ {I : Type 0} (items rest : List (I × PairingEntry)) (i : I) (r : PairingEntry) (P : Type 0) (steps : items ≡ (i, r) ∷ rest)
    (all : (list_all (λ e. is_seated e.1) items ≡ true) ↔ P) where
  first : list_all (λ (e : I × PairingEntry). is_seated e.1) items ≡ (is_seated r && list_all (λ (e : I × PairingEntry). is_seated e.1) rest)
  first = ap (list_all (λ (e : I × PairingEntry). is_seated e.1)) steps

  pub falls : is_seated r ≡ false → (false ≡ true) ↔ P
  falls none =
      let no : list_all (λ (e : I × PairingEntry). is_seated e.1) items ≡ false = first ∙ ap (λ b. b && list_all (λ (e : I × PairingEntry). is_seated e.1) rest) none in
      (λ e. absurd (cc), λ p. sym no ∙ all.1 p)

  pub stands : is_seated r ≡ true → (list_all (λ e. is_seated e.1) rest ≡ true) ↔ P
  stands is =
      let same : list_all (λ (e : I × PairingEntry). is_seated e.1) items ≡ list_all (λ (e : I × PairingEntry). is_seated e.1) rest = first ∙ ap (λ b. b && list_all (λ (e : I × PairingEntry). is_seated e.1) rest) is in
      (λ e. all.0 (same ∙ e), λ p. sym same ∙ all.1 p)
