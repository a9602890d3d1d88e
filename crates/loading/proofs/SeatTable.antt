-- The table `seat`: what it is damaged by, and that it is right where its records are read.
use Rattle.std.proofs.Common.{◌≡◌, ◌↔◌, inl, inr, refl, sym, ap, ap₂, subst, ◌∙◌, ℕ, pos, true, ◌&&◌, List, [], ◌∷◌, map, slice_get, length, Option, Some, None, Result, Ok, Err, MatchResult, is_some}
use Rattle.std.specs.FinMap as fin
use Rattle.std.specs.List.{list_any}
use Rattle.values.specs.Name.{name_cmp}
use Rattle.sqlite_value.specs.declared.value.Value.TheVariants.{Int, Text}
use Rattle.sqlite_value.specs.Order.{Row}
use Rattle.sqlite_rules.specs.Lists.{Has}
use Rattle.sqlite.specs.Effect.{Database}
use Rattle.sqlite.specs.State.{HasCleanDisk, IsUnchanged}
use Rattle.sqlite.specs.State as conn
use Rattle.duty.specs.Plans.{ActualTimes, Plan}
use Rattle.duty.specs.Shape.{is_id}
use Rattle.command.specs.declared.member.Seat.{Seat}
use Rattle.command.specs.declared.member.Seat.TheVariants.{Captain, FirstOfficer}
use Rattle.roster.specs.Pairings.{holder, is_fully_crewed}
use Rattle.roster.specs.Sound.{Members, IsHolder}
use Rattle.roster.specs.State.{State}
use Rattle.roster.specs.declared.state.PairingEntry.{PairingEntry}
use Rattle.tables.proofs.KeyLemmas.{seat_once}
use Rattle.tables.specs.Calls.{CrashLeavesNoMore}
use Rattle.tables.specs.Records.{IsSeatRow, seat_row}
use Rattle.tables.specs.Rows.{begins_with, rows_of}
use Rattle.tables.specs.declared.seat.SeatRecord.{SeatRecord}
use Rattle.state_rows.proofs.Lists.{same_option}
use Rattle.entries.proofs.Mapping.{all_taken}
use Rattle.entries.proofs.SamePairings.{holder_told}
use Rattle.loading.proofs.SamePlans.{beside, told}
use Rattle.entries.proofs.SameStates.{crew_told}
use Rattle.loading.proofs.Telling.{unread, of_blame, or_fails, uncaused}
use Rattle.state_rows.proofs.Outcomes.{clean_before}
use Rattle.state_rows.proofs.Tests.{passes}
use Rattle.loading.specs.Loading.{IsCaused, IsDamaged, Justifies}
use Rattle.entries.specs.Right.{IsPlanned, IsSegmentRight, AreRight}
use Rattle.entries.specs.Mapping.{AreOnce, HasStranger}
use Rattle.loading.specs.Reading.{SeatIndex, SeatsRead, IsSeatHeldBy, IsSamePlan, AreCrewed, AreUnseated, row_of_held, ReadsAs, BlamesOrFails, HasRows, IsUnreadable, AgreesThrough}
use Rattle.entries.specs.Faults.{Blames}
use Rattle.state_rows.specs.Rows.{table, crew, InPairing, InPeriod, InSegment, InSeat, seat_number, seat, segment}
use Rattle.entries.specs.declared.fault.LoadFault.{LoadFault}
use Rattle.entries.specs.declared.fault.TableName.TheVariants as table_name
use Rattle.entries.proofs.RightRows.{seat_rows}

-- ---- States that differ in who holds the seats

pub record Other (m : fin.FinMap name_cmp PairingEntry) (id : List ℕ) (r : PairingEntry) : Type 0 where
  pub other : PairingEntry
  pub there : fin.get m id ≡ Some other
  pub plan : r.plan ≡ other.plan
  pub actuals : r.actuals ≡ other.actuals

abbrev HasOthers : fin.FinMap name_cmp PairingEntry → fin.FinMap name_cmp PairingEntry → Type 0
HasOthers m n = (id : List ℕ) (r : PairingEntry) → fin.get m id ≡ Some r → Other n id r

forward : (m n : fin.FinMap name_cmp PairingEntry) (id : List ℕ) (r : PairingEntry) (o p : Option PairingEntry) → fin.get m id ≡ o → fin.get n id ≡ p → IsSamePlan o p → o ≡ Some r → Other n id r
forward m n id r None p a b same e = absurd (cc)
forward m n id r (Some x) None a b same e = absurd same
forward m n id r (Some x) (Some y) a b same e =
    let is : x ≡ r = cc in
    record { other = y; there = b; plan = sym (ap (λ (z : PairingEntry). z.plan) is) ∙ sym same.0; actuals = sym (ap (λ (z : PairingEntry). z.actuals) is) ∙ sym same.1 }

back : (m n : fin.FinMap name_cmp PairingEntry) (id : List ℕ) (r : PairingEntry) (o p : Option PairingEntry) → fin.get m id ≡ o → fin.get n id ≡ p → IsSamePlan o p → p ≡ Some r → Other m id r
back m n id r o None a b same e = absurd (cc)
back m n id r None (Some y) a b same e = absurd same
back m n id r (Some x) (Some y) a b same e =
    let is : y ≡ r = cc in
    record { other = x; there = a; plan = sym (ap (λ (z : PairingEntry). z.plan) is) ∙ same.0; actuals = sym (ap (λ (z : PairingEntry). z.actuals) is) ∙ same.1 }

module _ (s t : State) (others : HasOthers s.pairings t.pairings) where
  pairing_stays : (row : Row) → InPairing s row → InPairing t row
  pairing_stays row x = let o = others x.0.name x.0.value x.0.there in (record { name = x.0.name; value = o.other; there = o.there }, x.1)

  period_stays : (row : Row) → InPeriod s row → InPeriod t row
  period_stays row x =
      let o = others x.0.name x.0.value x.0.there in
      let p = x.1 in (
        record { name = x.0.name; value = o.other; there = o.there },
        record {
          place = p.place;
          fdp = p.fdp;
          actual = p.actual;
          planned = ap (λ (q : Plan). slice_get q.periods p.place) (sym o.plan) ∙ p.planned;
          flown = ap (λ (l : List (Option ActualTimes)). slice_get l p.place) (sym o.actuals) ∙ p.flown;
        },
        x.2,
      )

  segment_stays : (row : Row) → InSegment s row → InSegment t row
  segment_stays row x =
      let o = others x.0.name x.0.value x.0.there in
      let p = x.1 in (
        record { name = x.0.name; value = o.other; there = o.there },
        record {
          place = p.place;
          fdp = p.fdp;
          actual = p.actual;
          planned = ap (λ (q : Plan). slice_get q.periods p.place) (sym o.plan) ∙ p.planned;
          flown = ap (λ (l : List (Option ActualTimes)). slice_get l p.place) (sym o.actuals) ∙ p.flown;
        },
        x.2,
        x.3,
      )

-- a plan's being right says nothing of who flies it
planned_stays : (id : List ℕ) (r q : PairingEntry) → r.plan ≡ q.plan → r.actuals ≡ q.actuals → IsPlanned id r → IsPlanned id q
planned_stays id r q plan actuals is =
    let same : record r { captain = q.captain; first_officer = q.first_officer } ≡ q = λ i. record { plan = plan i; actuals = actuals i; captain = q.captain; first_officer = q.first_officer } in
    subst (IsPlanned id) same (record {
      named = is.named;
      plan = is.plan;
      planned = is.planned;
      instants = is.instants;
      places = is.places;
      actuals = is.actuals;
    })

module _ (s : State) (m : fin.FinMap name_cmp PairingEntry) (planned : (id : List ℕ) → IsSamePlan (fin.get s.pairings id) (fin.get m id)) where
  abbrev t : State
  t = record s { pairings = m }

  pub there_too : HasOthers s.pairings m
  there_too id r e = forward s.pairings m id r _ _ refl refl (planned id) e

  pub here_too : HasOthers m s.pairings
  here_too id r e = back s.pairings m id r _ _ refl refl (planned id) e

  named_stays : ((id : List ℕ) (r : PairingEntry) → fin.get s.pairings id ≡ Some r → is_id id ≡ true) → (id : List ℕ) (q : PairingEntry) → fin.get m id ≡ Some q → is_id id ≡ true
  named_stays named id q e = let o = here_too id q e in named id o.other o.there

  pub right_stays : (db : Database) → IsSegmentRight s db → IsSegmentRight t db
  right_stays db right =
      let down_to_period = right.0 in
      let down_to_pairing = down_to_period.0 in
      let pairings = down_to_pairing.1 in (
        (
          (
            down_to_pairing.0,
            (pairings.0, λ row. (λ h. pairing_stays s t there_too row ((pairings.1 row).0 h), λ x. (pairings.1 row).1 (pairing_stays t s here_too row x))),
            named_stays down_to_pairing.2,
          ),
          down_to_period.1,
          down_to_period.2,
        ),
        (λ row. (λ h. period_stays s t there_too row ((right.1 row).0 h), λ x. (right.1 row).1 (period_stays t s here_too row x))),
        (right.2.0, λ row. (λ h. segment_stays s t there_too row ((right.2.1 row).0 h), λ x. (right.2.1 row).1 (segment_stays t s here_too row x))),
        (λ id q e. let o = here_too id q e in planned_stays id o.other q (sym o.plan) (sym o.actuals) (right.3 id o.other o.there)),
      )

-- ---- The table

-- where it is right, it is there, and each row is the record of a seat
pub not_unreadable : (db : Database) → IsUnreadable seat IsSeatRow db → AreRight seat db → ⊥
not_unreadable db (inl none) right = none right.1.1.0
not_unreadable db (inr x) right = x.3 (seat_rows db x.0 x.1 right)

itself : (at : SeatIndex) (who : List ℕ) → begins_with (Text at.pairing ∷ Int (pos (seat_number at.seat)) ∷ []) (row_of_held at who) ≡ true
itself at who = passes (Text at.pairing ∷ Int (pos (seat_number at.seat)) ∷ []) (row_of_held at who) (refl, (refl, tt))

crewed_same : (r q : PairingEntry) → holder Captain r ≡ holder Captain q → holder FirstOfficer r ≡ holder FirstOfficer q → is_fully_crewed r ≡ is_fully_crewed q
crewed_same r q a b = ap₂ (λ x y. is_some x && is_some y) a b

module _ (s : State) (db : Database) (above : AgreesThrough segment s db) where
  damaged : (AreRight seat db → ⊥) → IsDamaged seat db
  damaged wrong = record { book = above.book; version = above.version; above = (s, above.right); damaged = wrong }

  pub unreadable : IsUnreadable seat IsSeatRow db → IsDamaged seat db
  unreadable why = damaged (not_unreadable db why)

  -- a row of no seat here is of none in any state with the tables above
  stranger_wrong : (rows : List Row) → HasRows seat db rows → HasStranger row_of_held (IsSeatHeldBy s.crew s.pairings) rows → AreRight seat db → ⊥
  stranger_wrong rows read stranger right =
      let x = (right.1.1.1 stranger.row).0 ((read.all stranger.row).1 stranger.here) in
      let at = x.0 in
      let held = x.1 in
      let here = beside right.0 s db right.1.0 above.right at.name at.value at.there in
      let seated = right.1.2 at.name at.value at.there in
      let kind : (seat : Seat) → IsHolder right.0.crew seat (holder seat at.value) = λ k. elim k as (λ k. IsHolder right.0.crew k (holder k at.value)) [ Captain ↦ seated.captain | FirstOfficer ↦ seated.first_officer ] in
      let m = kind held.seat held.crew held.held in
      let alike = crew_told right.0 s (told crew db _ _ right.1.0.0.0.0.1.1 above.right.0.0.0.1.1) held.crew m.0 m.1 in
      stranger.strange (record { pairing = at.name; seat = held.seat }) held.crew x.2 (record {
        entry = here.other;
        of_pairing = here.there;
        member = alike.other;
        of_member = alike.there;
        of_kind = alike.seat ∙ m.2;
      })

  seats_once : (rows : List Row) → HasRows seat db rows → AreOnce row_of_held rows
  seats_once rows read at v w first second =
      seat_once db read.database read.there.0 read.stored at.pairing (pos (seat_number at.seat)) (row_of_held at v) (row_of_held at w)
      ((read.all (row_of_held at v)).1 first) ((read.all (row_of_held at w)).1 second) (itself at v) (itself at w)

  module _ (records : List SeatRecord) (t : State) (read : HasRows seat db (map seat_row records)) (seats : SeatsRead records (length records) s t) where
    just_these : (row : Row) → Has (map seat_row records) row ↔ InSeat t row
    just_these row = subst (λ l. Has l row ↔ InSeat t row) (all_taken seat_row records) (seats.rows (seats_once (map seat_row records) read) row)

    in_table : (row : Row) → Has (rows_of (table seat) db) row ↔ InSeat t row
    in_table row = (λ h. (just_these row).0 ((read.all row).0 h), λ x. (read.all row).1 ((just_these row).1 x))

    -- if each flown pairing is crewed in any state with these rows, it is here
    uncrewed_wrong : (AreCrewed t → ⊥) → AreRight seat db → ⊥
    uncrewed_wrong wrong right = wrong (λ id q e flown.
        let here = subst (λ (x : State). (r : PairingEntry) → fin.get x.pairings id ≡ Some r → Other s.pairings id r) (sym seats.same)
        (here_too s t.pairings seats.planned id) q e in
        let there = beside s right.0 db above.right right.1.0 id here.other here.there in
        let actuals : q.actuals ≡ there.other.actuals = here.actuals ∙ there.same.actuals in
        let seated = right.1.2 id there.other there.there in
        let crewed = seated.crewed (ap (list_any is_some) (sym actuals) ∙ flown) in
        let to = λ (row : Row) (x : InSeat t row). (right.1.1.1 row).0 ((in_table row).1 x) in
        let from = λ (row : Row) (x : InSeat right.0 row). (in_table row).0 ((right.1.1.1 row).1 x) in
        let holds : (k : Seat) → holder k q ≡ holder k there.other = λ k.
        same_option _ _ (holder_told t right.0 id q there.other e there.there to k) (holder_told right.0 t id there.other q there.there e from k) in
        crewed_same q there.other (holds Captain) (holds FirstOfficer) ∙ crewed)

    pub right : AreCrewed t → AgreesThrough seat t db
    right crewed = record {
      stored = (read.stored, above.stored);
      book = above.book;
      version = above.version;
      right = (
        subst (λ u. IsSegmentRight u db) (sym seats.same) (right_stays s t.pairings seats.planned db above.right),
        (read.there, in_table),
        λ id r e. record {
          captain = subst (λ (c : Members). IsHolder c Captain r.captain) (sym (ap (λ (x : State). x.crew) seats.same)) (seats.known id r Captain e);
          first_officer = subst (λ (c : Members). IsHolder c FirstOfficer r.first_officer) (sym (ap (λ (x : State). x.crew) seats.same)) (seats.known id r FirstOfficer e);
          crewed = crewed id r e;
        },
      );
    }

  pub unseated : (records : List SeatRecord) → HasRows seat db (map seat_row records) → AreUnseated records s → IsDamaged seat db
  unseated records read (inl stranger) = damaged (stranger_wrong (map seat_row records) read stranger)
  unseated records read (inr x) = damaged (uncrewed_wrong records x.0 read x.1 x.2)

-- ---- The call

module _ (s : State) (old new : conn.State) (above : HasCleanDisk old → AgreesThrough segment s old.now) where
  abbrev pub Now : State → Type 0
  Now r = AgreesThrough seat r old.now × (r ≡ record s { pairings = r.pairings })

  pub not_read : (fault : LoadFault) → (HasCleanDisk new → BlamesOrFails table_name.Seat (IsUnreadable seat IsSeatRow old.now) fault) → (HasCleanDisk new → IsCaused old new fault) → CrashLeavesNoMore old new →
      ReadsAs Now (λ f. Justifies f old.now) old new (Err fault)
  not_read fault told caused left = unread table_name.Seat _ Now old new fault (λ clean. unreadable s old.now (above clean)) told caused left

  pub is_read : (records seen : List SeatRecord) (result : Result State LoadFault) → seen ≡ records →
      (HasCleanDisk new → IsUnchanged old new × HasRows seat old.now (map seat_row records)) → CrashLeavesNoMore old new →
      MatchResult result (λ r. SeatsRead seen (length seen) s r × AreCrewed r) (Blames table_name.Seat (AreUnseated seen s)) →
      ReadsAs Now (λ f. Justifies f old.now) old new result
  is_read records seen (Ok r) same saw left done = record {
    told = λ clean.
        let it = saw clean in
        let read = subst (λ l. SeatsRead l (length l) s r) same done.0 in
        (it.0, (right s old.now (above (clean_before old new left clean)) records r it.1 read done.1, read.same));
    caused = λ clean. tt;
    left = left;
  }
  is_read records seen (Err fault) same saw left blame = record {
    told = λ clean.
        let why = subst (λ l. Blames table_name.Seat (AreUnseated l s) fault) same blame in
        of_blame table_name.Seat _ old.now (unseated s old.now (above (clean_before old new left clean)) records (saw clean).1) fault (or_fails table_name.Seat _ fault why);
    caused = λ clean. uncaused old new table_name.Seat (AreUnseated seen s) fault blame;
    left = left;
  }
