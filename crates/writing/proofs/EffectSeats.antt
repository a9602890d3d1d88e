-- What seats that get or lose a holder make of the rows of a state.
use Rattle.std.proofs.Common.{◌≡◌, ◌⊎◌, ◌↔◌, inl, inr, refl, sym, ap, subst, ◌∙◌, ℕ, suc, pos, List, [], ◌∷◌, Option, Some, None, Bool, false}
use Rattle.std.specs.FinMap as fin
use Rattle.std.specs.List.{AllByRecursion, fold}
use Rattle.sqlite_value.specs.declared.value.Value.TheVariants.{Int, Text}
use Rattle.sqlite_value.specs.Order.{Row, column}
use Rattle.sqlite_rules.specs.Lists.{Has}
use Rattle.sqlite.specs.Effect.{Database}
use Rattle.command.specs.declared.member.Seat.{Seat}
use Rattle.command.specs.declared.member.Seat.TheVariants.{Captain, FirstOfficer}
use Rattle.roster.proofs.Accepted.{decide, changed, change_here, change_elsewhere}
use Rattle.roster.specs.Pairings.{holder, with_holder}
use Rattle.roster.specs.State.{State}
use Rattle.roster.specs.Steps.{reseated}
use Rattle.roster.specs.declared.change.SeatChange.{SeatChange}
use Rattle.roster.specs.declared.state.PairingEntry.{PairingEntry}
use Rattle.tables.specs.Rows.{Changes, begins_with, rows_of}
use Rattle.writing.specs.Calls.{Then, Each, IsFit}
use Rattle.state_rows.specs.Rows.{StateTable, pairing, period, segment, seat, table, At, HeldSeat, InTable, InSeat, Rows, row_of_seat, seat_number}
use Rattle.writing.specs.Writing.{FreesSeat, Seats, Reseats}
use Rattle.writing.proofs.EffectPlans.{Pairings, SamePlan, SamePlans, pairing_told, period_told, segment_told}
use Rattle.writing.proofs.Growing.{changed_twice}
use Rattle.state_rows.proofs.Lists.{one_value, some_same}
use Rattle.writing.proofs.Sets as sets
use Rattle.writing.proofs.Tables.{fit_after}
use Rattle.state_rows.proofs.Tests.{fails, others}
use Rattle.state_rows.proofs.Values.{text_is, number_is, seats_same}

-- ---- One pairing with another holder

pub seat_cases : (a b : Seat) → (a ≡ b) ⊎ (a ≡ b → ⊥)
seat_cases Captain Captain = inl refl
seat_cases FirstOfficer FirstOfficer = inl refl
seat_cases Captain FirstOfficer = inr (λ e. cc)
seat_cases FirstOfficer Captain = inr (λ e. cc)

held_here : (a : Seat) (who : Option (List ℕ)) (r : PairingEntry) → holder a (with_holder a who r) ≡ who
held_here Captain who r = refl
held_here FirstOfficer who r = refl

held_there : (a b : Seat) (who : Option (List ℕ)) (r : PairingEntry) → (a ≡ b → ⊥) → holder a (with_holder b who r) ≡ holder a r
held_there Captain Captain who r other = absurd (other refl)
held_there FirstOfficer FirstOfficer who r other = absurd (other refl)
held_there Captain FirstOfficer who r other = refl
held_there FirstOfficer Captain who r other = refl

plan_stays : (a : Seat) (who : Option (List ℕ)) (r : PairingEntry) → SamePlan r (with_holder a who r)
plan_stays Captain who r = record { plan = refl; actuals = refl }
plan_stays FirstOfficer who r = record { plan = refl; actuals = refl }

turned : (r q : PairingEntry) → SamePlan r q → SamePlan q r
turned r q same = record { plan = sym same.plan; actuals = sym same.actuals }

-- ---- One seat

module _ (m : Pairings) (c : SeatChange) (r : PairingEntry) (there : fin.get m c.pairing ≡ Some r) where
  abbrev now : PairingEntry
  now = with_holder c.seat c.holder r

  -- the pairing after the change
  there_now : fin.get (reseated m c) c.pairing ≡ Some now
  there_now = change_here m c.pairing (with_holder c.seat c.holder) ∙ ap (λ o. Rattle.std.specs.Option.option_map (with_holder c.seat c.holder) o) there

  pub plans_forth : SamePlans m (reseated m c)
  plans_forth id q at = elim (decide id c.pairing) [
    | inl same ↦
        let is : q ≡ r = one_value (ap (fin.get m) (sym same) ∙ at) there in
        record {
          other = now;
          there = ap (fin.get (reseated m c)) same ∙ there_now;
          same = subst (λ x. SamePlan x now) (sym is) (plan_stays c.seat c.holder r);
        }
    | inr other ↦ record { other = q; there = change_elsewhere m c.pairing (with_holder c.seat c.holder) id other ∙ at; same = record { plan = refl; actuals = refl } }
  ]

  pub plans_back : SamePlans (reseated m c) m
  plans_back id q at = elim (changed m c.pairing (with_holder c.seat c.holder) id q at) [
    | inl it ↦ record {
      other = it.1;
      there = ap (fin.get m) it.0 ∙ it.2;
      same = subst (λ x. SamePlan x it.1) it.3 (turned it.1 _ (plan_stays c.seat c.holder it.1));
    }
    | inr it ↦ record { other = q; there = it.1; same = record { plan = refl; actuals = refl } }
  ]

abbrev of_seat : SeatChange → Row → Bool
of_seat c = begins_with (Text c.pairing ∷ Int (pos (seat_number c.seat)) ∷ [])

-- the row of the new holder
abbrev NewRow : SeatChange → Option (List ℕ) → Row → Type 0
NewRow c None x = ⊥
NewRow c (Some who) x = x ≡ row_of_seat c.pairing c.seat who

new_row : (c : SeatChange) (o : Option (List ℕ)) (x : Row) → NewRow c o x → (who : List ℕ) × (o ≡ Some who) × (x ≡ row_of_seat c.pairing c.seat who)
new_row c None x h = absurd h
new_row c (Some who) x h = (who, refl, h)

is_new : (c : SeatChange) (o : Option (List ℕ)) (x : Row) (who : List ℕ) → o ≡ Some who → x ≡ row_of_seat c.pairing c.seat who → NewRow c o x
is_new c None x who e is = absurd (cc)
is_new c (Some w) x who e is = is ∙ ap (row_of_seat c.pairing c.seat) (sym (some_same e))

seat_changes : (c : SeatChange) (o : Option (List ℕ)) (old new : Database) → IsFit old → Then (FreesSeat c) (Seats c o) old new →
    Changes (table seat) old new (λ x. NewRow c o x ⊎ (Has (rows_of (table seat) old) x × (of_seat c x ≡ false)))
seat_changes c None old new fit h =
    let freed = h.1 (fit.1 seat) in
    subst (λ d. Changes (table seat) old d (λ x. ⊥ ⊎ (Has (rows_of (table seat) old) x × (of_seat c x ≡ false)))) (sym h.2) (record {
      schema = freed.schema;
      has = λ x k. inr (freed.has x k);
      all = λ x k. elim k [ inl none ↦ absurd none | inr was ↦ freed.all x was ];
      others = freed.others;
      keeps = freed.keeps;
      stored = freed.stored;
    })
seat_changes c (Some who) old new fit h =
    let freed = h.1 (fit.1 seat) in
    changed_twice (table seat) old h.0 new _ _ _ freed h.2 (λ x. (
      λ k. elim k [ inl now ↦ inl now | inr was ↦ inr (freed.has x was) ],
      λ k. elim k [ inl now ↦ inl now | inr was ↦ inr (freed.all x was) ],
    ))

module _ (s : State) (c : SeatChange) (r : PairingEntry) (there : fin.get s.pairings c.pairing ≡ Some r) where
  abbrev after : State
  after = record s { pairings = reseated s.pairings c }

  seat_forth : (row : Row) → NewRow c c.holder row ⊎ (InSeat s row × (of_seat c row ≡ false)) → InSeat after row
  seat_forth row (inl new) =
      let it = new_row c c.holder row new in
      let at : At after.pairings = record { name = c.pairing; value = now s.pairings c r there; there = there_now s.pairings c r there } in
      let held : HeldSeat (now s.pairings c r there) = record { seat = c.seat; crew = it.0; held = held_here c.seat c.holder r ∙ it.1 } in
      (at, held, it.2)
  seat_forth row (inr was) =
      let h = was.0 in
      elim (decide h.0.name c.pairing) [
        | inl same ↦
            let is : h.0.value ≡ r = one_value (ap (fin.get s.pairings) (sym same) ∙ h.0.there) there in
            let other : h.1.seat ≡ c.seat → ⊥ = λ e. others (Text c.pairing ∷ Int (pos (seat_number c.seat)) ∷ []) row was.1
            (ap (λ (x : Row). column x 0) h.2 ∙ ap Text same, (ap (λ (x : Row). column x 1) h.2 ∙ ap (λ x. Int (pos (seat_number x))) e, tt)) in
            let at : At after.pairings = record {
              name = h.0.name;
              value = now s.pairings c r there;
              there = ap (fin.get after.pairings) same ∙ there_now s.pairings c r there;
            } in
            let held : HeldSeat (now s.pairings c r there) = record {
              seat = h.1.seat;
              crew = h.1.crew;
              held = held_there h.1.seat c.seat c.holder r other ∙ ap (holder h.1.seat) (sym is) ∙ h.1.held;
            } in
            (at, held, h.2)
        | inr other ↦
            let at : At after.pairings = record {
              name = h.0.name;
              value = h.0.value;
              there = change_elsewhere s.pairings c.pairing (with_holder c.seat c.holder) h.0.name other ∙ h.0.there;
            } in
            (at, h.1, h.2)
      ]

  plain_row : (name : List ℕ) (a : Seat) (who : List ℕ) → (name ≡ c.pairing → a ≡ c.seat → ⊥) → of_seat c (row_of_seat name a who) ≡ false
  plain_row name a who other =
      fails (Text c.pairing ∷ Int (pos (seat_number c.seat)) ∷ []) (row_of_seat name a who) (tt, tt, (tt, tt, tt))
      (λ k. other (text_is k.0) (seats_same a c.seat (number_is k.1.0)))

  seat_back : (row : Row) → InSeat after row → NewRow c c.holder row ⊎ (InSeat s row × (of_seat c row ≡ false))
  seat_back row h = elim (changed s.pairings c.pairing (with_holder c.seat c.holder) h.0.name h.0.value h.0.there) [
    | inl it ↦
        let held : holder h.1.seat (with_holder c.seat c.holder it.1) ≡ Some h.1.crew = ap (holder h.1.seat) it.3 ∙ h.1.held in
        elim (seat_cases h.1.seat c.seat) [
          | inl same ↦
              let who : c.holder ≡ Some h.1.crew = sym (held_here c.seat c.holder it.1) ∙ ap (λ a. holder a (with_holder c.seat c.holder it.1)) (sym same) ∙ held in
              inl (is_new c c.holder row h.1.crew who (h.2 ∙ (λ i. row_of_seat (it.0 i) (same i) h.1.crew)))
          | inr other ↦
              let at : At s.pairings = record { name = h.0.name; value = it.1; there = ap (fin.get s.pairings) it.0 ∙ it.2 } in
              let was : HeldSeat it.1 = record { seat = h.1.seat; crew = h.1.crew; held = sym (held_there h.1.seat c.seat c.holder it.1 other) ∙ held } in
              inr ((at, was, h.2), ap (of_seat c) h.2 ∙ plain_row h.0.name h.1.seat h.1.crew (λ _. other))
        ]
    | inr it ↦
        let at : At s.pairings = record { name = h.0.name; value = h.0.value; there = it.1 } in
        inr ((at, h.1, h.2), ap (of_seat c) h.2 ∙ plain_row h.0.name h.1.seat h.1.crew (λ e _. it.0 e))
  ]

  seat_words : (name : StateTable) (row : Row) →
      sets.put seat (λ x. NewRow c c.holder x ⊎ (InSeat s x × (of_seat c x ≡ false))) (InTable s) name row ↔ InTable after name row
  seat_words seat row = (seat_forth row, seat_back row)
  seat_words pairing row = (pairing_told s (reseated s.pairings c) (plans_forth s.pairings c r there) row, pairing_told after s.pairings (plans_back s.pairings c r there) row)
  seat_words period row = (period_told s (reseated s.pairings c) (plans_forth s.pairings c r there) row, period_told after s.pairings (plans_back s.pairings c r there) row)
  seat_words segment row = (segment_told s (reseated s.pairings c) (plans_forth s.pairings c r there) row, segment_told after s.pairings (plans_back s.pairings c r there) row)
  seat_words name row = (λ h. h, λ h. h)

  pub one_reseated : (old new : Database) → IsFit old → Rows s old → Reseats c old new → IsFit new × Rows after new
  one_reseated old new fit rows is =
      let changes = seat_changes c c.holder old new fit is in (
        fit_after old new fit seat _ changes,
        sets.shows_as _ _ new seat_words (sets.changed seat old new fit (InTable s) rows _ _ changes (λ x. (
          λ h. elim h [ inl new ↦ inl new | inr was ↦ inr ((rows seat x).0 was.0, was.1) ],
          λ h. elim h [ inl new ↦ inl new | inr was ↦ inr ((rows seat x).1 was.0, was.1) ],
        ))),
      )

-- ---- All seats of a change

-- each seat is of a pairing that is there
abbrev pub AreThere : Pairings → List SeatChange → Type 0
AreThere m = AllByRecursion (λ c. (r : PairingEntry) × (fin.get m c.pairing ≡ Some r))

still_there : (m n : Pairings) → SamePlans m n → (cs : List SeatChange) → AreThere m cs → AreThere n cs
still_there m n told [] h = tt
still_there m n told (c ∷ cs) h = let it = told c.pairing h.0.0 h.0.1 in ((it.other, it.there), still_there m n told cs h.1)

pub all_reseated : (from : ℕ) (s : State) (cs : List SeatChange) → AreThere s.pairings cs → (old new : Database) → IsFit old → Rows s old →
    Each (λ _ c. Reseats c) from cs old new → IsFit new × Rows (record s { pairings = fold reseated s.pairings cs }) new
all_reseated from s [] there old new fit rows is = (subst IsFit (sym is) fit, subst (Rows s) (sym is) rows)
all_reseated from s (c ∷ cs) there old new fit rows is =
    let first = one_reseated s c there.0.0 there.0.1 old is.0 fit rows is.1 in
    all_reseated (suc from) (record s { pairings = reseated s.pairings c }) cs
    (still_there s.pairings (reseated s.pairings c) (plans_forth s.pairings c there.0.0 there.0.1) cs there.1) is.0 new first.0 first.1 is.2
