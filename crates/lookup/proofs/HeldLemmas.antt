-- The seats that a member holds.
use Rattle.std.proofs.Common.{◌≡◌, inl, inr, refl, sym, ap, subst, ◌∙◌, ℕ, true, false, ◌||◌, List, [], ◌∷◌, map, Contains, Option, Some, None, Ordering, Less, Equal, Greater}
use Rattle.std.specs.FinMap as fin
use Rattle.std.specs.Ordering.{is_eq}
use Rattle.std.proofs.lemmas.Bool.{cases_Bool}
use Rattle.std.proofs.lemmas.Cmp.{tied_itself}
use Rattle.std.proofs.lemmas.Slice.Eq.{bytes_eq-Decides}
use Rattle.values.proofs.Names.{exact_names}
use Rattle.sqlite_value.specs.Order.{Row, column, value_cmp}
use Rattle.sqlite_value.specs.declared.value.Value.TheVariants.{Text}
use Rattle.sqlite_value.proofs.OrderLemmas.{value_cmp_total, value_cmp-Text}
use Rattle.sqlite_rules.specs.Lists.{Has}
use Rattle.sqlite.specs.Effect.{Database}
use Rattle.sqlite.specs.State.{State, HasCleanDisk, IsUnchanged}
use Rattle.command.specs.declared.member.Seat.{Seat}
use Rattle.command.specs.declared.member.Seat.TheVariants.{Captain, FirstOfficer}
use Rattle.roster.proofs.Members.{first_or_later, is_first, is_later, none_in}
use Rattle.roster.specs.Pairings.{holder, holds, is_held_by}
use Rattle.roster.specs.State as roster
use Rattle.roster.specs.declared.state.PairingEntry.{PairingEntry}
use Rattle.tables.specs.Records.{seat_row}
use Rattle.tables.specs.Rows.{Finds, equals_at}
use Rattle.tables.specs.declared.seat.SeatRecord.{SeatRecord}
use Rattle.state_rows.specs.Rows.{table, seat, row_of_seat, At, HeldSeat}
use Rattle.state_rows.proofs.Values.{text_is}
use Rattle.state_rows.specs.Kept.{IsBookOf}
use Rattle.state_rows.specs.Outcomes.{CrashAddsNothing}
use Rattle.roster.specs.Holding.{AreJust, IsHeldBy}
use Rattle.lookup.specs.Reads.{Shows, ids_in}
use Rattle.lookup.proofs.ReadLemmas.{in_found, of_found}

equal_from : (o : Ordering) → is_eq o ≡ true → o ≡ Equal
equal_from Less e = absurd (cc)
equal_from Equal e = refl
equal_from Greater e = absurd (cc)

pub text_same : (a b : List ℕ) → is_eq (value_cmp (Text a) (Text b)) ≡ true → a ≡ b
text_same a b e = exact_names a b (equal_from _ (ap is_eq (sym (value_cmp-Text a b)) ∙ e))

-- a record among others
has_row : (records : List SeatRecord) (id : List ℕ) → Contains (ids_in records) id → (it : SeatRecord) × Has (map seat_row records) (seat_row it) × (it.pairing ≡ id)
has_row [] id c = absurd (none_in id c)
has_row (row ∷ rows) id c = elim (first_or_later row.pairing (ids_in rows) id c) [
  | inl same ↦ (row, inl refl, same)
  | inr later ↦ let it = has_row rows id later in (it.0, inr it.1, it.2)
]

row_id : (records : List SeatRecord) (row : Row) (id : List ℕ) → Has (map seat_row records) row → column row 0 ≡ Text id → Contains (ids_in records) id
row_id [] row id h first = absurd h
row_id (x ∷ xs) row id (inl same) first = is_first x.pairing (ids_in xs) id (text_is (ap (λ (r : Row). column r 0) (sym same) ∙ first))
row_id (x ∷ xs) row id (inr later) first = is_later x.pairing (ids_in xs) id (row_id xs row id later first)

of_held : (who : List ℕ) (o : Option (List ℕ)) → is_held_by who o ≡ true → o ≡ Some who
of_held who None is = absurd (cc)
of_held who (Some other) is = ap Some ((bytes_eq-Decides other who).0 is)

is_held : (who : List ℕ) (o : Option (List ℕ)) → o ≡ Some who → is_held_by who o ≡ true
is_held who o is = ap (is_held_by who) is ∙ (bytes_eq-Decides who who).1 refl

pub seat_held : (who : List ℕ) (r : PairingEntry) (x : Seat) → holder x r ≡ Some who → holds who r ≡ true
seat_held who r Captain held = ap (λ b. b || is_held_by who r.first_officer) (is_held who r.captain held)
seat_held who r FirstOfficer held = elim (is_held_by who r.captain) as (λ b. (b || is_held_by who r.first_officer) ≡ true) [ true ↦ refl | false ↦ is_held who r.first_officer held ]

pub some_seat : (who : List ℕ) (r : PairingEntry) → holds who r ≡ true → (x : Seat) × (holder x r ≡ Some who)
some_seat who r is = elim (cases_Bool (is_held_by who r.captain)) [
  | inl captain ↦ (Captain, of_held who r.captain captain)
  | inr other ↦ (FirstOfficer, of_held who r.first_officer (ap (λ b. b || is_held_by who r.first_officer) (sym other) ∙ is))
]

module _ (s : roster.State) (db : Database) (book : IsBookOf s db) (who : List ℕ) (records : List SeatRecord) (finds : Finds (table seat) (equals_at 2 (Text who)) db (map seat_row records)) where
  pub held_are : AreJust (IsHeldBy s who) (ids_in records)
  held_are id = (
    λ c.
        let it = has_row records id c in
        let there = of_found seat (equals_at 2 (Text who)) db (map seat_row records) finds (seat_row it.0) it.1 in
        let at = (book.rows seat (seat_row it.0)).0 there.0 in
        let e = at.2 in
        let same_id : id ≡ at.0.name = sym it.2 ∙ text_is (ap (λ (r : Row). column r 0) e) in
        let crew : at.1.crew ≡ who = text_is (ap (λ (r : Row). column r 2) (sym e)) ∙ text_same it.0.crew who there.1 in
        (at.0.value, ap (fin.get s.pairings) same_id ∙ at.0.there, seat_held who at.0.value at.1.seat (at.1.held ∙ ap Some crew)),
    λ is.
        let x = some_seat who is.0 is.2 in
        let row = row_of_seat id x.0 who in
        let at : At s.pairings = record { name = id; value = is.0; there = is.1 } in
        let held : HeldSeat is.0 = record { seat = x.0; crew = who; held = x.1 } in
        let is_row = (book.rows seat row).1 (at, held, refl) in
        row_id records row id (in_found seat (equals_at 2 (Text who)) db (map seat_row records) finds row is_row (ap is_eq (tied_itself value_cmp_total (Text who)))) refl,
  )

pub held_told : (old new : State) (s : roster.State) (who : List ℕ) (records : List SeatRecord) (ids : List (List ℕ)) → HasCleanDisk new →
    IsUnchanged old new → Finds (table seat) (equals_at 2 (Text who)) old.now (map seat_row records) → CrashAddsNothing old new → Shows old s → ids ≡ ids_in records →
    Shows new s × AreJust (IsHeldBy s who) ids
held_told old new s who records ids clean same finds left shows is = (
  record {
    sound = shows.sound;
    instants = shows.instants;
    book = λ now opened. subst (λ (db : Database). IsBookOf s db) (sym same.0.now_is) (shows.book (left.disk now) same.0.was_open);
  },
  subst (AreJust (IsHeldBy s who)) (sym is) (held_are s old.now (shows.book (left.disk clean) same.0.was_open) who records finds),
)
