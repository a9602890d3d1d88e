-- The near periods among those of a member's pairings are of just the pairings that are near.
use Rattle.std.proofs.Common.{◌≡◌, inl, inr, refl, sym, ap, subst, subst₂, ◌∙◌, ℕ, zero, suc, Bool, true, false, ◌||◌, List, [], ◌∷◌, flat_map, filter, map, Contains, Option, Some, None, slice_get}
use Rattle.std.specs.FinMap as fin
use Rattle.std.specs.List.{dedup, list_any, zip}
use Rattle.std.specs.Prelude.{IsPermutation}
use Rattle.std.specs.Str.{bytes_eq}
use Rattle.std.specs.Option.{option_map}
use Rattle.std.specs.Ordering.{is_eq}
use Rattle.std.specs.Prelude.{unwrap_or}
use Rattle.std.proofs.lemmas.Bool.{and_from, and_parts, cases_Bool}
use Rattle.std.proofs.lemmas.Cmp.{nat_list_eq_equiv, tied_itself}
use Rattle.std.proofs.lemmas.List.Kept.{Contains-dedup, Contains-from_dedup}
use Rattle.std.proofs.lemmas.List.Sorted.{IsPermutation-map, IsPermutation-sym, IsPermutation-trans}
use Rattle.std.proofs.lemmas.Slice.Eq.{bytes_eq-Decides}
use Rattle.sqlite_value.specs.declared.value.Value.TheVariants.{Text}
use Rattle.sqlite_value.specs.Order.{Row, column}
use Rattle.sqlite_value.proofs.OrderLemmas.{value_cmp_total}
use Rattle.sqlite_rules.specs.Lists.{Has}
use Rattle.sqlite_rules.proofs.ListLemmas.{has_either, has_left, has_right}
use Rattle.sqlite.specs.Effect.{Database}
use Rattle.duty.specs.Plans.{ActualTimes}
use Rattle.duty.specs.declared.fdp.Fdp.{Fdp}
use Rattle.duty.specs.declared.span.Span.{Span}
use Rattle.limits.specs.Reach.{is_reached}
use Rattle.roster.specs.Holding.{AreJust}
use Rattle.roster.specs.Near.{IsHeldNear, is_near, period_times}
use Rattle.roster.specs.Pairings.{flown, holds, periods_in_force}
use Rattle.roster.specs.State as roster
use Rattle.roster.specs.declared.state.PairingEntry.{PairingEntry}
use Rattle.roster.proofs.Members.{first_or_later, is_first, is_later, none_in}
use Rattle.tables.specs.Held.{FindsHeld, equals, is_of_seat}
use Rattle.tables.specs.Records.{period_row}
use Rattle.tables.specs.Rows.{begins_with, rows_of}
use Rattle.tables.specs.declared.period.PeriodRecord.{PeriodRecord}
use Rattle.tables.proofs.Answering.{has_permuted}
use Rattle.state_rows.specs.Rows.{table, period, seat, outside_segment, row_of_period, row_of_seat, At, HeldSeat, PeriodOf}
use Rattle.state_rows.specs.Kept.{IsBookOf}
use Rattle.state_rows.proofs.Lists.{one_value}
use Rattle.state_rows.proofs.Tests.{found as columns_found, passes, IsPlain}
use Rattle.state_rows.proofs.Values.{number_is, numbers_same, text_is}
use Rattle.entries.specs.Right.{AreRight, IsInstantIfAny}
use Rattle.stored_json.specs.Instants.{is_instant}
use Rattle.lookup.specs.Near.{HasNoInstants, HasPeriodRows, HavePeriodRows, ids_near, is_period_near, records_of, times_in_force}
use Rattle.lookup.proofs.HeldLemmas.{seat_held, some_seat, text_same}
use Rattle.lookup.proofs.PlanLemmas.{has_record, record_has}
use Rattle.lookup.proofs.ReadLemmas.{has_filtered, of_filtered}
use Rattle.lookup.proofs.RightRows.{segments_right}

-- ---- Lists

module _ {X : Type 0} (test : X → Bool) where
  any_at : (xs : List X) → list_any test xs ≡ true → (i : ℕ) × (x : X) × (slice_get xs i ≡ Some x) × (test x ≡ true)
  any_at [] e = absurd (cc)
  any_at (x ∷ xs) e = elim (test x) as (λ b. test x ≡ b → (b || list_any test xs) ≡ true → (i : ℕ) × (y : X) × (slice_get (x ∷ xs) i ≡ Some y) × (test y ≡ true)) [
    | true ↦ λ here _. (0, x, refl, here)
    | false ↦ λ _ later. let it = any_at xs later in (suc it.0, it.1, it.2, it.3)
  ] refl e

  at_any : (xs : List X) (i : ℕ) (x : X) → slice_get xs i ≡ Some x → test x ≡ true → list_any test xs ≡ true
  at_any [] i x e is = absurd (cc)
  at_any (y ∷ ys) zero x e is = let same : y ≡ x = cc in ap (λ b. b || list_any test ys) (ap test same ∙ is)
  at_any (y ∷ ys) (suc i) x e is = elim (test y) as (λ b. (b || list_any test ys) ≡ true) [
    | true ↦ refl
    | false ↦ at_any ys i x e is
  ]

module _ {A B : Type 0} (f : A → B) where
  map_at : (xs : List A) (i : ℕ) (x : A) → slice_get xs i ≡ Some x → slice_get (map f xs) i ≡ Some (f x)
  map_at [] i x e = absurd (cc)
  map_at (y ∷ ys) zero x e = let same : y ≡ x = cc in ap (λ v. Some (f v)) same
  map_at (y ∷ ys) (suc i) x e = map_at ys i x e

  at_map : (xs : List A) (i : ℕ) (z : B) → slice_get (map f xs) i ≡ Some z → (x : A) × (slice_get xs i ≡ Some x) × (f x ≡ z)
  at_map [] i z e = absurd (cc)
  at_map (y ∷ ys) zero z e = (y, refl, cc)
  at_map (y ∷ ys) (suc i) z e = at_map ys i z e

module _ {A B : Type 0} where
  zip_at : (xs : List A) (ys : List B) (i : ℕ) (x : A) (y : B) → slice_get xs i ≡ Some x → slice_get ys i ≡ Some y → slice_get (zip xs ys) i ≡ Some (x, y)
  zip_at [] ys i x y e f = absurd (cc)
  zip_at (v ∷ vs) [] i x y e f = absurd (cc)
  zip_at (v ∷ vs) (w ∷ ws) zero x y e f = let same : v ≡ x = cc in let also : w ≡ y = cc in λ i. Some (same i, also i)
  zip_at (v ∷ vs) (w ∷ ws) (suc i) x y e f = zip_at vs ws i x y e f

  at_zip : (xs : List A) (ys : List B) (i : ℕ) (z : A × B) → slice_get (zip xs ys) i ≡ Some z → (slice_get xs i ≡ Some z.0) × (slice_get ys i ≡ Some z.1)
  at_zip [] ys i z e = absurd (cc)
  at_zip (v ∷ vs) [] i z e = absurd (cc)
  at_zip (v ∷ vs) (w ∷ ws) zero z e = let same : Some (v, w) ≡ Some z = e in (ap (option_map (λ p. p.0)) same, ap (option_map (λ p. p.1)) same)
  at_zip (v ∷ vs) (w ∷ ws) (suc i) z e = at_zip vs ws i z e

-- ---- Times

abbrev span_of : Fdp → Span
span_of f = record { from = f.report; to = f.release }

reached_as : (spans : List Span) (times others : Span) → times ≡ others → is_reached spans others ≡ true → is_reached spans times ≡ true
reached_as spans times others same reached = ap (is_reached spans) same ∙ reached

-- a row of `period` has the times in force of its period
times_are : (it : PeriodRecord) (id : List ℕ) (place : ℕ) (fdp : Fdp) (actual : Option ActualTimes) → period_row it ≡ row_of_period id place fdp actual →
    times_in_force it ≡ span_of (flown (fdp, actual))
times_are it id place fdp None e =
    let report : it.report_at ≡ fdp.report = number_is (ap (λ (r : Row). column r 2) e) in
    let release : it.release_at ≡ fdp.release = number_is (ap (λ (r : Row). column r 3) e) in
    let act_report : it.act_report ≡ None = numbers_same it.act_report None (ap (λ (r : Row). column r 4) e) in
    let act_release : it.act_release ≡ None = numbers_same it.act_release None (ap (λ (r : Row). column r 5) e) in
    λ i. record { from = unwrap_or (act_report i) (report i); to = unwrap_or (act_release i) (release i) }
times_are it id place fdp (Some a) e =
    let act_report : it.act_report ≡ Some a.report = numbers_same it.act_report (Some a.report) (ap (λ (r : Row). column r 4) e) in
    let act_release : it.act_release ≡ Some a.release = numbers_same it.act_release (Some a.release) (ap (λ (r : Row). column r 5) e) in
    λ i. record { from = unwrap_or (act_report i) it.report_at; to = unwrap_or (act_release i) it.release_at }

-- a period that is reached makes its pairing near
reached_near : (spans : List Span) (r : PairingEntry) (place : ℕ) (fdp : Fdp) (actual : Option ActualTimes) →
    slice_get r.plan.periods place ≡ Some fdp → slice_get r.actuals place ≡ Some actual → is_reached spans (span_of (flown (fdp, actual))) ≡ true → is_near spans r ≡ true
reached_near spans r place fdp actual planned flew reached =
    let both = zip_at r.plan.periods r.actuals place fdp actual planned flew in
    let in_force = map_at flown (zip r.plan.periods r.actuals) place (fdp, actual) both in
    at_any (is_reached spans) (period_times r) place (span_of (flown (fdp, actual))) (map_at span_of (periods_in_force r) place (flown (fdp, actual)) in_force) reached

-- ---- The ids of the near periods

module _ (spans : List Span) where
  near_row : (records : List PeriodRecord) (id : List ℕ) → Contains (ids_near spans records) id →
      (it : PeriodRecord) × Has (map period_row records) (period_row it) × (is_period_near spans it ≡ true) × (it.pairing ≡ id)
  near_row [] id c = absurd (none_in id c)
  near_row (x ∷ xs) id c = elim (cases_Bool (is_period_near spans x)) [
    | inl near ↦ elim (first_or_later x.pairing (ids_near spans xs) id (rw near at c)) [
      | inl same ↦ (x, inl refl, near, same)
      | inr later ↦ let it = near_row xs id later in (it.0, inr it.1, it.2, it.3)
    ]
    | inr far ↦ let it = near_row xs id (rw far at c) in (it.0, inr it.1, it.2, it.3)
  ]

  near_id : (records : List PeriodRecord) (i : ℕ) (it : PeriodRecord) → slice_get records i ≡ Some it → is_period_near spans it ≡ true → Contains (ids_near spans records) it.pairing
  near_id [] i it e near = absurd (cc)
  near_id (x ∷ xs) zero it e near =
      let same : x ≡ it = cc in
      let here = ap (is_period_near spans) same ∙ near in
      rw here (is_first x.pairing (ids_near spans xs) it.pairing (ap (λ (r : PeriodRecord). r.pairing) same))
  near_id (x ∷ xs) (suc i) it e near = elim (cases_Bool (is_period_near spans x)) [
    | inl also ↦ rw also (is_later x.pairing (ids_near spans xs) it.pairing (near_id xs i it e near))
    | inr far ↦ rw far (near_id xs i it e near)
  ]

-- ---- The periods of the seats that a member holds

module _ {X Y : Type 0} (f : X → List Y) where
  of_many : (xs : List X) (y : Y) → Has (flat_map f xs) y → (x : X) × Has xs x × Has (f x) y
  of_many [] y h = absurd h
  of_many (x ∷ xs) y h = elim (has_either (f x) (flat_map f xs) y h) [
    | inl here ↦ (x, inl refl, here)
    | inr later ↦ let r = of_many xs y later in (r.0, inr r.1, r.2)
  ]

  in_many : (xs : List X) (x : X) (y : Y) → Has xs x → Has (f x) y → Has (flat_map f xs) y
  in_many [] x y h here = absurd h
  in_many (z ∷ zs) x y (inl same) here = has_left (f z) (flat_map f zs) y (subst (λ v. Has (f v) y) same here)
  in_many (z ∷ zs) x y (inr later) here = has_right (f z) (flat_map f zs) y (in_many zs x y later here)

module _ (who : List ℕ) (db : Database) (found : List Row) (finds : FindsHeld who db found) where
  abbrev of_one : Row → List Row
  of_one x = filter (is_of_seat who x) (rows_of (table period) db)

  of_held : (row : Row) → Has found row → (x : Row) × Has (rows_of (table seat) db) x × Has (rows_of (table period) db) row × (is_of_seat who x row ≡ true)
  of_held row h =
      let it = of_many of_one (rows_of (table seat) db) row (has_permuted found (flat_map of_one (rows_of (table seat) db)) row (IsPermutation-sym _ _ finds) h) in
      let of_filter = of_filtered (is_of_seat who it.0) (rows_of (table period) db) row it.2 in
      (it.0, it.1, of_filter.0, of_filter.1)

  in_held : (x row : Row) → Has (rows_of (table seat) db) x → Has (rows_of (table period) db) row → is_of_seat who x row ≡ true → Has found row
  in_held x row h k test =
      has_permuted (flat_map of_one (rows_of (table seat) db)) found row finds
      (in_many of_one (rows_of (table seat) db) x row h (has_filtered (is_of_seat who x) (rows_of (table period) db) row k test))

first_is : (id : List ℕ) (row : Row) {name : List ℕ} → column row 0 ≡ Text name → begins_with (Text id ∷ []) row ≡ true → column row 0 ≡ Text id
first_is id row is test = (columns_found (Text id ∷ []) row (subst IsPlain (sym is) tt, tt, tt) test).0

text_equal : (a b : List ℕ) → equals (Text a) (Text b) ≡ true → a ≡ b
text_equal a b e = text_same a b e

text_itself : (a : List ℕ) → equals (Text a) (Text a) ≡ true
text_itself a = ap is_eq (tied_itself value_cmp_total (Text a))

module _ (s : roster.State) (db : Database) (book : IsBookOf s db) (who : List ℕ) (records : List PeriodRecord) (finds : FindsHeld who db (map period_row records)) (spans : List Span) where
  of_near : (id : List ℕ) → Contains (ids_near spans records) id → IsHeldNear s spans who id
  of_near id c =
      let it = near_row spans records id c in
      let x = of_held who db (map period_row records) finds (period_row it.0) it.1 in
      let its_seat = (book.rows seat x.0).0 x.1 in
      let its = (book.rows period (period_row it.0)).0 x.2 in
      let tests = and_parts _ _ x.3 in
      let names : its.0.name ≡ its_seat.0.name =
      text_equal its.0.name its_seat.0.name (subst₂ (λ (a b : Row). equals (column a 0) (column b 0) ≡ true) its.2 its_seat.2 tests.0) in
      let crew : its_seat.1.crew ≡ who = text_equal its_seat.1.crew who (subst (λ (b : Row). equals (column b 2) (Text who) ≡ true) its_seat.2 tests.1) in
      let same_id : id ≡ its.0.name = sym it.3 ∙ text_is (ap (λ (r : Row). column r 0) its.2) in
      let value : its_seat.0.value ≡ its.0.value = one_value (ap (fin.get s.pairings) names ∙ its_seat.0.there) its.0.there in
      let p = its.1 in (
        its.0.value,
        ap (fin.get s.pairings) same_id ∙ its.0.there,
        subst (λ (r : PairingEntry). holds who r ≡ true) value (seat_held who its_seat.0.value its_seat.1.seat (its_seat.1.held ∙ ap Some crew)),
        reached_near spans its.0.value p.place p.fdp p.actual p.planned p.flown
            (reached_as spans (span_of (flown (p.fdp, p.actual))) (times_in_force it.0) (sym (times_are it.0 its.0.name p.place p.fdp p.actual its.2)) it.2),
      )

  in_near : (id : List ℕ) → IsHeldNear s spans who id → Contains (ids_near spans records) id
  in_near id is =
      let r = is.0 in
      let holder = some_seat who r is.2 in
      let at : At s.pairings = record { name = id; value = r; there = is.1 } in
      let held : HeldSeat r = record { seat = holder.0; crew = who; held = holder.1 } in
      let y = any_at (is_reached spans) (period_times r) is.3 in
      let f = at_map span_of (periods_in_force r) y.0 y.1 y.2 in
      let p = at_map flown (zip r.plan.periods r.actuals) y.0 f.0 f.1 in
      let both = at_zip r.plan.periods r.actuals y.0 p.0 p.1 in
      let of_r : PeriodOf r = record { place = y.0; fdp = p.0.0; actual = p.0.1; planned = both.0; flown = both.1 } in
      let seat_row = row_of_seat id holder.0 who in
      let row = row_of_period id y.0 p.0.0 p.0.1 in
      let there = in_held who db (map period_row records) finds seat_row row ((book.rows seat seat_row).1 (at, held, refl)) ((book.rows period row).1 (at, of_r, refl))
      (and_from _ _ (text_itself id) (text_itself who)) in
      let it = has_record period_row records row there in
      let same : span_of (flown p.0) ≡ y.1 = subst (λ (g : Fdp). span_of g ≡ y.1) (sym p.2) f.2 in
      let reached = reached_as spans (times_in_force it.1) (span_of (flown p.0)) (times_are it.1 id y.0 p.0.0 p.0.1 it.3) (reached_as spans (span_of (flown p.0)) y.1 same y.3) in
      subst (Contains (ids_near spans records)) (text_is (ap (λ (v : Row). column v 0) it.3)) (near_id spans records it.0 it.1 it.2 reached)

  pub near_are : AreJust (IsHeldNear s spans who) (ids_near spans records)
  near_are id = (of_near id, in_near id)

-- ---- The records of one pairing

module _ (test : PeriodRecord → Bool) where
  of_those : (records : List PeriodRecord) (row : Row) → Has (map period_row (filter test records)) row →
      (it : PeriodRecord) × Has (map period_row records) row × (period_row it ≡ row) × (test it ≡ true)
  of_those [] row h = absurd h
  of_those (x ∷ xs) row h = elim (cases_Bool (test x)) [
    | inl pass ↦
        let here : Has (map period_row (x ∷ filter test xs)) row = rw pass at h in
        elim here [
          | inl same ↦ (x, inl same, sym same, pass)
          | inr later ↦ let it = of_those xs row later in (it.0, inr it.1, it.2, it.3)
        ]
    | inr fail ↦
        let later : Has (map period_row (filter test xs)) row = rw fail at h in
        let it = of_those xs row later in (it.0, inr it.1, it.2, it.3)
  ]

  in_those : (records : List PeriodRecord) (row : Row) → Has (map period_row records) row → ((it : PeriodRecord) → period_row it ≡ row → test it ≡ true) →
      Has (map period_row (filter test records)) row
  in_those [] row h pass = absurd h
  in_those (x ∷ xs) row (inl same) pass = rw (pass x (sym same)) (inl same)
  in_those (x ∷ xs) row (inr later) pass = elim (cases_Bool (test x)) [
    | inl also ↦ rw also (inr (in_those xs row later pass))
    | inr fail ↦ rw fail (in_those xs row later pass)
  ]

-- in another order they are those of the same seats
pub held_in_order : (who : List ℕ) (db : Database) (held records : List PeriodRecord) → FindsHeld who db (map period_row held) → IsPermutation held records → FindsHeld who db (map period_row records)
held_in_order who db held records finds moved = IsPermutation-trans _ (map period_row held) (map period_row records) finds (IsPermutation-map period_row held records moved)

module _ (s : roster.State) (db : Database) (book : IsBookOf s db) (who : List ℕ) (records : List PeriodRecord) (finds : FindsHeld who db (map period_row records)) where
  periods_of : (id : List ℕ) (r : PairingEntry) → fin.get s.pairings id ≡ Some r → holds who r ≡ true → HasPeriodRows s id (records_of id records)
  periods_of id r here holds =
      let holder = some_seat who r holds in
      let at : At s.pairings = record { name = id; value = r; there = here } in
      let held : HeldSeat r = record { seat = holder.0; crew = who; held = holder.1 } in
      let seat_row = row_of_seat id holder.0 who in
      record {
        pairing = r;
        there = here;
        rows = λ row. (
          λ h.
              let it = of_those (λ x. bytes_eq x.pairing id) records row h in
              let x = of_held who db (map period_row records) finds row it.1 in
              let first : column row 0 ≡ Text id = ap (λ (v : Row). column v 0) (sym it.2) ∙ ap Text ((bytes_eq-Decides it.0.pairing id).0 it.3) in
              ((book.rows period row).0 x.2, passes (Text id ∷ []) row (first, tt)),
          λ h.
              let first = first_is id row (ap (λ (v : Row). column v 0) h.0.2) h.1 in
              let there = in_held who db (map period_row records) finds seat_row row ((book.rows seat seat_row).1 (at, held, refl)) ((book.rows period row).1 h.0)
              (and_from _ _ (ap (λ v. equals v (Text id)) first ∙ text_itself id) (text_itself who)) in
              in_those (λ x. bytes_eq x.pairing id) records row there
              (λ x same. (bytes_eq-Decides x.pairing id).1 (text_is (ap (λ (v : Row). column v 0) same ∙ first))),
        );
      }

  module _ (spans : List Span) where
    abbrev near_once : List (List ℕ)
    near_once = dedup bytes_eq (ids_near spans records)

    -- without those that stand twice the ids are the same
    pub once_near : AreJust (IsHeldNear s spans who) near_once
    once_near id = (
      λ c. (near_are s db book who records finds spans id).0 (Contains-from_dedup bytes_eq (ids_near spans records) id c),
      λ is. Contains-dedup nat_list_eq_equiv (λ x y e. (bytes_eq-Decides x y).0 e) (ids_near spans records) id ((near_are s db book who records finds spans id).1 is),
    )

    pub have_periods : HavePeriodRows s near_once records
    have_periods id c = let is = (once_near id).0 c in periods_of id is.0 is.1 is.2

-- ---- Where the tables are right, the times are instants

module _ (db : Database) (right : AreRight outside_segment db) (who : List ℕ) (records : List PeriodRecord) (finds : FindsHeld who db (map period_row records)) where
  pub has_instants : HasNoInstants records → ⊥
  has_instants x =
      let there = of_held who db (map period_row records) finds (period_row x.1) (record_has period_row records x.0 x.1 x.2) in
      let is = (segments_right db right).1.0.2 (period_row x.1) there.2 in
      let report : x.1.report_at ≡ is.it.report_at = number_is (ap (λ (r : Row). column r 2) is.is) in
      let release : x.1.release_at ≡ is.it.release_at = number_is (ap (λ (r : Row). column r 3) is.is) in
      let act_report : x.1.act_report ≡ is.it.act_report = numbers_same x.1.act_report is.it.act_report (ap (λ (r : Row). column r 4) is.is) in
      let act_release : x.1.act_release ≡ is.it.act_release = numbers_same x.1.act_release is.it.act_release (ap (λ (r : Row). column r 5) is.is) in
      x.3 (
        ap is_instant report ∙ is.report,
        ap is_instant release ∙ is.release,
        subst IsInstantIfAny (sym act_report) is.act_report,
        subst IsInstantIfAny (sym act_release) is.act_release,
      )
