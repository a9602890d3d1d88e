-- The pairing that its records give is the state's.
use Rattle.std.proofs.Common.{◌≡◌, ◌↔◌, inl, inr, refl, sym, ap, subst, ◌∙◌, ℕ, zero, suc, pos, arith, Bool, true, List, [], ◌∷◌, length, map, Option, Some, None, slice_get, Result, Ok, Err, IfOk}
use Rattle.std.specs.FinMap as fin
use Rattle.std.specs.Prelude.{is_some}
use Rattle.std.specs.List.{list_all}
use Rattle.sqlite_value.specs.declared.value.Value.TheVariants.{Int, Text}
use Rattle.sqlite_value.specs.Order.{Row, column}
use Rattle.sqlite_rules.specs.Lists.{Has}
use Rattle.sqlite.specs.Effect.{Database}
use Rattle.sqlite.specs.State.{State, HasCleanDisk, IsUnchanged}
use Rattle.duty.specs.Pairings.{pairing_fault, count_fault, times_fault, chain_fault, are_shaped}
use Rattle.duty.specs.Plans.{Plan}
use Rattle.duty.specs.Shape.{is_id}
use Rattle.duty.specs.Words.{first_fault, unless}
use Rattle.duty.specs.declared.fault.DutyFault.{DutyFault}
use Rattle.duty.specs.declared.fault.DutyFault.TheVariants.{BadField}
use Rattle.duty.specs.declared.fault.Field.TheVariants as field
use Rattle.duty.specs.declared.fdp.Fdp.{Fdp}
use Rattle.command.specs.declared.member.Seat.{Seat}
use Rattle.command.specs.declared.member.Seat.TheVariants.{Captain, FirstOfficer}
use Rattle.roster.specs.Pairings.{holder}
use Rattle.roster.specs.Sound.{Sound}
use Rattle.roster.specs.State as roster
use Rattle.roster.specs.declared.state.PairingEntry.{PairingEntry}
use Rattle.tables.proofs.KeyLemmas.{period_once, segment_once}
use Rattle.tables.specs.Records.{period_row, seat_row, segment_row}
use Rattle.tables.specs.Rows.{Finds, begins_with}
use Rattle.tables.specs.declared.period.PeriodRecord.{PeriodRecord}
use Rattle.tables.specs.declared.seat.SeatRecord.{SeatRecord}
use Rattle.tables.specs.declared.segment.SegmentRecord.{SegmentRecord}
use Rattle.state_rows.specs.Rows.{table, period, seat, segment, row_of_period, row_of_seat, seat_number, At, PeriodOf, HeldSeat, InPeriod}
use Rattle.state_rows.proofs.Lists.{one_value}
use Rattle.state_rows.proofs.Tests.{found, passes}
use Rattle.state_rows.proofs.Values.{text_is, number_is, seats_same}
use Rattle.state_rows.specs.Kept.{IsBookOf}
use Rattle.state_rows.proofs.EachTable.{is_there}
use Rattle.state_rows.specs.Outcomes.{CrashAddsNothing}
use Rattle.entries.proofs.Mapping.{all_taken}
use Rattle.entries.proofs.KeyedPeriods.{names_same as period_keys_same}
use Rattle.entries.proofs.KeyedSegments.{names_same as segment_keys_same}
use Rattle.entries.proofs.SamePairings.{SamePlan}
use Rattle.entries.specs.Keyed.{Ids, IsKeyedPeriod, PeriodsRead, IsKeyedSegment, SegmentsRead, name_of_period, row_of_keyed_period, name_of_segment, row_of_keyed_segment}
use Rattle.entries.specs.OnePairing.{IsToldBy}
use Rattle.entries.specs.PlanRows.{ArePeriodsKeyed, AreSegmentsKeyed, PeriodRows, Periods, SegmentRows, Segments, period_name, segment_name}
use Rattle.entries.specs.Mapping.{AreOnce, Mapped, Under}
use Rattle.lookup.specs.Reads.{Shows}
use Rattle.lookup.specs.Plans.{FindsPlan, HoldsSeat, IfSome, TellsPairing}
use Rattle.lookup.specs.declared.pairing.PlanRecords.{PlanRecords}
use Rattle.lookup.proofs.ReadLemmas.{AreOf, are_of, in_found, of_found}
use Rattle.lookup.proofs.OnePairing.{pairing_is}

-- ---- Records by their keys

some_there : {A : Type 0} (o : Option A) → is_some o ≡ true → (a : A) × (o ≡ Some a)
some_there None e = absurd (cc)
some_there (Some a) e = (a, refl)

module _ (ids : Ids) (records : List PeriodRecord) (once : AreOnce row_of_keyed_period (map period_row records)) (m : Periods) (read : PeriodsRead ids records (length records) m) where
  mapped : Mapped name_of_period row_of_keyed_period (IsKeyedPeriod ids) (map period_row records) m
  mapped = subst (λ l. Mapped name_of_period row_of_keyed_period (IsKeyedPeriod ids) l m) (all_taken period_row records) (read.mapped once)

  pub periods_keyed : ArePeriodsKeyed m
  periods_keyed key it e = let known = mapped.known key it e in known.1 ∙ (λ i. period_name (sym known.2.pairing i) (sym known.2.number i))

  under_period : (at : Under name_of_period m) → IsKeyedPeriod ids at.index at.value
  under_period at = let known = mapped.known (name_of_period at.index) at.value at.there in subst (λ k. IsKeyedPeriod ids k at.value) (sym (period_keys_same at.index known.0 known.1)) known.2

  pub periods_just : (row : Row) → PeriodRows m row ↔ Has (map period_row records) row
  periods_just row = (
    λ it.
        let known = mapped.known (period_name it.0.pairing it.0.number) it.0 it.1 in
        let here : row_of_keyed_period known.0 it.0 ≡ period_row it.0 = λ i. period_row (record it.0 { pairing = sym known.2.pairing i; number = sym known.2.number i }) in
        subst (Has (map period_row records)) (here ∙ sym it.2)
        (mapped.all (record { index = known.0; value = it.0; there = ap (fin.get m) (sym known.1) ∙ it.1 })),
    λ h.
        let at = mapped.has row h in
        let is = under_period at.0 in
        let here : row_of_keyed_period at.0.index at.0.value ≡ period_row at.0.value = λ i. period_row (record at.0.value { pairing = sym is.pairing i; number = sym is.number i }) in
        (at.0.value, ap (fin.get m) (λ i. period_name (is.pairing i) (is.number i)) ∙ at.0.there, at.1 ∙ here),
  )

module _ (periods : Periods) (records : List SegmentRecord) (once : AreOnce row_of_keyed_segment (map segment_row records)) (n : Segments) (read : SegmentsRead periods records (length records) n) where
  mapped_segments : Mapped name_of_segment row_of_keyed_segment (IsKeyedSegment periods) (map segment_row records) n
  mapped_segments = subst (λ l. Mapped name_of_segment row_of_keyed_segment (IsKeyedSegment periods) l n) (all_taken segment_row records) (read.mapped once)

  pub segments_keyed : AreSegmentsKeyed n
  segments_keyed key it e = let known = mapped_segments.known key it e in known.1 ∙ (λ i. segment_name (sym known.2.pairing i) (sym known.2.period i) (sym known.2.number i))

  under_segment : (at : Under name_of_segment n) → IsKeyedSegment periods at.index at.value
  under_segment at = let known = mapped_segments.known (name_of_segment at.index) at.value at.there in subst (λ k. IsKeyedSegment periods k at.value) (sym (segment_keys_same at.index known.0 known.1)) known.2

  of_periods : (it : SegmentRecord) → fin.get n (segment_name it.pairing it.period it.number) ≡ Some it → (p : PeriodRecord) × (fin.get periods (period_name it.pairing it.period) ≡ Some p)
  of_periods it e = some_there _ (mapped_segments.known (segment_name it.pairing it.period it.number) it e).2.of_period

  pub segments_just : (row : Row) → SegmentRows n row ↔ Has (map segment_row records) row
  segments_just row = (
    λ it.
        let known = mapped_segments.known (segment_name it.0.pairing it.0.period it.0.number) it.0 it.1 in
        let here : row_of_keyed_segment known.0 it.0 ≡ segment_row it.0 = λ i. segment_row (record it.0 { pairing = sym known.2.pairing i; period = sym known.2.period i; number = sym known.2.number i }) in
        subst (Has (map segment_row records)) (here ∙ sym it.2)
        (mapped_segments.all (record { index = known.0; value = it.0; there = ap (fin.get n) (sym known.1) ∙ it.1 })),
    λ h.
        let at = mapped_segments.has row h in
        let is = under_segment at.0 in
        let here : row_of_keyed_segment at.0.index at.0.value ≡ segment_row at.0.value = λ i. segment_row (record at.0.value { pairing = sym is.pairing i; period = sym is.period i; number = sym is.number i }) in
        (at.0.value, ap (fin.get n) (λ i. segment_name (is.pairing i) (is.period i) (is.number i)) ∙ at.0.there, at.1 ∙ here),
  )

-- ---- A plan has a period

no_first : (fault : Option DutyFault) (rest : List (Option DutyFault)) → first_fault (fault ∷ rest) ≡ None → (fault ≡ None) × (first_fault rest ≡ None)
no_first None rest e = (refl, e)
no_first (Some fault) rest e = absurd (cc)

counted : (p : Plan) → pairing_fault p ≡ None → count_fault p.periods ≡ None
unfolding pairing_fault
counted p e =
    let shaped = (no_first (unless (is_id p.id) (BadField field.Pairing)) (unless (list_all are_shaped p.periods) (BadField field.Periods) ∷ count_fault p.periods ∷ times_fault p.periods ∷ chain_fault p.periods ∷ []) e).1 in
    let all = (no_first (unless (list_all are_shaped p.periods) (BadField field.Periods)) (count_fault p.periods ∷ times_fault p.periods ∷ chain_fault p.periods ∷ []) shaped).1 in
    (no_first (count_fault p.periods) (times_fault p.periods ∷ chain_fault p.periods ∷ []) all).0

first_period : (periods : List Fdp) → count_fault periods ≡ None → (fdp : Fdp) × (slice_get periods 0 ≡ Some fdp)
unfolding count_fault
first_period [] e = absurd (cc)
first_period (fdp ∷ fdps) e = (fdp, refl)

first_of : {A B : Type 0} (xs : List A) (ys : List B) → length xs ≡ length ys → (y : B) → slice_get ys 0 ≡ Some y → (x : A) × (slice_get xs 0 ≡ Some x)
first_of [] [] count y e = absurd (cc)
first_of [] (z ∷ zs) count y e = absurd (omega (arith, count))
first_of (x ∷ xs) ys count y e = (x, refl)

-- ---- Records and their rows

module _ {A : Type 0} (row_of : A → Row) where
  pub has_record : (records : List A) (row : Row) → Has (map row_of records) row → (i : ℕ) × (it : A) × (slice_get records i ≡ Some it) × (row_of it ≡ row)
  has_record [] row h = absurd h
  has_record (x ∷ xs) row (inl same) = (0, x, refl, sym same)
  has_record (x ∷ xs) row (inr later) = let it = has_record xs row later in (suc it.0, it.1, it.2, it.3)

  pub record_has : (records : List A) (i : ℕ) (it : A) → slice_get records i ≡ Some it → Has (map row_of records) (row_of it)
  record_has [] i it e = absurd (cc)
  record_has (x ∷ xs) zero it e = inl (let same : x ≡ it = cc in ap row_of (sym same))
  record_has (x ∷ xs) (suc i) it e = inr (record_has xs i it e)

-- ---- The pairing

module _ (s : roster.State) (sound : Sound s) (db : Database) (book : IsBookOf s db) (id : List ℕ) where
  abbrev by_id : Row → Bool
  by_id = begins_with (Text id ∷ [])

  -- the first period's row
  pub first_row : (r : PairingEntry) → fin.get s.pairings id ≡ Some r → (row : Row) × InPeriod s row × (by_id row ≡ true)
  first_row r here =
      let is = sound.pairings id r here in
      let fdp = first_period r.plan.periods (counted r.plan is.plan) in
      let actual = first_of r.actuals r.plan.periods is.places fdp.0 fdp.1 in
      let at : At s.pairings = record { name = id; value = r; there = here } in
      let p : PeriodOf r = record { place = 0; fdp = fdp.0; actual = actual.0; planned = fdp.1; flown = actual.1 } in
      let row = row_of_period id 0 fdp.0 actual.0 in
      (row, (at, p, refl), passes (Text id ∷ []) row (refl, tt))

  none_there : (o : Option PairingEntry) → fin.get s.pairings id ≡ o → Finds (table period) by_id db [] → o ≡ None
  none_there None here finds = refl
  none_there (Some r) here finds =
      let first = first_row r here in
      absurd (in_found period by_id db [] finds first.0 ((book.rows period first.0).1 first.1) first.2)

  -- a row of a seat with this id
  module _ (r : PairingEntry) (here : fin.get s.pairings id ≡ Some r) (records : List SeatRecord) (finds : Finds (table seat) by_id db (map seat_row records)) where
    held_by : (x : Seat) (row : SeatRecord) → Has (map seat_row records) (seat_row row) → row.seat ≡ seat_number x → holder x r ≡ Some row.crew
    held_by x row h number =
        let there = of_found seat by_id db (map seat_row records) finds (seat_row row) h in
        let at = (book.rows seat (seat_row row)).0 there.0 in
        let e = at.2 in
        let at_column = λ (k : ℕ). ap (λ (v : Row). column v k) e in
        let same_id : id ≡ at.0.name = sym (text_is (found (Text id ∷ []) (seat_row row) (tt, tt, tt) there.1).0) ∙ text_is (at_column 0) in
        let same_seat : x ≡ at.1.seat = seats_same x at.1.seat (sym number ∙ number_is (at_column 1)) in
        let crew : row.crew ≡ at.1.crew = text_is (at_column 2) in
        let value : r ≡ at.0.value = one_value here (ap (fin.get s.pairings) same_id ∙ at.0.there) in
        (λ i. holder (same_seat i) (value i)) ∙ at.1.held ∙ ap Some (sym crew)

    none_held : (x : Seat) → ((i : ℕ) (row : SeatRecord) → slice_get records i ≡ Some row → row.seat ≡ seat_number x → ⊥) → (o : Option (List ℕ)) → holder x r ≡ o → None ≡ o
    none_held x none None e = refl
    none_held x none (Some who) e =
        let at : At s.pairings = record { name = id; value = r; there = here } in
        let h : HeldSeat r = record { seat = x; crew = who; held = e } in
        let row = row_of_seat id x who in
        let kept = in_found seat by_id db (map seat_row records) finds row ((book.rows seat row).1 (at, h, refl)) (passes (Text id ∷ []) row (refl, tt)) in
        let it = has_record seat_row records row kept in
        absurd (none it.0 it.1 it.2 (number_is (ap (λ (v : Row). column v 1) it.3)))

    holder_is : (x : Seat) (o : Option (List ℕ)) → HoldsSeat (seat_number x) records o → o ≡ holder x r
    holder_is x None none = none_held x none (holder x r) refl
    holder_is x (Some who) it = ap Some it.4 ∙ sym (held_by x it.1 (record_has seat_row records it.0 it.1 it.2) it.3)

  module _ (periods : List PeriodRecord) (segments : List SegmentRecord) (finds : AreOf period by_id db (map period_row periods)) (also : AreOf segment by_id db (map segment_row segments)) where
    pub once_period : AreOnce row_of_keyed_period (map period_row periods)
    once_period key v w first second =
        let itself = λ (x : PeriodRecord). passes (Text key.pairing ∷ Int (pos key.number) ∷ []) (row_of_keyed_period key x) (refl, (refl, tt)) in
        period_once db book.database (is_there db.schema book.tables period) (book.stored period) key.pairing (pos key.number) (row_of_keyed_period key v) (row_of_keyed_period key w)
        (finds.there (row_of_keyed_period key v) first).0 (finds.there (row_of_keyed_period key w) second).0 (itself v) (itself w)

    pub once_segment : AreOnce row_of_keyed_segment (map segment_row segments)
    once_segment key v w first second =
        let itself = λ (x : SegmentRecord). passes (Text key.pairing ∷ Int (pos key.period) ∷ Int (pos key.number) ∷ []) (row_of_keyed_segment key x) (refl, (refl, (refl, tt))) in
        segment_once db book.database (is_there db.schema book.tables segment) (book.stored segment) key.pairing (pos key.period) (pos key.number) (row_of_keyed_segment key v) (row_of_keyed_segment key w)
        (also.there (row_of_keyed_segment key v) first).0 (also.there (row_of_keyed_segment key w) second).0 (itself v) (itself w)

    pub plan_is : (r free : PairingEntry) → fin.get s.pairings id ≡ Some r → IsToldBy id periods segments free → SamePlan r free
    plan_is r free here told =
        let of_p = periods_just told.ids periods once_period told.by_number told.periods_read in
        let of_s = segments_just told.by_number segments once_segment told.by_numbers told.segments_read in
        pairing_is s db book sound id r free here told.by_number told.by_numbers
        (periods_keyed told.ids periods once_period told.by_number told.periods_read)
        (segments_keyed told.by_number segments once_segment told.by_numbers told.segments_read)
        told.told
        (λ row. (λ it. finds.there row ((of_p row).0 it), λ h. (of_p row).1 (finds.here row h.0 h.1)))
        (λ row. (λ it. also.there row ((of_s row).0 it), λ h. (of_s row).1 (also.here row h.0 h.1)))
        (of_periods told.by_number segments once_segment told.by_numbers told.segments_read)

  pub pairing_told : (periods : List PeriodRecord) (segments : List SegmentRecord) (seats : List SeatRecord) (answer : Option PairingEntry) →
      Finds (table period) by_id db (map period_row periods) → IfSome periods (Finds (table segment) by_id db (map segment_row segments)) →
      IfSome periods (Finds (table seat) by_id db (map seat_row seats)) → TellsPairing id periods segments seats answer → answer ≡ fin.get s.pairings id
  pairing_told [] segments seats answer finds also held told = told ∙ sym (none_there (fin.get s.pairings id) refl finds)
  pairing_told (p ∷ ps) segments seats answer finds also held told =
      let q = told.0 in
      let it = told.2 in
      let there = of_found period by_id db (map period_row (p ∷ ps)) finds (period_row p) (inl refl) in
      let at = (book.rows period (period_row p)).0 there.0 in
      let same_id : id ≡ at.0.name = sym (text_is (found (Text id ∷ []) (period_row p) (tt, tt, tt) there.1).0) ∙ text_is (ap (λ (v : Row). column v 0) at.2) in
      let here : fin.get s.pairings id ≡ Some at.0.value = ap (fin.get s.pairings) same_id ∙ at.0.there in
      let same = plan_is (p ∷ ps) segments (are_of period by_id db (map period_row (p ∷ ps)) finds) (are_of segment by_id db (map segment_row segments) also) at.0.value it.free here it.told in
      let captain = holder_is at.0.value here seats held Captain q.captain it.captain in
      let first_officer = holder_is at.0.value here seats held FirstOfficer q.first_officer it.first_officer in
      let value : q ≡ at.0.value = λ i. record {
        plan = (it.plan ∙ sym same.plan) i;
        actuals = (it.actuals ∙ sym same.actuals) i;
        captain = captain i;
        first_officer = first_officer i;
      } in
      told.1 ∙ ap Some value ∙ sym here

pub plan_told : {E : Type 0} (old new : State) (s : roster.State) (id : List ℕ) (rows : PlanRecords) (result : Result (Option PairingEntry) E) → HasCleanDisk new →
    IsUnchanged old new → FindsPlan id old.now rows → CrashAddsNothing old new → Shows old s →
    IfOk result (TellsPairing id rows.periods.items rows.segments.items rows.seats.items) → IfOk result (λ a. Shows new s × (a ≡ fin.get s.pairings id))
plan_told old new s id rows (Err fault) clean same finds left shows told = tt
plan_told old new s id rows (Ok a) clean same finds left shows told = (
  record {
    sound = shows.sound;
    instants = shows.instants;
    book = λ now opened. subst (λ (db : Database). IsBookOf s db) (sym same.0.now_is) (shows.book (left.disk now) same.0.was_open);
  },
  pairing_told s shows.sound old.now (shows.book (left.disk clean) same.0.was_open) id rows.periods.items rows.segments.items rows.seats.items a finds.periods finds.segments finds.seats told,
)
