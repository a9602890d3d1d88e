-- The outside periods that are read are the state's.
use Rattle.std.proofs.Common.{◌≡◌, ◌↔◌, inl, inr, refl, sym, ap, subst, ◌∙◌, arith, ℕ, ◌+◌, Bool, true, List, [], ◌∷◌, map, Contains, Option, Some, None, slice_get}
use Rattle.std.specs.FinMap as fin
use Rattle.std.specs.Ordering.{is_eq}
use Rattle.std.proofs.lemmas.Cmp.{tied_itself}
use Rattle.std.proofs.lemmas.Slice.Eq.{bytes_eq-Decides}
use Rattle.sqlite_value.specs.Order.{Row, column, value_cmp}
use Rattle.sqlite_value.specs.declared.value.Value.TheVariants.{Text}
use Rattle.sqlite_value.proofs.OrderLemmas.{value_cmp_total}
use Rattle.sqlite_rules.specs.Lists.{Has}
use Rattle.sqlite.specs.Effect.{Database}
use Rattle.duty.specs.Plans.{OutsidePlan}
use Rattle.duty.specs.declared.segment.BlockTimes.{BlockTimes}
use Rattle.stored_json.specs.Instants.{is_instant}
use Rattle.roster.proofs.Members.{first_or_later, is_first, is_later, none_in}
use Rattle.roster.specs.Holding.{AreJust, IsOutsideOf}
use Rattle.roster.specs.Sound.{Sound}
use Rattle.roster.specs.State as roster
use Rattle.roster.specs.declared.state.OutsideEntry.{OutsideEntry}
use Rattle.tables.specs.Records.{outside_row, outside_segment_row}
use Rattle.tables.specs.Rows.{Finds, begins_with, equals_at, rows_of}
use Rattle.tables.specs.Schema.{outside_segment_table}
use Rattle.tables.specs.declared.outside.OutsideRecord.{OutsideRecord}
use Rattle.tables.specs.declared.outside_segment.OutsideSegmentRecord.{OutsideSegmentRecord}
use Rattle.state_rows.specs.Rows.{table, outside, outside_segment, row_of_outside, row_of_outside_segment, At, HasJust, InOutsideSegment, OutsideSegmentOf}
use Rattle.state_rows.specs.declared.fault.StoreFault.{StoreFault}
use Rattle.state_rows.specs.declared.fault.StoreFault.TheVariants.{Store}
use Rattle.state_rows.proofs.Lists.{one_value, same_list, some_same}
use Rattle.state_rows.proofs.Tests.{found, passes, IsPlain}
use Rattle.state_rows.proofs.Values.{number_is, text_is}
use Rattle.state_rows.specs.Kept.{IsBookOf}
use Rattle.entries.specs.Right.{AreRight}
use Rattle.entries.specs.OneOutside.{IsOutsideToldBy, GiveNoOutside}
use Rattle.entries.specs.Faults.{Blames}
use Rattle.entries.specs.declared.fault.LoadFault.{LoadFault}
use Rattle.entries.specs.declared.fault.LoadFault.TheVariants.{NotABook, Version, Damaged, Fault}
use Rattle.entries.specs.declared.fault.TableName.TheVariants as table_name
use Rattle.lookup.specs.Outsides.{FindsOutside, HasFirstOutside, outside_ids_in}
use Rattle.lookup.specs.Plans.{IfSome, unread_as}
use Rattle.lookup.specs.Reads.{HaveNone}
use Rattle.lookup.specs.declared.outside.OutsideRecords.{OutsideRecords}
use Rattle.lookup.proofs.HeldLemmas.{text_same}
use Rattle.lookup.proofs.ReadLemmas.{in_found, of_found}
use Rattle.lookup.proofs.RightRows.{of_second}

-- ---- What the first record says

pub none_told : (records : List OutsideRecord) (segments : List OutsideSegmentRecord) → slice_get records 0 ≡ None → HasFirstOutside records segments None
none_told [] segments here = refl
none_told (x ∷ xs) segments here = absurd (cc)

pub first_told : (records : List OutsideRecord) (segments : List OutsideSegmentRecord) (row : OutsideRecord) (o : OutsideEntry) → slice_get records 0 ≡ Some row → IsOutsideToldBy row segments o →
    HasFirstOutside records segments (Some o)
first_told [] segments row o here told = absurd (cc)
first_told (x ∷ xs) segments row o here told = (o, refl, subst (λ (r : OutsideRecord). IsOutsideToldBy r segments o) (sym (some_same here)) told)

untold_if : (row : OutsideRecord) (segments : List OutsideSegmentRecord) (fault : LoadFault) → Blames table_name.OutsideSegment (GiveNoOutside row segments) fault → unread_as fault ≡ Store → GiveNoOutside row segments
untold_if row segments (Fault fault) blames is = absurd (cc)
untold_if row segments NotABook blames is = absurd blames
untold_if row segments Version blames is = absurd blames
untold_if row segments (Damaged name) blames is = blames.1

pub not_told : (records : List OutsideRecord) (segments : List OutsideSegmentRecord) (row : OutsideRecord) (fault : LoadFault) (told : StoreFault) → slice_get records 0 ≡ Some row → told ≡ unread_as fault →
    Blames table_name.OutsideSegment (GiveNoOutside row segments) fault → told ≡ Store → HaveNone (HasFirstOutside records segments)
not_told [] segments row fault told here same blames is found first = absurd (cc)
not_told (x ∷ xs) segments row fault told here same blames is found first =
    untold_if row segments fault blames (sym same ∙ is) first.0 (subst (λ (r : OutsideRecord). IsOutsideToldBy r segments first.0) (some_same here) first.2)

-- ---- The segments of one outside period

-- the record of a segment says its place and times
segment_is : (id other : List ℕ) (i j : ℕ) (t u : BlockTimes) → row_of_outside_segment id i t ≡ row_of_outside_segment other j u → (i ≡ j) × (t ≡ u)
segment_is id other i j t u e =
    let at_column = λ (k : ℕ). ap (λ (r : Row). column r k) e in
    let number : i + 1 ≡ j + 1 = number_is (at_column 1) in
    let block_out : t.block_out ≡ u.block_out = number_is (at_column 2) in
    let block_in : t.block_in ≡ u.block_in = number_is (at_column 3) in
    (omega (arith, number), λ k. record { block_out = block_out k; block_in = block_in k })

-- outside periods with the same rows of segments have the same segments
kept_in : (id other : List ℕ) (o p : OutsidePlan) →
    ((row : Row) → (g : OutsideSegmentOf o) × (row ≡ row_of_outside_segment id g.place g.times) → (g : OutsideSegmentOf p) × (row ≡ row_of_outside_segment other g.place g.times)) →
    (i : ℕ) (t : BlockTimes) → slice_get o.segments i ≡ Some t → slice_get p.segments i ≡ Some t
kept_in id other o p to i t e =
    let g = to (row_of_outside_segment id i t) (record { place = i; times = t; flown = e }, refl) in
    let same = segment_is id other i g.0.place t g.0.times g.1 in
    ap (slice_get p.segments) same.0 ∙ g.0.flown ∙ ap Some (sym same.1)

-- ---- The tables

-- the rows of the segments of one outside period are those that the table has under its id
abbrev AreSegmentsOf : Database → List ℕ → OutsidePlan → Type 0
AreSegmentsOf db id o = (row : Row) →
    ((Has (rows_of outside_segment_table db) row × (begins_with (Text id ∷ []) row ≡ true) → (g : OutsideSegmentOf o) × (row ≡ row_of_outside_segment id g.place g.times))
    × ((g : OutsideSegmentOf o) × (row ≡ row_of_outside_segment id g.place g.times) → Has (rows_of outside_segment_table db) row × (begins_with (Text id ∷ []) row ≡ true)))

-- of a state whose rows the table has
segments_of : (s : roster.State) (db : Database) → HasJust outside_segment_table db (InOutsideSegment s) → (id : List ℕ) (o : OutsideEntry) → fin.get s.outsides id ≡ Some o → AreSegmentsOf db id o.period
segments_of s db just id o there row = (
  λ h.
      let at = (just row).0 h.0 in
      let name_is = ap (λ (r : Row). column r 0) at.2 in
      let test = (found (Text id ∷ []) row (subst IsPlain (sym name_is) tt, tt, tt) h.1).0 in
      let same_id : at.0.name ≡ id = text_is (sym name_is ∙ test) in
      let same : at.0.value ≡ o = one_value (ap (fin.get s.outsides) (sym same_id) ∙ at.0.there) there in
      let flown : slice_get o.period.segments at.1.place ≡ Some at.1.times = ap (λ (x : OutsideEntry). slice_get x.period.segments at.1.place) (sym same) ∙ at.1.flown in
      (record { place = at.1.place; times = at.1.times; flown = flown }, at.2 ∙ ap (λ name. row_of_outside_segment name at.1.place at.1.times) same_id),
  λ g.
      let at : At s.outsides = record { name = id; value = o; there = there } in
      ((just row).1 (at, g.0, g.1), passes (Text id ∷ []) row (ap (λ (r : Row). column r 0) g.1, tt)),
)

-- and what was read of them
module _ (db : Database) (id other : List ℕ) (same_id : other ≡ id) (o : OutsidePlan) (of_table : AreSegmentsOf db id o) (segments : List OutsideSegmentRecord)
    (finds : Finds (table outside_segment) (begins_with (Text id ∷ [])) db (map outside_segment_row segments)) where
  read_of : (row : Row) → Has (map outside_segment_row segments) row ↔ ((g : OutsideSegmentOf o) × (row ≡ row_of_outside_segment other g.place g.times))
  read_of row = (
    λ h.
        let g = (of_table row).0 (of_found outside_segment (begins_with (Text id ∷ [])) db (map outside_segment_row segments) finds row h) in
        (g.0, g.1 ∙ ap (λ name. row_of_outside_segment name g.0.place g.0.times) (sym same_id)),
    λ g.
        let h = (of_table row).1 (g.0, g.1 ∙ ap (λ name. row_of_outside_segment name g.0.place g.0.times) same_id) in
        in_found outside_segment (begins_with (Text id ∷ [])) db (map outside_segment_row segments) finds row h.0 h.1,
  )

-- ---- The outside period of the state

module _ (s : roster.State) (sound : Sound s) (db : Database) (is_book : IsBookOf s db) where
  module _ (id : List ℕ) where
    abbrev by_id : Row → Bool
    by_id = begins_with (Text id ∷ [])

    none_flown : (o : Option OutsideEntry) → fin.get s.outsides id ≡ o → Finds (table outside) by_id db [] → o ≡ None
    none_flown None here finds = refl
    none_flown (Some o) here finds =
        let row = row_of_outside id o in
        let at : At s.outsides = record { name = id; value = o; there = here } in
        absurd (in_found outside by_id db [] finds row ((is_book.rows outside row).1 (at, refl)) (passes (Text id ∷ []) row (refl, tt)))

    outside_is : (records : List OutsideRecord) (segments : List OutsideSegmentRecord) (answer : Option OutsideEntry) → HasFirstOutside records segments answer →
        Finds (table outside) by_id db (map outside_row records) → IfSome records (Finds (table outside_segment) by_id db (map outside_segment_row segments)) → answer ≡ fin.get s.outsides id
    outside_is [] segments answer first finds also = first ∙ sym (none_flown (fin.get s.outsides id) refl finds)
    outside_is (row ∷ rows) segments answer first finds also =
        let there = of_found outside by_id db (map outside_row (row ∷ rows)) finds (outside_row row) (inl refl) in
        let at = (is_book.rows outside (outside_row row)).0 there.0 in
        let at_column = λ (k : ℕ). ap (λ (x : Row). column x k) at.1 in
        let row_id : row.id ≡ id = text_is (found (Text id ∷ []) (outside_row row) (tt, tt, tt) there.1).0 in
        let same_id : id ≡ at.0.name = sym row_id ∙ text_is (at_column 0) in
        let here : fin.get s.outsides id ≡ Some at.0.value = ap (fin.get s.outsides) same_id ∙ at.0.there in
        let o = first.0 in
        let told = first.2 in
        let read = read_of db id row.id row_id at.0.value.period (segments_of s db (is_book.rows outside_segment) id at.0.value here) segments also in
        let crew : o.crew ≡ at.0.value.crew = told.crew ∙ text_is (at_column 1) in
        let named : o.period.id ≡ at.0.value.period.id = told.named ∙ text_is (at_column 0) ∙ sym (sound.outsides at.0.name at.0.value at.0.there).named in
        let report : o.period.report ≡ at.0.value.period.report = told.report ∙ number_is (at_column 2) in
        let release : o.period.release ≡ at.0.value.period.release = told.release ∙ number_is (at_column 3) in
        let segments_are : o.period.segments ≡ at.0.value.period.segments = same_list o.period.segments at.0.value.period.segments
        (kept_in row.id row.id o.period at.0.value.period (λ r g. (read r).0 ((told.rows r).1 g)))
        (kept_in row.id row.id at.0.value.period o.period (λ r g. (told.rows r).0 ((read r).1 g))) in
        let same : o ≡ at.0.value = λ i. record { crew = crew i; period = record { id = named i; report = report i; release = release i; segments = segments_are i } } in
        first.1 ∙ ap Some same ∙ sym here

    pub outside_found : (rows : OutsideRecords) → FindsOutside id db rows → (answer : Option OutsideEntry) → HasFirstOutside rows.periods.items rows.segments.items answer → answer ≡ fin.get s.outsides id
    outside_found rows finds answer first = outside_is rows.periods.items rows.segments.items answer first finds.periods finds.segments

  -- ---- The outside periods of a member

  has_row : (records : List OutsideRecord) (id : List ℕ) → Contains (outside_ids_in records) id → (it : OutsideRecord) × Has (map outside_row records) (outside_row it) × (it.id ≡ id)
  has_row [] id c = absurd (none_in id c)
  has_row (row ∷ rows) id c = elim (first_or_later row.id (outside_ids_in rows) id c) [
    | inl same ↦ (row, inl refl, same)
    | inr later ↦ let it = has_row rows id later in (it.0, inr it.1, it.2)
  ]

  row_id : (records : List OutsideRecord) (row : Row) (id : List ℕ) → Has (map outside_row records) row → column row 0 ≡ Text id → Contains (outside_ids_in records) id
  row_id [] row id h first = absurd h
  row_id (x ∷ xs) row id (inl same) first = is_first x.id (outside_ids_in xs) id (text_is (ap (λ (r : Row). column r 0) (sym same) ∙ first))
  row_id (x ∷ xs) row id (inr later) first = is_later x.id (outside_ids_in xs) id (row_id xs row id later first)

  pub outsides_are : (who : List ℕ) (records : List OutsideRecord) → Finds (table outside) (equals_at 1 (Text who)) db (map outside_row records) →
      (ids : List (List ℕ)) → ids ≡ outside_ids_in records → AreJust (IsOutsideOf s who) ids
  outsides_are who records finds ids are = subst (AreJust (IsOutsideOf s who)) (sym are) (λ id. (
    λ c.
        let it = has_row records id c in
        let there = of_found outside (equals_at 1 (Text who)) db (map outside_row records) finds (outside_row it.0) it.1 in
        let at = (is_book.rows outside (outside_row it.0)).0 there.0 in
        let at_column = λ (k : ℕ). ap (λ (x : Row). column x k) at.1 in
        let same_id : id ≡ at.0.name = sym it.2 ∙ text_is (at_column 0) in
        let crew : at.0.value.crew ≡ who = sym (text_is (at_column 1)) ∙ text_same it.0.crew who there.1 in
        (at.0.value, ap (fin.get s.outsides) same_id ∙ at.0.there, (bytes_eq-Decides at.0.value.crew who).1 crew),
    λ is.
        let row = row_of_outside id is.0 in
        let at : At s.outsides = record { name = id; value = is.0; there = is.1 } in
        let crew : is.0.crew ≡ who = (bytes_eq-Decides is.0.crew who).0 is.2 in
        let test : equals_at 1 (Text who) row ≡ true = ap (λ v. is_eq (value_cmp (Text v) (Text who))) crew ∙ ap is_eq (tied_itself value_cmp_total (Text who)) in
        row_id records row id (in_found outside (equals_at 1 (Text who)) db (map outside_row records) finds row ((is_book.rows outside row).1 (at, refl)) test) refl,
  ))

-- ---- Where the tables are right

-- what is read is an outside period, or that there is none
module _ (db : Database) (right : AreRight outside_segment db) (id : List ℕ) where
  abbrev t : roster.State
  t = right.0

  outside_in : (records : List OutsideRecord) (segments : List OutsideSegmentRecord) → Finds (table outside) (begins_with (Text id ∷ [])) db (map outside_row records) →
      IfSome records (Finds (table outside_segment) (begins_with (Text id ∷ [])) db (map outside_segment_row segments)) → (answer : Option OutsideEntry) × HasFirstOutside records segments answer
  outside_in [] segments finds also = (None, refl)
  outside_in (row ∷ rows) segments finds also =
      let there = of_found outside (begins_with (Text id ∷ [])) db (map outside_row (row ∷ rows)) finds (outside_row row) (inl refl) in
      let second = of_second db right (outside_row row) there.0 in
      let fit = second.fit.rows (outside_row row) there.0 in
      let at = (second.outsides (outside_row row)).0 there.0 in
      let at_column = λ (k : ℕ). ap (λ (x : Row). column x k) at.1 in
      let row_id : row.id ≡ id = text_is (found (Text id ∷ []) (outside_row row) (tt, tt, tt) there.1).0 in
      let same_id : id ≡ at.0.name = sym row_id ∙ text_is (at_column 0) in
      let here : fin.get t.outsides id ≡ Some at.0.value = ap (fin.get t.outsides) same_id ∙ at.0.there in
      let made = right.1.3 at.0.name at.0.value at.0.there in (
        Some at.0.value,
        (
          at.0.value,
          refl,
          record {
            crew = sym (text_is (at_column 1));
            named = made.named ∙ sym (text_is (at_column 0));
            report = sym (number_is (at_column 2));
            release = sym (number_is (at_column 3));
            report_instant = ap is_instant (number_is (ap (λ (x : Row). column x 2) fit.is)) ∙ fit.report;
            release_instant = ap is_instant (number_is (ap (λ (x : Row). column x 3) fit.is)) ∙ fit.release;
            instants = made.instants;
            made = made.made;
            rows = read_of db id row.id row_id at.0.value.period (segments_of t db second.segments id at.0.value here) segments also;
          },
        ),
      )

  pub outside_there : (rows : OutsideRecords) → FindsOutside id db rows → (answer : Option OutsideEntry) × HasFirstOutside rows.periods.items rows.segments.items answer
  outside_there rows finds = outside_in rows.periods.items rows.segments.items finds.periods finds.segments
