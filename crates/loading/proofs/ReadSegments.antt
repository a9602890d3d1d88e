-- The table `segment`: when it fits as far as rows alone show.
use Rattle.std.proofs.Common.{◌≡◌, inl, inr, refl, sym, ap, subst, ◌∙◌, ℕ, pos, true, List, [], ◌∷◌, map, length, Some}
use Rattle.std.specs.FinMap as fin
use Rattle.std.specs.Prelude.{is_some}
use Rattle.sqlite_value.specs.declared.value.Value.TheVariants.{Int, Text}
use Rattle.sqlite_value.specs.Order.{Row, column}
use Rattle.sqlite_rules.specs.Lists.{Has}
use Rattle.sqlite.specs.Effect.{Database}
use Rattle.tables.proofs.KeyLemmas.{segment_once}
use Rattle.tables.specs.Records.{IsSegmentRow, period_row, segment_row}
use Rattle.tables.specs.Rows.{begins_with, rows_of}
use Rattle.tables.specs.Schema.{period_table, segment_table}
use Rattle.tables.specs.declared.period.PeriodRecord.{PeriodRecord}
use Rattle.tables.specs.declared.segment.SegmentRecord.{SegmentRecord}
use Rattle.entries.proofs.Mapping.{all_taken}
use Rattle.entries.proofs.PlanKeys.{segment_names_same}
use Rattle.state_rows.proofs.Tests.{passes}
use Rattle.state_rows.proofs.Values.{text_is, number_is}
use Rattle.entries.specs.Keyed.{IsKeyedSegment, SegmentsRead, AreSegmentsWhole, AreSegmentsWanting, name_of_segment, row_of_keyed_segment, IsSegmentTable}
use Rattle.loading.specs.PlanTables.{AreOfPeriods, HasPeriods, HasSegmentsOf}
use Rattle.entries.specs.PlanRows.{Periods, Segments, SegmentRows, AreSegmentsKeyed, HasNoGaps, period_name, segment_name}
use Rattle.entries.specs.Mapping.{AreOnce, HasStranger, Mapped, Under}
use Rattle.loading.specs.Reading.{HasRows, IsUnreadable}
use Rattle.state_rows.specs.Rows.{segment}
use Rattle.entries.specs.declared.plan_rows.SegmentKey.{SegmentKey}
use Rattle.entries.proofs.KeyedSegments.{names_same, same_record}

-- ---- The table

itself : (key : SegmentKey) (v : SegmentRecord) → begins_with (Text key.pairing ∷ Int (pos key.period) ∷ Int (pos key.number) ∷ []) (row_of_keyed_segment key v) ≡ true
itself key v = passes (Text key.pairing ∷ Int (pos key.period) ∷ Int (pos key.number) ∷ []) (row_of_keyed_segment key v) (refl, (refl, (refl, tt)))

module _ (db : Database) where
  pub not_unreadable : IsUnreadable segment IsSegmentRow db → IsSegmentTable db → ⊥
  not_unreadable (inl none) right = none right.0
  not_unreadable (inr x) right = x.3 (right.1 x.0 x.1)

  module _ (periods : Periods) (above : HasPeriods db periods) (records : List SegmentRecord) (read : HasRows segment db (map segment_row records)) where
    once : AreOnce row_of_keyed_segment (map segment_row records)
    once key v w first second =
        segment_once db read.database read.there.0 read.stored key.pairing (pos key.period) (pos key.number) (row_of_keyed_segment key v) (row_of_keyed_segment key w)
        ((read.all (row_of_keyed_segment key v)).1 first) ((read.all (row_of_keyed_segment key w)).1 second) (itself key v) (itself key w)

    -- a period with a row is there
    of_row : (p : PeriodRecord) → Has (rows_of period_table db) (period_row p) → fin.contains_key periods (period_name p.pairing p.number) ≡ true
    of_row p h =
        let it = (above.rows (period_row p)).0 h in
        let pairing : p.pairing ≡ it.0.pairing = text_is (ap (λ (r : Row). column r 0) it.2) in
        let number : p.number ≡ it.0.number = number_is (ap (λ (r : Row). column r 1) it.2) in
        ap (λ o. is_some o) (ap (fin.get periods) (λ i. period_name (pairing i) (number i)) ∙ it.1)

    strange : HasStranger row_of_keyed_segment (IsKeyedSegment periods) (map segment_row records) → IsSegmentTable db → ⊥
    strange s right =
        let is = right.2 s.row ((read.all s.row).1 s.here) in
        let p = is.of_period in
        s.strange (record { pairing = is.it.pairing; period = is.it.period; number = is.it.number }) is.it is.is (record {
          pairing = refl;
          period = refl;
          number = refl;
          of_period = ap (fin.contains_key periods) (λ i. period_name (sym p.2 i) (sym p.3 i)) ∙ of_row p.0 p.1;
        })

    module _ (m : Segments) (all : SegmentsRead periods records (length records) m) where
      mapped : Mapped name_of_segment row_of_keyed_segment (IsKeyedSegment periods) (map segment_row records) m
      mapped = subst (λ l. Mapped name_of_segment row_of_keyed_segment (IsKeyedSegment periods) l m) (all_taken segment_row records) (all.mapped once)

      keyed : AreSegmentsKeyed m
      keyed key it e = let known = mapped.known key it e in known.1 ∙ (λ i. segment_name (sym known.2.pairing i) (sym known.2.period i) (sym known.2.number i))

      of_periods : AreOfPeriods periods m
      of_periods key it e = (mapped.known key it e).2.of_period

      -- each has its row
      in_table : (key : List ℕ) (it : SegmentRecord) → fin.get m key ≡ Some it → Has (rows_of segment_table db) (segment_row it)
      in_table key it e =
          let known = mapped.known key it e in
          let here : row_of_keyed_segment known.0 it ≡ segment_row it =
          λ i. segment_row (record it { pairing = sym known.2.pairing i; period = sym known.2.period i; number = sym known.2.number i }) in
          (read.all (segment_row it)).1 (subst (Has (map segment_row records)) here
          (mapped.all (record { index = known.0; value = it; there = ap (fin.get m) (sym known.1) ∙ e })))

      under : (at : Under name_of_segment m) → IsKeyedSegment periods at.index at.value
      under at =
          let known = mapped.known (name_of_segment at.index) at.value at.there in
          subst (λ k. IsKeyedSegment periods k at.value) (sym (names_same at.index known.0 known.1)) known.2

      -- and the record of each row is there
      from_table : (it : SegmentRecord) → Has (rows_of segment_table db) (segment_row it) → fin.get m (segment_name it.pairing it.period it.number) ≡ Some it
      from_table it h =
          let at = mapped.has (segment_row it) ((read.all (segment_row it)).0 h) in
          let is = under at.0 in
          let same = same_record periods it at.0.index at.0.value at.1 is in
          let pairing = ap (λ (r : SegmentRecord). r.pairing) (sym same) ∙ is.pairing in
          let period = ap (λ (r : SegmentRecord). r.period) (sym same) ∙ is.period in
          let number = ap (λ (r : SegmentRecord). r.number) (sym same) ∙ is.number in
          ap (fin.get m) (λ i. segment_name (pairing i) (period i) (number i)) ∙ at.0.there ∙ ap Some same

      rows : (row : Row) → (Has (rows_of segment_table db) row → SegmentRows m row) × (SegmentRows m row → Has (rows_of segment_table db) row)
      rows row = (
        λ h.
            let at = mapped.has row ((read.all row).0 h) in
            let is = under at.0 in
            let here : row_of_keyed_segment at.0.index at.0.value ≡ segment_row at.0.value =
            λ i. segment_row (record at.0.value { pairing = sym is.pairing i; period = sym is.period i; number = sym is.number i }) in
            (at.0.value, ap (fin.get m) (λ i. segment_name (is.pairing i) (is.period i) (is.number i)) ∙ at.0.there, at.1 ∙ here),
        λ it. subst (Has (rows_of segment_table db)) (sym it.2) (in_table (segment_name it.0.pairing it.0.period it.0.number) it.0 it.1),
      )

      -- where the table fits, there is no gap
      ungapped : IsSegmentTable db → HasNoGaps m
      ungapped right pairing period number it e =
          let is = right.2 (segment_row it) (in_table (segment_name pairing period number) it e) in
          let names = segment_names_same pairing it.pairing period it.period number it.number (keyed (segment_name pairing period number) it e) in
          let same_pairing : it.pairing ≡ is.it.pairing = text_is (ap (λ (r : Row). column r 0) is.is) in
          let same_period : it.period ≡ is.it.period = number_is (ap (λ (r : Row). column r 1) is.is) in
          let same_number : it.number ≡ is.it.number = number_is (ap (λ (r : Row). column r 2) is.is) in
          elim is.no_gap [
            | inl one ↦ inl (names.2 ∙ same_number ∙ one)
            | inr p ↦
                let to_pairing = names.0 ∙ same_pairing ∙ sym p.2 in
                let to_period = names.1 ∙ same_period ∙ sym p.3 in
                inr (
                  p.0.number,
                  p.0,
                  p.4 ∙ sym same_number ∙ sym names.2,
                  ap (fin.get m) (λ i. segment_name (to_pairing i) (to_period i) p.0.number) ∙ from_table p.0 p.1,
                )
          ]

    pub has_whole : (m : Segments) → AreSegmentsWhole periods records (length records) m → HasSegmentsOf db periods m
    has_whole m all = record { stored = read.stored; there = read.there; rows = rows m all.0; keyed = keyed m all.0; of_periods = of_periods m all.0; ungapped = all.1 }

    pub wanting : AreSegmentsWanting periods records (length records) → IsSegmentTable db → ⊥
    wanting (inl s) right = strange s right
    wanting (inr m) right = m.2 (ungapped m.0 m.1 right)
