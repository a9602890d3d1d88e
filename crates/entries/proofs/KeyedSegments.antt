-- The records of `segment` by their keys.
use Rattle.std.proofs.Common.{◌≡◌, refl, sym, ap, subst, ◌∙◌, ℕ, ◌+◌, true, false, List, map, take, Option, Some, None, slice_get}
use Rattle.std.specs.FinMap as fin
use Rattle.sqlite_value.specs.Order.{Row, column}
use Rattle.tables.specs.Records.{segment_row}
use Rattle.tables.specs.declared.segment.SegmentRecord.{SegmentRecord}
use Rattle.entries.proofs.Mapping.{nothing_mapped, next_mapped, mapped_at, mapped_place}
use Rattle.entries.proofs.PlanKeys.{segment_names_same}
use Rattle.state_rows.proofs.Values.{text_is, number_is, numbers_same}
use Rattle.entries.specs.Keyed.{IsKeyedSegment, SegmentsRead, name_of_segment, row_of_keyed_segment}
use Rattle.entries.specs.PlanRows.{Periods, Segments, period_name}
use Rattle.entries.specs.Mapping.{HasStranger, Mapped, TellsOf}
use Rattle.entries.specs.declared.plan_rows.SegmentKey.{SegmentKey}

pub names_same : (i j : SegmentKey) → name_of_segment i ≡ name_of_segment j → i ≡ j
names_same i j e =
    let it = segment_names_same i.pairing j.pairing i.period j.period i.number j.number e in
    λ k. record { pairing = it.0 k; period = it.1 k; number = it.2 k }

-- the record whose row it is under a key
module _ (periods : Periods) (it : SegmentRecord) (key : SegmentKey) (v : SegmentRecord) (e : segment_row it ≡ row_of_keyed_segment key v) (is : IsKeyedSegment periods key v) where
  pub same_record : v ≡ it
  same_record =
      let at_column = λ (k : ℕ). ap (λ (row : Row). column row k) e in
      let pairing : it.pairing ≡ key.pairing = text_is (at_column 0) in
      let period : it.period ≡ key.period = number_is (at_column 1) in
      let number : it.number ≡ key.number = number_is (at_column 2) in
      let flight : it.flight ≡ v.flight = text_is (at_column 3) in
      let origin : it.origin ≡ v.origin = text_is (at_column 4) in
      let destination : it.destination ≡ v.destination = text_is (at_column 5) in
      let out_at : it.out_at ≡ v.out_at = number_is (at_column 6) in
      let in_at : it.in_at ≡ v.in_at = number_is (at_column 7) in
      let act_out : it.act_out ≡ v.act_out = numbers_same _ _ (at_column 8) in
      let act_in : it.act_in ≡ v.act_in = numbers_same _ _ (at_column 9) in
      λ i. record {
        pairing = (is.pairing ∙ sym pairing) i;
        period = (is.period ∙ sym period) i;
        number = (is.number ∙ sym number) i;
        flight = sym flight i;
        origin = sym origin i;
        destination = sym destination i;
        out_at = sym out_at i;
        in_at = sym in_at i;
        act_out = sym act_out i;
        act_in = sym act_in i;
      }

-- ---- One record

module _ (periods : Periods) (it : SegmentRecord) where
  abbrev pub Tells : Option SegmentKey → Type 0
  Tells = TellsOf (λ key v found. (found ≡ key) × (v ≡ it)) row_of_keyed_segment (IsKeyedSegment periods) (segment_row it)

  pub no_period : fin.contains_key periods (period_name it.pairing it.period) ≡ false → Tells None
  no_period none key v e is =
      absurd (let f = sym none ∙ ap (λ (r : SegmentRecord). fin.contains_key periods (period_name r.pairing r.period)) (sym (same_record periods it key v e is)) ∙ is.of_period in cc)

  pub tells : fin.contains_key periods (period_name it.pairing it.period) ≡ true → Tells (Some (record { pairing = it.pairing; period = it.period; number = it.number }))
  tells known = (
    record { pairing = it.pairing; period = it.period; number = it.number },
    it,
    (refl, refl),
    refl,
    record { pairing = refl; period = refl; number = refl; of_period = known },
  )

-- ---- Records in turn

pub none_read : (periods : Periods) (records : List SegmentRecord) → SegmentsRead periods records 0 fin.empty
none_read periods records = record { mapped = λ once. nothing_mapped name_of_segment names_same row_of_keyed_segment (IsKeyedSegment periods) }

module _ (periods : Periods) (records : List SegmentRecord) (at : ℕ) (it : SegmentRecord) (there : slice_get records at ≡ Some it) where
  pub stranger : Tells periods it None → HasStranger row_of_keyed_segment (IsKeyedSegment periods) (map segment_row records)
  stranger none = record { row = segment_row it; here = mapped_at segment_row records at it there; strange = none }

  pub one_read : (m n : Segments) (key : SegmentKey) → Tells periods it (Some key) → SegmentsRead periods records at m → n ≡ fin.insert m (name_of_segment key) it →
      SegmentsRead periods records (at + 1) n
  one_read m n key told read made =
      let index = told.0 in
      let v = told.1 in
      let same : n ≡ fin.insert m (name_of_segment index) v = made ∙ (λ i. fin.insert m (name_of_segment (told.2.0 i)) (sym told.2.1 i)) in
      record {
        mapped = λ once. subst (Mapped name_of_segment row_of_keyed_segment (IsKeyedSegment periods) (take (at + 1) (map segment_row records))) (sym same)
            (next_mapped name_of_segment names_same row_of_keyed_segment (IsKeyedSegment periods) m index v (map segment_row records) at
            (mapped_place segment_row records at it there ∙ ap Some told.3) (read.mapped once) told.4 once);
      }
