-- The table `outside_segment`: when it is right.
use Rattle.std.proofs.Common.{◌≡◌, ◌⊎◌, ◌↔◌, inl, inr, refl, sym, ap, subst, ◌∙◌, arith, ℕ, zero, suc, pos, ◌+◌, ◌<◌, ◌≤◌, ◌^◌, true, List, [], ◌∷◌, map, length, Some, None, slice_get}
use Rattle.std.specs.FinMap as fin
use Rattle.std.specs.Prelude.{is_some}
use Rattle.std.proofs.lemmas.Bool.{and_parts, cases_Bool, leb-true}
use Rattle.std.proofs.lemmas.Option.{slice_get_within}
use Rattle.values.specs.Name.{name_cmp}
use Rattle.sqlite_value.specs.declared.value.Value.TheVariants.{Int, Text}
use Rattle.sqlite_value.specs.Order.{Row, column}
use Rattle.sqlite_rules.specs.Lists.{Has}
use Rattle.sqlite.specs.Effect.{Database}
use Rattle.duty.specs.Pairings.{is_segment_count, outside_fault}
use Rattle.duty.specs.Plans.{OutsidePlan}
use Rattle.duty.specs.Shape.{is_id}
use Rattle.duty.specs.declared.segment.BlockTimes.{BlockTimes}
use Rattle.roster.specs.State.{State}
use Rattle.roster.specs.declared.state.OutsideEntry.{OutsideEntry}
use Rattle.stored_json.specs.Instants.{times_have_instants}
use Rattle.tables.proofs.KeyLemmas.{once_by_two}
use Rattle.tables.specs.Records.{IsOutsideSegmentRow, outside_row, outside_segment_row}
use Rattle.tables.specs.Rows.{begins_with, rows_of}
use Rattle.tables.specs.Schema.{outside_segment_table, outside_table}
use Rattle.tables.specs.declared.outside.OutsideRecord.{OutsideRecord}
use Rattle.tables.specs.declared.outside_segment.OutsideSegmentRecord.{OutsideSegmentRecord}
use Rattle.entries.proofs.Ascii.{id_utf8}
use Rattle.entries.proofs.Following.{has_value}
use Rattle.entries.proofs.Editions.{HasBothOutside, its_table, next_outside, next_outside_segment, one_edition}
use Rattle.entries.proofs.Mapping.{all_taken}
use Rattle.entries.proofs.PlanKeys.{period_names_same}
use Rattle.entries.proofs.PlanLemmas.{there_within}
use Rattle.entries.proofs.PlanStates.{all_at}
use Rattle.entries.proofs.RightRows.{number_fits}
use Rattle.entries.specs.Right.{AreRight, IsOfEdition, IsOutsideRight, IsOutsideSegmentRight}
use Rattle.entries.specs.OneOutside.{IsOutsideToldBy}
use Rattle.loading.specs.OutsideTables.{AreOutsidesSet, AreOutsidesUnset, HasOutsides}
use Rattle.entries.specs.OutsideRows.{AreSegmentsOf, HasNoOutsideGaps, HasTooMany, IsKeyedOutsideSegment, IsMadeFrom, SaysNoOutside, OutsideSegments, Outsides, OutsidesMade, OutsideSegmentsRead, name_of_outside_segment, outside_segment_name, row_of_keyed_outside_segment}
use Rattle.loading.specs.Reading.{AgreesIn, HasRows, IsReadAs, IsUnreadable}
use Rattle.entries.specs.Mapping.{AreOnce, HasStranger, Mapped, Under}
use Rattle.entries.specs.declared.outside_rows.OutsideSegmentKey.{OutsideSegmentKey}
use Rattle.state_rows.proofs.Lists.{one_value}
use Rattle.state_rows.proofs.Tests.{passes}
use Rattle.state_rows.proofs.Values.{text_is, number_is}
use Rattle.state_rows.specs.Rows.{At, InOutside, InOutsideSegment, OutsideSegmentOf, crew_base, outside, outside_segment, row_of_outside, row_of_outside_segment}
use Rattle.state_rows.specs.declared.edition.Edition.TheVariants.{Second}
use Rattle.entries.proofs.KeyedOutsideSegments.{names_same, same_record}

-- ---- An outside period of a state whose tables are right

-- an outside period has 12 segments at most
few : (o : OutsidePlan) → outside_fault o ≡ None → length o.segments ≤ 12
unfolding outside_fault
few o e = elim (cases_Bool (is_id o.id)) [
  | inl a ↦ elim (cases_Bool (is_segment_count (length o.segments))) [
    | inl b ↦ leb-true (length o.segments) 12 (and_parts _ _ b).1
    | inr b ↦ absurd (let f = rw (a, b) at e in cc)
  ]
  | inr a ↦ absurd (let f = rw a at e in cc)
]

shaped : (o : OutsidePlan) → outside_fault o ≡ None → is_id o.id ≡ true
unfolding outside_fault
shaped o e = elim (cases_Bool (is_id o.id)) [
  | inl a ↦ a
  | inr a ↦ absurd (let f = rw a at e in cc)
]

itself : (key : OutsideSegmentKey) (v : OutsideSegmentRecord) → begins_with (Text key.outside ∷ Int (pos key.number) ∷ []) (row_of_keyed_outside_segment key v) ≡ true
itself key v = passes (Text key.outside ∷ Int (pos key.number) ∷ []) (row_of_keyed_outside_segment key v) (refl, (refl, tt))

-- the record of a segment of an outside period
abbrev record_of : List ℕ → ℕ → BlockTimes → OutsideSegmentRecord
record_of id place times = record { outside = id; number = place + 1; out_at = times.block_out; in_at = times.block_in }

module _ (db : Database) (second : IsOfEdition Second db) where
  both : (u : State) → IsOutsideSegmentRight u db → HasBothOutside u db
  both u right = its_table outside outside_segment next_outside_segment u db second right

  pub not_unreadable : IsUnreadable outside_segment IsOutsideSegmentRow db → AreRight outside_segment db → ⊥
  not_unreadable (inl none) right = none (both right.0 right.1).1.0
  not_unreadable (inr x) right =
      let it = ((both right.0 right.1).1.1 x.0).0 x.1 in
      let o = it.0.value.period in
      let is = right.1.3 it.0.name it.0.value it.0.there in
      let id_shape : is_id it.0.name ≡ true = ap is_id (sym is.named) ∙ shaped o is.made in
      let place = slice_get_within o.segments it.1.place it.1.times it.1.flown in
      let most = few o is.made in
      let fits : it.1.place + 1 < 2 ^ 32 = omega (arith, place, most) in
      let instants = and_parts _ _ (all_at times_have_instants o.segments is.instants it.1.place it.1.times it.1.flown) in
      x.3 (
        record_of it.0.name it.1.place it.1.times,
        id_utf8 it.0.name id_shape,
        fits,
        number_fits it.1.times.block_out instants.0,
        number_fits it.1.times.block_in instants.1,
        it.2,
      )

module _ (s : State) (db : Database) (up : AgreesIn Second outside s db) (m : Outsides) (has : HasOutsides s db m) where
  -- an outside period of a right state has a record
  recorded : (u : State) → IsOutsideSegmentRight u db → (at : At u.outsides) → (it : OutsideRecord) × (fin.get m at.name ≡ Some it)
  recorded u right at =
      let row = row_of_outside at.name at.value in
      let it = (has.rows row).0 (((both db up.of u right).0.1 row).1 (at, refl)) in
      let same : at.name ≡ it.0.id = text_is (ap (λ (r : Row). column r 0) it.2) in
      (it.0, ap (fin.get m) same ∙ it.1)

  module _ (records : List OutsideSegmentRecord) (read : HasRows outside_segment db (map outside_segment_row records)) where
    once : AreOnce row_of_keyed_outside_segment (map outside_segment_row records)
    once key v w first second =
        once_by_two outside_segment_table db (1 ∷ 2 ∷ []) [] refl read.there.0 read.database read.stored (row_of_keyed_outside_segment key v) (row_of_keyed_outside_segment key w)
        ((read.all (row_of_keyed_outside_segment key v)).1 first) ((read.all (row_of_keyed_outside_segment key w)).1 second) (Text key.outside) (Int (pos key.number)) refl (λ r. (refl, refl)) refl refl
        (itself key v) (itself key w)

    strange : HasStranger row_of_keyed_outside_segment (IsKeyedOutsideSegment m) (map outside_segment_row records) → AreRight outside_segment db → ⊥
    strange x right =
        let it = ((both db up.of right.0 right.1).1.1 x.row).0 ((read.all x.row).1 x.here) in
        let of = recorded right.0 right.1 it.0 in
        x.strange (record { outside = it.0.name; number = it.1.place + 1 }) (record_of it.0.name it.1.place it.1.times) it.2
        (record { outside = refl; number = refl; of_outside = ap is_some of.1 })

    module _ (n : OutsideSegments) (all : OutsideSegmentsRead m records (length records) n) where
      mapped : Mapped name_of_outside_segment row_of_keyed_outside_segment (IsKeyedOutsideSegment m) (map outside_segment_row records) n
      mapped = subst (λ l. Mapped name_of_outside_segment row_of_keyed_outside_segment (IsKeyedOutsideSegment m) l n) (all_taken outside_segment_row records) (all.mapped once)

      keyed : (key : List ℕ) (it : OutsideSegmentRecord) → fin.get n key ≡ Some it → key ≡ outside_segment_name it.outside it.number
      keyed key it e = let known = mapped.known key it e in known.1 ∙ (λ i. outside_segment_name (sym known.2.outside i) (sym known.2.number i))

      of_outside : (key : List ℕ) (it : OutsideSegmentRecord) → fin.get n key ≡ Some it → fin.contains_key m it.outside ≡ true
      of_outside key it e = (mapped.known key it e).2.of_outside

      -- each has its row
      in_table : (key : List ℕ) (it : OutsideSegmentRecord) → fin.get n key ≡ Some it → Has (rows_of outside_segment_table db) (outside_segment_row it)
      in_table key it e =
          let known = mapped.known key it e in
          let here : row_of_keyed_outside_segment known.0 it ≡ outside_segment_row it = λ i. outside_segment_row (record it { outside = sym known.2.outside i; number = sym known.2.number i }) in
          (read.all (outside_segment_row it)).1 (subst (Has (map outside_segment_row records)) here
          (mapped.all (record { index = known.0; value = it; there = ap (fin.get n) (sym known.1) ∙ e })))

      under : (at : Under name_of_outside_segment n) → IsKeyedOutsideSegment m at.index at.value
      under at =
          let known = mapped.known (name_of_outside_segment at.index) at.value at.there in
          subst (λ k. IsKeyedOutsideSegment m k at.value) (sym (names_same at.index known.0 known.1)) known.2

      -- and the record of each row is there
      from_table : (it : OutsideSegmentRecord) → Has (rows_of outside_segment_table db) (outside_segment_row it) → fin.get n (outside_segment_name it.outside it.number) ≡ Some it
      from_table it h =
          let at = mapped.has (outside_segment_row it) ((read.all (outside_segment_row it)).0 h) in
          let is = under at.0 in
          let same = same_record m it at.0.index at.0.value at.1 is in
          let of = ap (λ (r : OutsideSegmentRecord). r.outside) (sym same) ∙ is.outside in
          let number = ap (λ (r : OutsideSegmentRecord). r.number) (sym same) ∙ is.number in
          ap (fin.get n) (λ i. outside_segment_name (of i) (number i)) ∙ at.0.there ∙ ap Some same

      -- a row is that of one of them
      of_rows : (row : Row) → Has (rows_of outside_segment_table db) row → (it : OutsideSegmentRecord) × (fin.get n (outside_segment_name it.outside it.number) ≡ Some it) × (row ≡ outside_segment_row it)
      of_rows row h =
          let at = mapped.has row ((read.all row).0 h) in
          let is = under at.0 in
          let here : row_of_keyed_outside_segment at.0.index at.0.value ≡ outside_segment_row at.0.value =
          λ i. outside_segment_row (record at.0.value { outside = sym is.outside i; number = sym is.number i }) in
          (at.0.value, ap (fin.get n) (λ i. outside_segment_name (is.outside i) (is.number i)) ∙ at.0.there, at.1 ∙ here)

      module _ (u : State) (right : IsOutsideSegmentRight u db) where
        segment_rows : (row : Row) → Has (rows_of outside_segment_table db) row ↔ InOutsideSegment u row
        segment_rows = (both db up.of u right).1.1

        -- a segment of the state is among them
        among : (at : At u.outsides) (g : OutsideSegmentOf at.value.period) → fin.get n (outside_segment_name at.name (g.place + 1)) ≡ Some (record_of at.name g.place g.times)
        among at g = from_table (record_of at.name g.place g.times) ((segment_rows (row_of_outside_segment at.name g.place g.times)).1 (at, g, refl))

        before : (at : At u.outsides) (g : OutsideSegmentOf at.value.period) (place : ℕ) → g.place ≡ place → (place ≡ 0)
            ⊎ ((number : ℕ) × (other : OutsideSegmentRecord) × (number ≡ place) × (fin.get n (outside_segment_name at.name number) ≡ Some other))
        before at g zero e = inl refl
        before at g (suc j) e =
            let within = slice_get_within at.value.period.segments g.place g.times g.flown in
            let it = there_within at.value.period.segments j (omega (arith, within, e)) in
            inr (j + 1, record_of at.name j it.0, omega arith, among at (record { place = j; times = it.0; flown = it.1 }))

        -- where the table is right, there is no gap
        ungapped : HasNoOutsideGaps n
        ungapped id number it e =
            let names = period_names_same id it.outside number it.number (keyed (outside_segment_name id number) it e) in
            let is = (segment_rows (outside_segment_row it)).0 (in_table (outside_segment_name id number) it e) in
            let same_id : it.outside ≡ is.0.name = text_is (ap (λ (r : Row). column r 0) is.2) in
            let same_number : it.number ≡ is.1.place + 1 = number_is (ap (λ (r : Row). column r 1) is.2) in
            let number_is_it = names.1 in
            elim (before is.0 is.1 is.1.place refl) [
              | inl first ↦ inl (omega (arith, number_is_it, same_number, first))
              | inr p ↦
                  let place = p.2 in
                  inr (p.0, p.1, omega (arith, number_is_it, same_number, place), ap (λ k. fin.get n (outside_segment_name k p.0)) (names.0 ∙ same_id) ∙ p.3)
            ]

        -- and each outside period is said
        module _ (id : List ℕ) (it : OutsideRecord) (here : fin.get m id ≡ Some it) where
          its_entry : (at : At u.outsides) × (outside_row it ≡ row_of_outside at.name at.value)
          its_entry = ((both db up.of u right).0.1 (outside_row it)).0 ((has.rows (outside_row it)).1 (it, ap (fin.get m) (has.keyed id it here).named ∙ here, refl))

          entry_name : its_entry.0.name ≡ id
          entry_name = sym (text_is (ap (λ (r : Row). column r 0) its_entry.1)) ∙ (has.keyed id it here).named

          -- a segment of the id is one of the entry's
          of_entry : (at : At u.outsides) → at.name ≡ id → at.value ≡ its_entry.0.value
          of_entry at same = one_value at.there (ap (fin.get u.outsides) (same ∙ sym entry_name) ∙ its_entry.0.there)

          told_from : (its : List OutsideSegmentRecord) → AreSegmentsOf n id its → (row : Row) → Has (map outside_segment_row its) row →
              (g : OutsideSegmentOf its_entry.0.value.period) × (row ≡ row_of_outside_segment it.id g.place g.times)
          told_from its are row h =
              let x = (are row).0 h in
              let names = period_names_same id x.1.outside x.0 x.1.number (keyed (outside_segment_name id x.0) x.1 x.2) in
              let is = (segment_rows (outside_segment_row x.1)).0 (in_table (outside_segment_name id x.0) x.1 x.2) in
              let same_id : x.1.outside ≡ is.0.name = text_is (ap (λ (r : Row). column r 0) is.2) in
              let of = of_entry is.0 (sym same_id ∙ sym names.0) in (
                record { place = is.1.place; times = is.1.times; flown = ap (λ (o : OutsideEntry). slice_get o.period.segments is.1.place) (sym of) ∙ is.1.flown },
                x.3 ∙ is.2 ∙ ap (λ k. row_of_outside_segment k is.1.place is.1.times) (sym same_id ∙ sym names.0 ∙ sym (has.keyed id it here).named),
              )

          told_to : (its : List OutsideSegmentRecord) → AreSegmentsOf n id its → (row : Row) → (g : OutsideSegmentOf its_entry.0.value.period) × (row ≡ row_of_outside_segment it.id g.place g.times) →
              Has (map outside_segment_row its) row
          told_to its are row x =
              let at = its_entry.0 in
              let r = record_of at.name x.0.place x.0.times in
              let same : it.id ≡ at.name = (has.keyed id it here).named ∙ sym entry_name in
              (are row).1 (x.0.place + 1, r, ap (λ k. fin.get n (outside_segment_name k (x.0.place + 1))) (sym entry_name) ∙ among at x.0, x.1 ∙ ap (λ k. row_of_outside_segment k x.0.place x.0.times) same)

          said : (its : List OutsideSegmentRecord) → AreSegmentsOf n id its → IsOutsideToldBy it its its_entry.0.value
          said its are =
              let at = its_entry.0 in
              let is = right.3 at.name at.value at.there in
              let known = has.keyed id it here in
              let at_column = λ (k : ℕ). ap (λ (row : Row). column row k) its_entry.1 in
              record {
                crew = sym (text_is (at_column 1));
                named = is.named ∙ entry_name ∙ sym known.named;
                report = sym (number_is (at_column 2));
                release = sym (number_is (at_column 3));
                report_instant = known.report;
                release_instant = known.release;
                instants = is.instants;
                made = is.made;
                rows = λ row. (told_from its are row, told_to its are row);
              }

          not_many : HasTooMany n id → ⊥
          not_many x =
              let names = period_names_same id x.0.outside 13 x.0.number (keyed (outside_segment_name id 13) x.0 x.1) in
              let is = (segment_rows (outside_segment_row x.0)).0 (in_table (outside_segment_name id 13) x.0 x.1) in
              let number : x.0.number ≡ is.1.place + 1 = number_is (ap (λ (r : Row). column r 1) is.2) in
              let thirteen = names.1 in
              let within = slice_get_within is.0.value.period.segments is.1.place is.1.times is.1.flown in
              let most = few is.0.value.period (right.3 is.0.name is.0.value is.0.there).made in
              omega (arith, number, thirteen, within, most)

          never_unmade : SaysNoOutside n id it → ⊥
          never_unmade (inl many) = not_many many
          never_unmade (inr none) = none.2 its_entry.0.value (said none.0 none.1)

      -- the outside periods that were made have just these rows
      module _ (made : fin.FinMap name_cmp OutsideEntry) (are : OutsidesMade m n made) where
        abbrev t : State
        t = record s { outsides = made }

        above_stays : IsOutsideRight t db
        above_stays =
            let based = up.through.right.0 in
            let bases = based.0 in
            let requests = bases.0 in
            let fits = its_table crew_base outside next_outside s db up.of up.through.right in (
              (
                (
                  (requests.0, requests.1, requests.2, λ first. absurd (one_edition db first up.of)),
                  bases.1,
                  record { has_home = bases.2.has_home; shaped = bases.2.shaped },
                ),
                based.1,
                based.2,
              ),
              inl (up.of, fits.0, record { rows = fits.1.rows; recorded = fits.1.recorded }),
            )

        -- the row of a record is that of its outside period
        its_row : (id : List ℕ) (o : OutsideEntry) (x : (it : OutsideRecord) × (fin.get m id ≡ Some it) × IsMadeFrom n id it o) → row_of_outside id o ≡ outside_row x.0
        its_row id o x = λ i. outside_row (record { id = sym (has.keyed id x.0 x.1).named i; crew = x.2.2.crew i; report_at = x.2.2.report i; release_at = x.2.2.release i })

        outside_rows : (row : Row) → Has (rows_of outside_table db) row ↔ InOutside t row
        outside_rows row = (
          λ h.
              let it = (has.rows row).0 h in
              let o = has_value (fin.get made it.0.id) (are.all it.0.id (ap is_some it.1)) in
              let known = are.known it.0.id o.0 o.1 in
              let same : known.0 ≡ it.0 = one_value known.1 it.1 in
              (record { name = it.0.id; value = o.0; there = o.1 }, it.2 ∙ ap outside_row (sym same) ∙ sym (its_row it.0.id o.0 known)),
          λ x.
              let known = are.known x.0.name x.0.value x.0.there in
              (has.rows row).1 (known.0, ap (fin.get m) (has.keyed x.0.name known.0 known.1).named ∙ known.1, x.1 ∙ its_row x.0.name x.0.value known),
        )

        segment_rows_are : (row : Row) → Has (rows_of outside_segment_table db) row ↔ InOutsideSegment t row
        segment_rows_are row = (
          λ h.
              let r = of_rows row h in
              let id = r.0.outside in
              let o = has_value (fin.get made id) (are.all id (of_outside (outside_segment_name id r.0.number) r.0 r.1)) in
              let known = are.known id o.0 o.1 in
              let g = (known.2.2.rows row).0 ((known.2.1 row).1 (r.0.number, r.0, r.1, r.2)) in
              (record { name = id; value = o.0; there = o.1 }, g.0, g.1 ∙ ap (λ k. row_of_outside_segment k g.0.place g.0.times) (has.keyed id known.0 known.1).named),
          λ x.
              let known = are.known x.0.name x.0.value x.0.there in
              let here = (known.2.2.rows row).1 (x.1, x.2 ∙ ap (λ k. row_of_outside_segment k x.1.place x.1.times) (sym (has.keyed x.0.name known.0 known.1).named)) in
              let r = (known.2.1 row).0 here in
              subst (Has (rows_of outside_segment_table db)) (sym r.3) (in_table (outside_segment_name x.0.name r.0) r.1 r.2),
        )

        all_right : IsOutsideSegmentRight t db
        all_right = (
          above_stays,
          inl (up.of, (has.there, outside_rows)),
          inl (up.of, (read.there, segment_rows_are)),
          λ id o e.
              let known = are.known id o e in
              let told = known.2.2 in
              record { named = told.named ∙ (has.keyed id known.0 known.1).named; made = told.made; instants = told.instants },
        )

    pub right : (t : State) → AreOutsidesSet m records s t → IsReadAs outside_segment t db
    right t are = (subst (λ (u : State). IsOutsideSegmentRight u db) (sym are.same) (all_right are.segments are.whole.0 t.outsides are.made), read.stored)

    pub wrong : AreOutsidesUnset m records → AreRight outside_segment db → ⊥
    wrong (inl (inl x)) right = strange x right
    wrong (inl (inr x)) right = x.2 (ungapped x.0 x.1 right.0 right.1)
    wrong (inr x) right = never_unmade x.0 x.1.0 right.0 right.1 x.2.id x.2.it x.2.here x.2.unmade
