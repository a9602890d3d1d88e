-- Where the tables are right, the records of one pairing give a pairing.
use Rattle.std.proofs.Common.{◌≡◌, ◌↔◌, inl, inr, refl, sym, ap, subst, ◌∙◌, ℕ, ◌+◌, Bool, true, List, [], ◌∷◌, length, map, Some, IsSome, slice_get}
use Rattle.std.specs.FinMap as fin
use Rattle.std.specs.Prelude.{is_some}
use Rattle.sqlite_value.specs.declared.value.Value.TheVariants.{Text}
use Rattle.sqlite_value.specs.Order.{Row, column}
use Rattle.sqlite_rules.specs.Lists.{Has}
use Rattle.sqlite.specs.Effect.{Database}
use Rattle.roster.proofs.Accepted.{insert_here}
use Rattle.roster.specs.Sound.{Sound}
use Rattle.roster.specs.State as roster
use Rattle.roster.specs.declared.state.PairingEntry.{PairingEntry}
use Rattle.tables.specs.Records.{period_row, segment_row}
use Rattle.tables.specs.Rows.{Finds, begins_with, rows_of}
use Rattle.tables.specs.Schema.{period_table}
use Rattle.tables.specs.declared.period.PeriodRecord.{PeriodRecord}
use Rattle.tables.specs.declared.segment.SegmentRecord.{SegmentRecord}
use Rattle.state_rows.specs.Rows.{table, period, segment, outside_segment, InPeriod, InSegment}
use Rattle.state_rows.proofs.Lists.{one_value}
use Rattle.state_rows.proofs.Tests.{found, passes, IsPlain}
use Rattle.state_rows.proofs.Values.{text_is, number_is}
use Rattle.state_rows.specs.Kept.{IsBookOf}
use Rattle.entries.proofs.PlanKeys.{period_names_same, segment_names_same}
use Rattle.entries.proofs.PlanStates.{state_told}
use Rattle.entries.proofs.RightRows.{segments_fit}
use Rattle.entries.specs.Keyed.{IsKeyedPeriod, IsKeyedSegment, PeriodsRead, SegmentsRead, row_of_keyed_period, row_of_keyed_segment}
use Rattle.entries.specs.Right.{AreRight}
use Rattle.entries.specs.OnePairing.{GiveNoPairing, RefusesPairing, only}
use Rattle.entries.specs.declared.fault.LoadFault.{LoadFault}
use Rattle.entries.specs.declared.fault.LoadFault.TheVariants.{Damaged, Fault, NotABook, Version}
use Rattle.state_rows.specs.declared.fault.StoreFault.{StoreFault}
use Rattle.state_rows.specs.declared.fault.StoreFault.TheVariants.{Store}
use Rattle.entries.specs.PlanRows.{AreUngapped, HasNoGaps, IsPairingOfRows, PeriodRows, Periods, SegmentRows, Segments, period_name, segment_name}
use Rattle.entries.specs.Mapping.{HasStranger}
use Rattle.lookup.proofs.OnePairing.{alone, alone_here, only_one}
use Rattle.lookup.proofs.PlanLemmas.{once_period, once_segment, periods_just, periods_keyed, segments_just, segments_keyed}
use Rattle.lookup.specs.Plans.{FindsPlan, IfSome, unread_as}
use Rattle.lookup.specs.declared.pairing.PlanRecords.{PlanRecords}
use Rattle.lookup.proofs.ReadLemmas.{AreOf, are_of}
use Rattle.lookup.proofs.RightRows.{segments_right}

module _ (s : roster.State) (sound : Sound s) (db : Database) (book : IsBookOf s db) (right : AreRight outside_segment db) (id : List ℕ)
    (periods : List PeriodRecord) (segments : List SegmentRecord)
    (finds : AreOf period (begins_with (Text id ∷ [])) db (map period_row periods))
    (also : AreOf segment (begins_with (Text id ∷ [])) db (map segment_row segments)) where
  abbrev by_id : Row → Bool
  by_id = begins_with (Text id ∷ [])

  abbrev t : roster.State
  t = right.0

  known : fin.contains_key (only id) id ≡ true
  known = ap (λ o. is_some o) (insert_here fin.empty id tt)

  -- the first column of a row of this id, if it is a text
  first_of : (row : Row) → by_id row ≡ true → {name : List ℕ} → column row 0 ≡ Text name → column row 0 ≡ Text id
  first_of row test is = (found (Text id ∷ []) row (subst IsPlain (sym is) tt, tt, tt) test).0

  -- ---- Periods

  period_of : (it : PeriodRecord) → by_id (period_row it) ≡ true → id ≡ it.pairing
  period_of it test = sym (text_is (found (Text id ∷ []) (period_row it) (tt, tt, tt) test).0)

  period_here : (it : PeriodRecord) → Has (rows_of period_table db) (period_row it) → it.pairing ≡ id → Has (map period_row periods) (period_row it)
  period_here it h same = finds.here (period_row it) h (passes (Text id ∷ []) (period_row it) (ap Text same, tt))

  period_strange : HasStranger row_of_keyed_period (IsKeyedPeriod (only id)) (map period_row periods) → ⊥
  period_strange x =
      let h = finds.there x.row x.here in
      let is = (segments_right db right).1.0.2 x.row h.0 in
      let same : id ≡ is.it.pairing = period_of is.it (ap by_id (sym is.is) ∙ h.1) in
      x.strange (record { pairing = is.it.pairing; number = is.it.number }) is.it is.is (record {
        pairing = refl;
        number = refl;
        fits = is.fits;
        instants = (is.report, is.release, is.act_report, is.act_release);
        of_pairing = ap (fin.contains_key (only id)) (sym same) ∙ known;
      })

  module _ (m : Periods) (read : PeriodsRead (only id) periods (length periods) m) where
    abbrev just : (row : Row) → PeriodRows m row ↔ Has (map period_row periods) row
    just = periods_just (only id) periods (once_period s sound db book id periods segments finds also) m read

    abbrev keyed : (key : List ℕ) (it : PeriodRecord) → fin.get m key ≡ Some it → key ≡ period_name it.pairing it.number
    keyed = periods_keyed (only id) periods (once_period s sound db book id periods segments finds also) m read

    ungapped : AreUngapped m
    ungapped pairing number it e =
        let names = period_names_same pairing it.pairing number it.number (keyed (period_name pairing number) it e) in
        let here : fin.get m (period_name it.pairing it.number) ≡ Some it = ap (fin.get m) (λ i. period_name (sym names.0 i) (sym names.1 i)) ∙ e in
        let h = finds.there (period_row it) ((just (period_row it)).0 (it, here, refl)) in
        let is = (segments_right db right).1.0.2 (period_row it) h.0 in
        let same_pairing : it.pairing ≡ is.it.pairing = text_is (ap (λ (r : Row). column r 0) is.is) in
        let same_number : it.number ≡ is.it.number = number_is (ap (λ (r : Row). column r 1) is.is) in
        elim is.no_gap [
          | inl one ↦ inl (names.1 ∙ same_number ∙ one)
          | inr p ↦
              let of_id : p.0.pairing ≡ id = p.2 ∙ sym same_pairing ∙ sym (period_of it h.1) in
              let at = (just (period_row p.0)).1 (period_here p.0 p.1 of_id) in
              let v_pairing : p.0.pairing ≡ at.0.pairing = text_is (ap (λ (r : Row). column r 0) at.2) in
              let v_number : p.0.number ≡ at.0.number = number_is (ap (λ (r : Row). column r 1) at.2) in
              let to : pairing ≡ at.0.pairing = names.0 ∙ same_pairing ∙ sym p.2 ∙ v_pairing in
              inr (
                at.0.number,
                at.0,
                ap (λ k. k + 1) (sym v_number) ∙ p.3 ∙ sym same_number ∙ sym names.1,
                ap (λ k. fin.get m (period_name k at.0.number)) to ∙ at.1,
              )
        ]

    -- ---- Segments

    segment_of : (it : SegmentRecord) → by_id (segment_row it) ≡ true → id ≡ it.pairing
    segment_of it test = sym (text_is (found (Text id ∷ []) (segment_row it) (tt, tt, tt) test).0)

    segment_strange : HasStranger row_of_keyed_segment (IsKeyedSegment m) (map segment_row segments) → ⊥
    segment_strange x =
        let h = also.there x.row x.here in
        let is = (segments_fit t db (segments_right db right).1).2 x.row h.0 in
        let same : id ≡ is.it.pairing = segment_of is.it (ap by_id (sym is.is) ∙ h.1) in
        let p = is.of_period in
        let at = (just (period_row p.0)).1 (period_here p.0 p.1 (p.2 ∙ sym same)) in
        let v_pairing : p.0.pairing ≡ at.0.pairing = text_is (ap (λ (r : Row). column r 0) at.2) in
        let v_number : p.0.number ≡ at.0.number = number_is (ap (λ (r : Row). column r 1) at.2) in
        let to_pairing : is.it.pairing ≡ at.0.pairing = sym p.2 ∙ v_pairing in
        let to_period : is.it.period ≡ at.0.number = sym p.3 ∙ v_number in
        x.strange (record { pairing = is.it.pairing; period = is.it.period; number = is.it.number }) is.it is.is (record {
          pairing = refl;
          period = refl;
          number = refl;
          of_period = ap (λ o. is_some o) (ap (fin.get m) (λ i. period_name (to_pairing i) (to_period i)) ∙ at.1);
        })

    module _ (n : Segments) (read_too : SegmentsRead m segments (length segments) n) where
      abbrev just_too : (row : Row) → SegmentRows n row ↔ Has (map segment_row segments) row
      just_too = segments_just m segments (once_segment s sound db book id periods segments finds also) n read_too

      abbrev keyed_too : (key : List ℕ) (it : SegmentRecord) → fin.get n key ≡ Some it → key ≡ segment_name it.pairing it.period it.number
      keyed_too = segments_keyed m segments (once_segment s sound db book id periods segments finds also) n read_too

      segments_ungapped : HasNoGaps n
      segments_ungapped pairing period_number number it e =
          let names = segment_names_same pairing it.pairing period_number it.period number it.number (keyed_too (segment_name pairing period_number number) it e) in
          let here : fin.get n (segment_name it.pairing it.period it.number) ≡ Some it = ap (fin.get n) (λ i. segment_name (sym names.0 i) (sym names.1 i) (sym names.2 i)) ∙ e in
          let h = also.there (segment_row it) ((just_too (segment_row it)).0 (it, here, refl)) in
          let is = (segments_fit t db (segments_right db right).1).2 (segment_row it) h.0 in
          let same_pairing : it.pairing ≡ is.it.pairing = text_is (ap (λ (r : Row). column r 0) is.is) in
          let same_period : it.period ≡ is.it.period = number_is (ap (λ (r : Row). column r 1) is.is) in
          let same_number : it.number ≡ is.it.number = number_is (ap (λ (r : Row). column r 2) is.is) in
          elim is.no_gap [
            | inl one ↦ inl (names.2 ∙ same_number ∙ one)
            | inr p ↦
                let of_id : p.0.pairing ≡ id = p.2 ∙ sym same_pairing ∙ sym (segment_of it h.1) in
                let at = (just_too (segment_row p.0)).1
                (also.here (segment_row p.0) p.1 (passes (Text id ∷ []) (segment_row p.0) (ap Text of_id, tt))) in
                let v_pairing : p.0.pairing ≡ at.0.pairing = text_is (ap (λ (r : Row). column r 0) at.2) in
                let v_period : p.0.period ≡ at.0.period = number_is (ap (λ (r : Row). column r 1) at.2) in
                let v_number : p.0.number ≡ at.0.number = number_is (ap (λ (r : Row). column r 2) at.2) in
                let to_pairing : pairing ≡ at.0.pairing = names.0 ∙ same_pairing ∙ sym p.2 ∙ v_pairing in
                let to_period : period_number ≡ at.0.period = names.1 ∙ same_period ∙ sym p.3 ∙ v_period in
                inr (
                  at.0.number,
                  at.0,
                  ap (λ k. k + 1) (sym v_number) ∙ p.4 ∙ sym same_number ∙ sym names.2,
                  ap (fin.get n) (λ i. segment_name (to_pairing i) (to_period i) at.0.number) ∙ at.1,
                )
          ]

      -- ---- The pairing

      module _ (r : PairingEntry) (there : fin.get t.pairings id ≡ Some r) where
        abbrev its : roster.State
        its = alone t id r

        -- a pairing of the state with a row of this id is that one
        same_value : (name : List ℕ) (x : PairingEntry) → fin.get t.pairings name ≡ Some x → name ≡ id → x ≡ r
        same_value name x here same = one_value (ap (fin.get t.pairings) (sym same) ∙ here) there

        its_here : (name : List ℕ) (x : PairingEntry) → fin.get t.pairings name ≡ Some x → name ≡ id → fin.get its.pairings name ≡ Some x
        its_here name x here same = ap (fin.get its.pairings) same ∙ alone_here t id r ∙ ap Some (sym (same_value name x here same))

        here_too : (name : List ℕ) (x : PairingEntry) → fin.get its.pairings name ≡ Some x → fin.get t.pairings name ≡ Some x
        here_too name x e = let one = only_one t id r name x e in ap (fin.get t.pairings) one.name ∙ there ∙ ap Some one.value

        periods_same : (row : Row) → PeriodRows m row ↔ InPeriod its row
        periods_same row = (
          λ h.
              let kept = finds.there row ((just row).0 h) in
              let at = ((segments_right db right).1.1 row).0 kept.0 in
              let same : at.0.name ≡ id = text_is (sym (ap (λ (x : Row). column x 0) at.2) ∙ first_of row kept.1 (ap (λ (x : Row). column x 0) at.2)) in
              (record { name = at.0.name; value = at.0.value; there = its_here at.0.name at.0.value at.0.there same }, at.1, at.2),
          λ at.
              let one = only_one t id r at.0.name at.0.value at.0.there in
              let of_t : InPeriod t row = (record { name = at.0.name; value = at.0.value; there = here_too at.0.name at.0.value at.0.there }, at.1, at.2) in
              let test = passes (Text id ∷ []) row (ap (λ (x : Row). column x 0) at.2 ∙ ap Text one.name, tt) in
              (just row).1 (finds.here row (((segments_right db right).1.1 row).1 of_t) test),
        )

        segments_same : (row : Row) → SegmentRows n row ↔ InSegment its row
        segments_same row = (
          λ h.
              let kept = also.there row ((just_too row).0 h) in
              let at = ((segments_right db right).1.2.1 row).0 kept.0 in
              let same : at.0.name ≡ id = text_is (sym (ap (λ (x : Row). column x 0) at.3) ∙ first_of row kept.1 (ap (λ (x : Row). column x 0) at.3)) in
              (record { name = at.0.name; value = at.0.value; there = its_here at.0.name at.0.value at.0.there same }, at.1, at.2, at.3),
          λ at.
              let one = only_one t id r at.0.name at.0.value at.0.there in
              let of_t : InSegment t row = (record { name = at.0.name; value = at.0.value; there = here_too at.0.name at.0.value at.0.there }, at.1, at.2, at.3) in
              let test = passes (Text id ∷ []) row (ap (λ (x : Row). column x 0) at.3 ∙ ap Text one.name, tt) in
              (just_too row).1 (also.here row (((segments_right db right).1.2.1 row).1 of_t) test),
        )

        pairing_told : IsPairingOfRows m n id r
        pairing_told = state_told its m n keyed keyed_too periods_same segments_same id r (alone_here t id r) ((segments_right db right).1.3 id r there)

  -- the first period is of a pairing of the state
  its_pairing : (p : PeriodRecord) → Has (map period_row periods) (period_row p) → (r : PairingEntry) × (fin.get t.pairings id ≡ Some r)
  its_pairing p h =
      let kept = finds.there (period_row p) h in
      let at = ((segments_right db right).1.1 (period_row p)).0 kept.0 in
      let same : id ≡ at.0.name = period_of p kept.1 ∙ text_is (ap (λ (x : Row). column x 0) at.2) in
      (at.0.value, ap (fin.get t.pairings) same ∙ at.0.there)

  pub not_unread : (p : PeriodRecord) → Has (map period_row periods) (period_row p) → GiveNoPairing id periods segments → ⊥
  not_unread p h (inl (inl strange)) = period_strange strange
  not_unread p h (inl (inr gap)) = gap.2 (ungapped gap.0 gap.1)
  not_unread p h (inr m) = elim m.2 [
    | inl wanting ↦ elim wanting [
      | inl strange ↦ segment_strange m.0 m.1.0 strange
      | inr gap ↦ gap.2 (segments_ungapped m.0 m.1.0 gap.0 gap.1)
    ]
    | inr n ↦ let r = its_pairing p h in n.2 r.0 (pairing_told m.0 m.1.0 n.0 n.1.0 r.0 r.1)
  ]

-- of all that is read of a pairing with a period
not_unread_rows : (s : roster.State) (sound : Sound s) (db : Database) (book : IsBookOf s db) (right : AreRight outside_segment db) (id : List ℕ) (periods : List PeriodRecord) (segments : List SegmentRecord) →
    Finds (table period) (begins_with (Text id ∷ [])) db (map period_row periods) → IfSome periods (Finds (table segment) (begins_with (Text id ∷ [])) db (map segment_row segments)) →
    IsSome (slice_get periods 0) → GiveNoPairing id periods segments → ⊥
not_unread_rows s sound db book right id [] segments finds also some unread = absurd (cc)
not_unread_rows s sound db book right id (p ∷ ps) segments finds also some unread =
    not_unread s sound db book right id (p ∷ ps) segments (are_of period _ db (map period_row (p ∷ ps)) finds) (are_of segment _ db (map segment_row segments) also) p (inl refl) unread

pub not_unread_plan : (s : roster.State) (sound : Sound s) (db : Database) (book : IsBookOf s db) (right : AreRight outside_segment db) (id : List ℕ) (rows : PlanRecords) → FindsPlan id db rows →
    IsSome (slice_get rows.periods.items 0) → GiveNoPairing id rows.periods.items rows.segments.items → ⊥
not_unread_plan s sound db book right id rows finds some unread =
    not_unread_rows s sound db book right id rows.periods.items rows.segments.items finds.periods finds.segments some unread

-- ---- The fault

unread_if : (id : List ℕ) (periods : List PeriodRecord) (segments : List SegmentRecord) (fault : LoadFault) → RefusesPairing id periods segments fault → unread_as fault ≡ Store → GiveNoPairing id periods segments
unread_if id periods segments (Fault fault) refuses is = absurd (cc)
unread_if id periods segments NotABook refuses is = refuses
unread_if id periods segments Version refuses is = refuses
unread_if id periods segments (Damaged name) refuses is = refuses

pub why_unread : (id : List ℕ) (periods : List PeriodRecord) (segments : List SegmentRecord) (fault : LoadFault) (told : StoreFault) → told ≡ unread_as fault → RefusesPairing id periods segments fault →
    told ≡ Store → GiveNoPairing id periods segments
why_unread id periods segments fault told same refuses is = unread_if id periods segments fault refuses (sym same ∙ is)
