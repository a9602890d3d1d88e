-- The table `period`: when it is right.
use Rattle.std.proofs.Common.{◌≡◌, inl, inr, refl, sym, ap, subst, ◌∙◌, ℕ, pos, ◌+◌, true, List, [], ◌∷◌, map, length, Some}
use Rattle.std.specs.FinMap as fin
use Rattle.sqlite_value.specs.declared.value.Value.TheVariants.{Int, Text}
use Rattle.sqlite_value.specs.Order.{Row, column}
use Rattle.sqlite_rules.specs.Lists.{Has}
use Rattle.sqlite.specs.Effect.{Database}
use Rattle.tables.proofs.KeyLemmas.{period_once}
use Rattle.tables.specs.Records.{IsPeriodRow, period_row}
use Rattle.tables.specs.Rows.{begins_with, rows_of}
use Rattle.tables.specs.Schema.{pairing_table, period_table}
use Rattle.tables.specs.declared.period.PeriodRecord.{PeriodRecord}
use Rattle.entries.proofs.Ascii.{id_utf8}
use Rattle.entries.proofs.Mapping.{all_taken}
use Rattle.entries.proofs.PlanKeys.{period_names_same}
use Rattle.state_rows.proofs.Tests.{passes}
use Rattle.state_rows.proofs.Values.{text_is, number_is}
use Rattle.entries.specs.Keyed.{Ids, IsKeyedPeriod, PeriodsRead, ArePeriodsWhole, ArePeriodsWanting, name_of_period, row_of_keyed_period}
use Rattle.loading.specs.PlanTables.{HasIds, IsPeriodTable, HasPeriods}
use Rattle.entries.specs.Right.{ArePeriods}
use Rattle.entries.specs.PlanRows.{Periods, PeriodRows, ArePeriodsKeyed, AreUngapped, period_name}
use Rattle.entries.specs.Mapping.{AreOnce, HasStranger, Mapped, Under}
use Rattle.loading.specs.Reading.{HasRows, IsUnreadable}
use Rattle.state_rows.specs.Rows.{period, row_of_pairing}
use Rattle.entries.specs.declared.plan_rows.PeriodKey.{PeriodKey}
use Rattle.entries.proofs.KeyedPeriods.{names_same, same_record}
use Rattle.entries.proofs.RightRows.{number_fits, number_fits_if_any}

-- ---- The table

itself : (key : PeriodKey) (v : PeriodRecord) → begins_with (Text key.pairing ∷ Int (pos key.number) ∷ []) (row_of_keyed_period key v) ≡ true
itself key v = passes (Text key.pairing ∷ Int (pos key.number) ∷ []) (row_of_keyed_period key v) (refl, (refl, tt))

module _ (db : Database) (ids : Ids) (above : HasIds db ids) where
  -- a pairing has an id just where it has a row
  pub of_row : (id : List ℕ) → Has (rows_of pairing_table db) (row_of_pairing id) → fin.contains_key ids id ≡ true
  of_row id h =
      let it = (above.rows (row_of_pairing id)).0 h in
      let same : id ≡ it.0 = text_is (ap (λ (r : Row). column r 0) it.2) in
      subst (λ i. fin.contains_key ids i ≡ true) (sym same) it.1

  row_of : (id : List ℕ) → fin.contains_key ids id ≡ true → Has (rows_of pairing_table db) (row_of_pairing id)
  row_of id known = (above.rows (row_of_pairing id)).1 (id, known, refl)

  pub not_unreadable : IsUnreadable period IsPeriodRow db → IsPeriodTable db → ⊥
  not_unreadable (inl none) right = none right.0
  not_unreadable (inr x) right =
      let is = right.1 x.0 x.1 in
      x.3 (
        is.it,
        id_utf8 is.it.pairing (above.shaped is.it.pairing (of_row is.it.pairing is.of_pairing)),
        is.fits,
        number_fits is.it.report_at is.report,
        number_fits is.it.release_at is.release,
        number_fits_if_any is.it.act_report is.act_report,
        number_fits_if_any is.it.act_release is.act_release,
        is.is,
      )

  module _ (records : List PeriodRecord) (read : HasRows period db (map period_row records)) where
    once : AreOnce row_of_keyed_period (map period_row records)
    once key v w first second =
        period_once db read.database read.there.0 read.stored key.pairing (pos key.number) (row_of_keyed_period key v) (row_of_keyed_period key w)
        ((read.all (row_of_keyed_period key v)).1 first) ((read.all (row_of_keyed_period key w)).1 second) (itself key v) (itself key w)

    strange : HasStranger row_of_keyed_period (IsKeyedPeriod ids) (map period_row records) → IsPeriodTable db → ⊥
    strange s right =
        let is = right.1 s.row ((read.all s.row).1 s.here) in
        s.strange (record { pairing = is.it.pairing; number = is.it.number }) is.it is.is (record {
          pairing = refl;
          number = refl;
          fits = is.fits;
          instants = (is.report, is.release, is.act_report, is.act_release);
          of_pairing = of_row is.it.pairing is.of_pairing;
        })

    module _ (m : Periods) (all : PeriodsRead ids records (length records) m) where
      mapped : Mapped name_of_period row_of_keyed_period (IsKeyedPeriod ids) (map period_row records) m
      mapped = subst (λ l. Mapped name_of_period row_of_keyed_period (IsKeyedPeriod ids) l m) (all_taken period_row records) (all.mapped once)

      keyed : ArePeriodsKeyed m
      keyed key it e = let known = mapped.known key it e in known.1 ∙ (λ i. period_name (sym known.2.pairing i) (sym known.2.number i))

      -- each has its row
      in_table : (key : List ℕ) (it : PeriodRecord) → fin.get m key ≡ Some it → Has (rows_of period_table db) (period_row it)
      in_table key it e =
          let known = mapped.known key it e in
          let here : row_of_keyed_period known.0 it ≡ period_row it = λ i. period_row (record it { pairing = sym known.2.pairing i; number = sym known.2.number i }) in
          (read.all (period_row it)).1 (subst (Has (map period_row records)) here
          (mapped.all (record { index = known.0; value = it; there = ap (fin.get m) (sym known.1) ∙ e })))

      under : (at : Under name_of_period m) → IsKeyedPeriod ids at.index at.value
      under at = let known = mapped.known (name_of_period at.index) at.value at.there in subst (λ k. IsKeyedPeriod ids k at.value) (sym (names_same at.index known.0 known.1)) known.2

      -- and the record of each row is there
      from_table : (it : PeriodRecord) → Has (rows_of period_table db) (period_row it) → fin.get m (period_name it.pairing it.number) ≡ Some it
      from_table it h =
          let at = mapped.has (period_row it) ((read.all (period_row it)).0 h) in
          let is = under at.0 in
          let same = same_record ids it at.0.index at.0.value at.1 is in
          ap (fin.get m) (λ i. period_name ((ap (λ (r : PeriodRecord). r.pairing) (sym same) ∙ is.pairing) i) ((ap (λ (r : PeriodRecord). r.number) (sym same) ∙ is.number) i))
          ∙ at.0.there ∙ ap Some same

      rows : (row : Row) → (Has (rows_of period_table db) row → PeriodRows m row) × (PeriodRows m row → Has (rows_of period_table db) row)
      rows row = (
        λ h.
            let at = mapped.has row ((read.all row).0 h) in
            let is = under at.0 in
            let here : row_of_keyed_period at.0.index at.0.value ≡ period_row at.0.value =
            λ i. period_row (record at.0.value { pairing = sym is.pairing i; number = sym is.number i }) in
            (at.0.value, ap (fin.get m) (λ i. period_name (is.pairing i) (is.number i)) ∙ at.0.there, at.1 ∙ here),
        λ it. subst (Has (rows_of period_table db)) (sym it.2) (in_table (period_name it.0.pairing it.0.number) it.0 it.1),
      )

      -- without a gap, the table is right
      are_periods : AreUngapped m → ArePeriods db
      are_periods ungapped row h =
          let at = (rows row).0 h in
          let it = at.0 in
          let is = (mapped.known (period_name it.pairing it.number) it at.1).2 in
          record {
            it = it;
            is = at.2;
            fits = is.fits;
            report = is.instants.0;
            release = is.instants.1;
            act_report = is.instants.2;
            act_release = is.instants.3;
            of_pairing = row_of it.pairing is.of_pairing;
            no_gap = elim (ungapped it.pairing it.number it at.1) [
              | inl one ↦ inl one
              | inr p ↦
                  let names = period_names_same it.pairing p.1.pairing p.0 p.1.number (keyed (period_name it.pairing p.0) p.1 p.3) in
                  inr (p.1, in_table (period_name it.pairing p.0) p.1 p.3, sym names.0, ap (λ n. n + 1) (sym names.1) ∙ p.2)
            ];
          }

      -- and where it is right, there is none
      ungapped : ArePeriods db → AreUngapped m
      ungapped right pairing number it e =
          let is = right (period_row it) (in_table (period_name pairing number) it e) in
          let names = period_names_same pairing it.pairing number it.number (keyed (period_name pairing number) it e) in
          let same_pairing : it.pairing ≡ is.it.pairing = text_is (ap (λ (r : Row). column r 0) is.is) in
          let same_number : it.number ≡ is.it.number = number_is (ap (λ (r : Row). column r 1) is.is) in
          elim is.no_gap [
            | inl one ↦ inl (names.1 ∙ same_number ∙ one)
            | inr p ↦ inr (
              p.0.number,
              p.0,
              p.3 ∙ sym same_number ∙ sym names.1,
              ap (λ k. fin.get m (period_name k p.0.number)) (names.0 ∙ same_pairing ∙ sym p.2) ∙ from_table p.0 p.1,
            )
          ]

      pub has_periods : AreUngapped m → HasPeriods db m
      has_periods whole = record { stored = read.stored; right = (read.there, are_periods whole); rows = rows; keyed = keyed; ungapped = whole }

    pub has_whole : (m : Periods) → ArePeriodsWhole ids records (length records) m → HasPeriods db m
    has_whole m all = has_periods m all.0 all.1

    pub wanting : ArePeriodsWanting ids records (length records) → IsPeriodTable db → ⊥
    wanting (inl s) right = strange s right
    wanting (inr m) right = m.2 (ungapped m.0 m.1 right.1)
