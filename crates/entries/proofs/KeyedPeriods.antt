-- The records of `period` by their keys.
use Rattle.std.proofs.Common.{◌≡◌, refl, sym, ap, subst, ◌∙◌, ℕ, ◌+◌, true, false, List, map, take, Option, Some, None, slice_get}
use Rattle.std.specs.FinMap as fin
use Rattle.sqlite_value.specs.Order.{Row, column}
use Rattle.tables.specs.Records.{IsNumber, period_row}
use Rattle.tables.specs.declared.period.PeriodRecord.{PeriodRecord}
use Rattle.entries.proofs.Mapping.{nothing_mapped, next_mapped, mapped_at, mapped_place}
use Rattle.entries.proofs.PlanKeys.{period_names_same}
use Rattle.state_rows.proofs.Values.{text_is, number_is, numbers_same}
use Rattle.entries.specs.Keyed.{Ids, AtInstants, IsKeyedPeriod, PeriodsRead, name_of_period, row_of_keyed_period}
use Rattle.entries.specs.PlanRows.{Periods}
use Rattle.entries.specs.Mapping.{HasStranger, Mapped, TellsOf}
use Rattle.entries.specs.declared.plan_rows.PeriodKey.{PeriodKey}

pub names_same : (i j : PeriodKey) → name_of_period i ≡ name_of_period j → i ≡ j
names_same i j e = let it = period_names_same i.pairing j.pairing i.number j.number e in λ k. record { pairing = it.0 k; number = it.1 k }

-- the record whose row it is under a key
module _ (ids : Ids) (it : PeriodRecord) (key : PeriodKey) (v : PeriodRecord) (e : period_row it ≡ row_of_keyed_period key v) (is : IsKeyedPeriod ids key v) where
  pub same_record : v ≡ it
  same_record =
      let at_column = λ (k : ℕ). ap (λ (row : Row). column row k) e in
      let pairing : it.pairing ≡ key.pairing = text_is (at_column 0) in
      let number : it.number ≡ key.number = number_is (at_column 1) in
      let report : it.report_at ≡ v.report_at = number_is (at_column 2) in
      let release : it.release_at ≡ v.release_at = number_is (at_column 3) in
      let act_report : it.act_report ≡ v.act_report = numbers_same _ _ (at_column 4) in
      let act_release : it.act_release ≡ v.act_release = numbers_same _ _ (at_column 5) in
      λ i. record {
        pairing = (is.pairing ∙ sym pairing) i;
        number = (is.number ∙ sym number) i;
        report_at = sym report i;
        release_at = sym release i;
        act_report = sym act_report i;
        act_release = sym act_release i;
      }

-- ---- One record

module _ (ids : Ids) (it : PeriodRecord) where
  abbrev pub Tells : Option PeriodKey → Type 0
  Tells = TellsOf (λ key v found. (found ≡ key) × (v ≡ it)) row_of_keyed_period (IsKeyedPeriod ids) (period_row it)

  pub not_at_instants : (AtInstants it → ⊥) → Tells None
  not_at_instants none key v e is = none (subst AtInstants (same_record ids it key v e is) is.instants)

  pub no_pairing : fin.contains_key ids it.pairing ≡ false → Tells None
  no_pairing none key v e is =
      absurd (let f = sym none ∙ ap (λ (r : PeriodRecord). fin.contains_key ids r.pairing) (sym (same_record ids it key v e is)) ∙ is.of_pairing in cc)

  pub tells : IsNumber it.number → AtInstants it → fin.contains_key ids it.pairing ≡ true → Tells (Some (record { pairing = it.pairing; number = it.number }))
  tells fits instants known = (
    record { pairing = it.pairing; number = it.number },
    it,
    (refl, refl),
    refl,
    record { pairing = refl; number = refl; fits = fits; instants = instants; of_pairing = known },
  )

-- ---- Records in turn

pub none_read : (ids : Ids) (records : List PeriodRecord) → PeriodsRead ids records 0 fin.empty
none_read ids records = record { mapped = λ once. nothing_mapped name_of_period names_same row_of_keyed_period (IsKeyedPeriod ids) }

module _ (ids : Ids) (records : List PeriodRecord) (at : ℕ) (it : PeriodRecord) (there : slice_get records at ≡ Some it) where
  pub stranger : Tells ids it None → HasStranger row_of_keyed_period (IsKeyedPeriod ids) (map period_row records)
  stranger none = record { row = period_row it; here = mapped_at period_row records at it there; strange = none }

  pub one_read : (m n : Periods) (key : PeriodKey) → Tells ids it (Some key) → PeriodsRead ids records at m → n ≡ fin.insert m (name_of_period key) it →
      PeriodsRead ids records (at + 1) n
  one_read m n key told read made =
      let index = told.0 in
      let v = told.1 in
      let same : n ≡ fin.insert m (name_of_period index) v = made ∙ (λ i. fin.insert m (name_of_period (told.2.0 i)) (sym told.2.1 i)) in
      record {
        mapped = λ once. subst (Mapped name_of_period row_of_keyed_period (IsKeyedPeriod ids) (take (at + 1) (map period_row records))) (sym same)
            (next_mapped name_of_period names_same row_of_keyed_period (IsKeyedPeriod ids) m index v (map period_row records) at
            (mapped_place period_row records at it there ∙ ap Some told.3) (read.mapped once) told.4 once);
      }
