-- The table `pairing`: the ids that its records give, and when it is right.
use Rattle.std.proofs.Common.{◌≡◌, inl, inr, refl, sym, ap, subst, ◌∙◌, ℕ, ◌+◌, true, false, List, map, take, length, Option, Some, None, slice_get}
use Rattle.std.specs.FinMap as fin
use Rattle.std.specs.Prelude.{is_some, ⊤}
use Rattle.sqlite_value.specs.Order.{Row, column}
use Rattle.sqlite_rules.specs.Lists.{Has}
use Rattle.sqlite.specs.Effect.{Database}
use Rattle.duty.specs.Shape.{is_id}
use Rattle.tables.specs.Records.{IsPairingRow, pairing_row}
use Rattle.tables.specs.declared.pairing.PairingRecord.{PairingRecord}
use Rattle.entries.proofs.Ascii.{id_utf8}
use Rattle.entries.proofs.Mapping.{all_taken, nothing_mapped, next_mapped, mapped_at, mapped_place}
use Rattle.state_rows.proofs.Values.{text_is}
use Rattle.entries.specs.Keyed.{Ids}
use Rattle.loading.specs.PlanTables.{IdsRead, IsId, AreIds, HasIds, row_of_id}
use Rattle.loading.specs.Reading.{HasRows, IsUnreadable}
use Rattle.entries.specs.Mapping.{HasStranger, Mapped}
use Rattle.state_rows.specs.Rows.{pairing}

-- ---- Records in turn

pub none_read : (records : List PairingRecord) → IdsRead records 0 fin.empty
none_read records = record { mapped = nothing_mapped (λ id. id) (λ i j e. e) row_of_id IsId }

module _ (records : List PairingRecord) (at : ℕ) (it : PairingRecord) (there : slice_get records at ≡ Some it) where
  pub stranger : is_id it.id ≡ false → HasStranger row_of_id IsId (map pairing_row records)
  stranger failed = record {
    row = pairing_row it;
    here = mapped_at pairing_row records at it there;
    strange = λ id v e is.
        let same : it.id ≡ id = text_is (ap (λ (r : Row). column r 0) e) in
        absurd (let f = sym failed ∙ ap is_id same ∙ is in cc);
  }

  pub one_read : (m n : Ids) → IdsRead records at m → is_id it.id ≡ true → n ≡ fin.insert m it.id tt → IdsRead records (at + 1) n
  one_read m n read shaped made = record {
    mapped = subst (Mapped (λ id. id) row_of_id IsId (take (at + 1) (map pairing_row records))) (sym made)
        (next_mapped (λ id. id) (λ i j e. e) row_of_id IsId m it.id tt (map pairing_row records) at
        (mapped_place pairing_row records at it there) read.mapped shaped (λ id v w a b. refl));
  }

-- ---- The table

is_there : {V : Type 0} (o : Option V) (v : V) → o ≡ Some v → is_some o ≡ true
is_there o v e = ap is_some e

the_value : (o : Option ⊤) → is_some o ≡ true → o ≡ Some tt
the_value None e = absurd (cc)
the_value (Some v) e = refl

module _ (db : Database) where
  pub not_unreadable : IsUnreadable pairing IsPairingRow db → AreIds db → ⊥
  not_unreadable (inl none) right = none right.0
  not_unreadable (inr x) right =
      let is = right.1 x.0 x.1 in
      x.3 (record { id = is.0 }, id_utf8 is.0 is.2, is.1)

  module _ (records : List PairingRecord) (read : HasRows pairing db (map pairing_row records)) where
    pub strange : HasStranger row_of_id IsId (map pairing_row records) → AreIds db → ⊥
    strange it right =
        let is = right.1 it.row ((read.all it.row).1 it.here) in
        it.strange is.0 tt is.1 is.2

    pub has_ids : (ids : Ids) → IdsRead records (length records) ids → HasIds db ids
    has_ids ids all =
        let mapped = subst (λ l. Mapped (λ id. id) row_of_id IsId l ids) (all_taken pairing_row records) all.mapped in
        record {
          stored = read.stored;
          there = read.there;
          rows = λ row. (
            λ h. let at = mapped.has row ((read.all row).0 h) in (at.0.index, is_there _ at.0.value at.0.there, at.1),
            λ it. (read.all row).1 (subst (Has (map pairing_row records)) (sym it.2)
                (mapped.all (record { index = it.0; value = tt; there = the_value (fin.get ids it.0) it.1 }))),
          );
          shaped = λ id known. let it = mapped.known id tt (the_value (fin.get ids id) known) in subst (λ i. is_id i ≡ true) (sym it.1) it.2;
        }
