-- The ids that are read of a whole table are those of the state.
use Rattle.std.proofs.Common.{◌≡◌, inl, inr, refl, sym, ap, ◌∙◌, ℕ, List, [], ◌∷◌, map, Contains, Option, Some, None, is_some, true, IsTrue}
use Rattle.std.specs.FinMap as fin
use Rattle.values.specs.Name.{name_cmp}
use Rattle.sqlite_value.specs.Order.{Row, column}
use Rattle.sqlite_value.specs.declared.value.Value.TheVariants.{Text}
use Rattle.sqlite_rules.specs.Lists.{Has}
use Rattle.sqlite.specs.Effect.{Database}
use Rattle.roster.proofs.Members.{first_or_later, is_first, is_later, none_in}
use Rattle.roster.specs.Holding.{AreJust}
use Rattle.roster.specs.Refusals.{is_member, is_pairing}
use Rattle.roster.specs.State.{State}
use Rattle.tables.specs.Records.{crew_row, pairing_row}
use Rattle.tables.specs.Rows.{Finds, begins_with, rows_of}
use Rattle.tables.specs.declared.crew.CrewRecord.{CrewRecord}
use Rattle.tables.specs.declared.pairing.PairingRecord.{PairingRecord}
use Rattle.state_rows.specs.Rows.{At, StateTable, table, crew, pairing, row_of_member, row_of_pairing}
use Rattle.state_rows.proofs.Values.{text_is}
use Rattle.state_rows.specs.Kept.{IsBookOf}
use Rattle.lookup.specs.Ids.{members_in, pairings_in}
use Rattle.lookup.proofs.ReadLemmas.{in_found, of_found}

there_is : {V : Type 0} (o : Option V) → is_some o ≡ true → (value : V) × (o ≡ Some value)
there_is None is = absurd (cc)
there_is (Some value) is = (value, refl)

-- records whose first column is their id
module _ {R : Type 0} (row_of : R → Row) (id_of : R → List ℕ) (first : (r : R) → column (row_of r) 0 ≡ Text (id_of r)) where
  has_row : (records : List R) (id : List ℕ) → Contains (map id_of records) id → (it : R) × Has (map row_of records) (row_of it) × (id_of it ≡ id)
  has_row [] id c = absurd (none_in id c)
  has_row (row ∷ rows) id c = elim (first_or_later (id_of row) (map id_of rows) id c) [
    | inl same ↦ (row, inl refl, same)
    | inr later ↦ let it = has_row rows id later in (it.0, inr it.1, it.2)
  ]

  row_id : (records : List R) (row : Row) (id : List ℕ) → Has (map row_of records) row → column row 0 ≡ Text id → Contains (map id_of records) id
  row_id [] row id h is = absurd h
  row_id (x ∷ xs) row id (inl same) is = is_first (id_of x) (map id_of xs) id (text_is (sym (first x) ∙ ap (λ (r : Row). column r 0) (sym same) ∙ is))
  row_id (x ∷ xs) row id (inr later) is = is_later (id_of x) (map id_of xs) id (row_id xs row id later is)

  -- a table with a row for each name of a map
  module _ {V : Type 0} (m : fin.FinMap name_cmp V) (it : StateTable) (db : Database) (of_row : (row : Row) → Has (rows_of (table it) db) row → (at : At m) × (column row 0 ≡ Text at.name))
      (to_row : (at : At m) → (row : Row) × Has (rows_of (table it) db) row × (column row 0 ≡ Text at.name)) where
    names_are : (records : List R) → Finds (table it) (begins_with []) db (map row_of records) → AreJust (λ id. IsTrue (fin.contains_key m id)) (map id_of records)
    names_are records finds id = (
      λ c.
          let r = has_row records id c in
          let at = of_row (row_of r.0) (of_found it (begins_with []) db (map row_of records) finds (row_of r.0) r.1).0 in
          let same : id ≡ at.0.name = sym r.2 ∙ text_is (sym (first r.0) ∙ at.1) in
          ap is_some (ap (fin.get m) same ∙ at.0.there),
      λ is.
          let there = there_is (fin.get m id) is in
          let row = to_row (record { name = id; value = there.0; there = there.1 }) in
          row_id records row.0 id (in_found it (begins_with []) db (map row_of records) finds row.0 row.1 refl) row.2,
    )

module _ (s : State) (db : Database) (book : IsBookOf s db) where
  pub members_are : (records : List CrewRecord) → Finds (table crew) (begins_with []) db (map crew_row records) → AreJust (λ id. IsTrue (is_member s id)) (members_in records)
  members_are = names_are crew_row (λ row. row.id) (λ row. refl) s.crew crew db
      (λ row h. let at = (book.rows crew row).0 h in (at.0, ap (λ (r : Row). column r 0) at.1))
      (λ at. let row = row_of_member at.name at.value in (row, (book.rows crew row).1 (at, refl), refl))

  pub pairings_are : (records : List PairingRecord) → Finds (table pairing) (begins_with []) db (map pairing_row records) → AreJust (λ id. IsTrue (is_pairing s id)) (pairings_in records)
  pairings_are = names_are pairing_row (λ row. row.id) (λ row. refl) s.pairings pairing db
      (λ row h. let at = (book.rows pairing row).0 h in (at.0, ap (λ (r : Row). column r 0) at.1))
      (λ at. let row = row_of_pairing at.name in (row, (book.rows pairing row).1 (at, refl), refl))
