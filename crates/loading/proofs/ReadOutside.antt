-- The table `outside`: its records by their ids, and when it is right.
use Rattle.std.proofs.Common.{◌≡◌, inl, inr, refl, sym, ap, subst, ◌∙◌, ℕ, ◌+◌, true, false, List, [], ◌∷◌, map, take, length, Option, Some, None, slice_get}
use Rattle.std.specs.FinMap as fin
use Rattle.sqlite_value.specs.declared.value.Value.TheVariants.{Text}
use Rattle.sqlite_value.specs.Order.{Row, column}
use Rattle.sqlite_rules.specs.Lists.{Has}
use Rattle.sqlite.specs.Effect.{Database}
use Rattle.duty.specs.Shape.{is_id}
use Rattle.roster.specs.Sound.{Members}
use Rattle.roster.specs.State.{State}
use Rattle.roster.specs.declared.state.DutyId.TheVariants.{Period, Outside}
use Rattle.stored_json.specs.Instants.{is_instant}
use Rattle.tables.proofs.KeyLemmas.{once_by_one}
use Rattle.tables.specs.Records.{IsOutsideRow, outside_row}
use Rattle.tables.specs.Rows.{begins_with, rows_of}
use Rattle.tables.specs.Schema.{outside_table}
use Rattle.tables.specs.declared.outside.OutsideRecord.{OutsideRecord}
use Rattle.entries.proofs.Ascii.{id_utf8}
use Rattle.entries.proofs.Duties.{duties_same}
use Rattle.entries.proofs.Editions.{FitsOutside, its_table, next_outside}
use Rattle.entries.proofs.Mapping.{all_taken, nothing_mapped, next_mapped, mapped_at, mapped_place}
use Rattle.loading.proofs.ReadCrewBase.{has_value, is_there as there_is}
use Rattle.entries.proofs.RecordedDuties.{recorded_above}
use Rattle.entries.proofs.RightRows.{number_fits}
use Rattle.entries.proofs.SameStates.{crew_told}
use Rattle.entries.specs.Right.{AreOutsides, AreRight, IsCrewBaseRight, IsCrewRight, IsExceedanceRight, IsOfEdition, name_of}
use Rattle.loading.specs.OutsideTables.{AreNoOutsides, AreOutsidesRead, AreRecorded, HasOutsides, InOutsides, IsKeyedOutside, OutsidesRead, row_of_keyed_outside}
use Rattle.entries.specs.OutsideRows.{Outsides}
use Rattle.loading.specs.Reading.{AgreesIn, HasRows, IsReadAs, IsUnreadable}
use Rattle.entries.specs.Mapping.{AreOnce, HasStranger, Mapped, TellsOf}
use Rattle.entries.specs.Faults.{Blames}
use Rattle.entries.specs.Exceedances.{row_of_recorded}
use Rattle.entries.specs.declared.fault.LoadFault.{LoadFault}
use Rattle.entries.specs.declared.fault.LoadFault.TheVariants.{NotABook, Version, Damaged, Fault}
use Rattle.entries.specs.declared.fault.TableName.TheVariants as table_name
use Rattle.state_rows.proofs.Tests.{passes}
use Rattle.state_rows.proofs.Values.{text_is, number_is}
use Rattle.state_rows.specs.Rows.{InCrew, crew_base, named_id, named_number, outside}
use Rattle.state_rows.specs.declared.edition.Edition.TheVariants.{Second}

-- the record whose row it is under an id
module _ (members : Members) (it : OutsideRecord) (id : List ℕ) (v : OutsideRecord) (e : outside_row it ≡ row_of_keyed_outside id v) (is : IsKeyedOutside members id v) where
  same_record : v ≡ it
  same_record =
      let at_column = λ (k : ℕ). ap (λ (row : Row). column row k) e in
      let same_id : it.id ≡ id = text_is (at_column 0) in
      let crew : it.crew ≡ v.crew = text_is (at_column 1) in
      let report : it.report_at ≡ v.report_at = number_is (at_column 2) in
      let release : it.release_at ≡ v.release_at = number_is (at_column 3) in
      λ i. record { id = (is.named ∙ sym same_id) i; crew = sym crew i; report_at = sym report i; release_at = sym release i }

-- ---- One record

module _ (members : Members) (it : OutsideRecord) where
  abbrev pub Tells : Option (List ℕ) → Type 0
  Tells = TellsOf (λ id v found. (found ≡ id) × (v ≡ it)) row_of_keyed_outside (IsKeyedOutside members) (outside_row it)

  pub bad_id : is_id it.id ≡ false → Tells None
  bad_id bad id v e is = absurd (let f = sym bad ∙ ap (λ (r : OutsideRecord). is_id r.id) (sym (same_record members it id v e is)) ∙ is.id_shape in cc)

  pub bad_report : (is_instant it.report_at ≡ true → ⊥) → Tells None
  bad_report bad id v e is = bad (subst (λ (r : OutsideRecord). is_instant r.report_at ≡ true) (same_record members it id v e is) is.report)

  pub bad_release : (is_instant it.release_at ≡ true → ⊥) → Tells None
  bad_release bad id v e is = bad (subst (λ (r : OutsideRecord). is_instant r.release_at ≡ true) (same_record members it id v e is) is.release)

  pub no_member : fin.contains_key members it.crew ≡ false → Tells None
  no_member none id v e is =
      absurd (let f = sym none ∙ ap (λ (r : OutsideRecord). fin.contains_key members r.crew) (sym (same_record members it id v e is)) ∙ there_is (fin.get members v.crew) is.member is.of_member in cc)

  pub tells : is_id it.id ≡ true → is_instant it.report_at ≡ true → is_instant it.release_at ≡ true → fin.contains_key members it.crew ≡ true → Tells (Some it.id)
  tells shaped report release known =
      let member = has_value (fin.get members it.crew) known in (
        it.id,
        it,
        (refl, refl),
        refl,
        record { named = refl; id_shape = shaped; report = report; release = release; member = member.0; of_member = member.1 },
      )

-- ---- Records in turn

pub none_read : (members : Members) (records : List OutsideRecord) → OutsidesRead members records 0 fin.empty
none_read members records = record { mapped = λ once. nothing_mapped (λ id. id) (λ i j e. e) row_of_keyed_outside (IsKeyedOutside members) }

module _ (members : Members) (records : List OutsideRecord) (at : ℕ) (it : OutsideRecord) (there : slice_get records at ≡ Some it) where
  pub stranger : Tells members it None → HasStranger row_of_keyed_outside (IsKeyedOutside members) (map outside_row records)
  stranger none = record { row = outside_row it; here = mapped_at outside_row records at it there; strange = none }

  pub one_read : (m n : Outsides) (id : List ℕ) → Tells members it (Some id) → OutsidesRead members records at m → n ≡ fin.insert m id it → OutsidesRead members records (at + 1) n
  one_read m n id told read made =
      let index = told.0 in
      let v = told.1 in
      let same : n ≡ fin.insert m index v = made ∙ (λ i. fin.insert m (told.2.0 i) (sym told.2.1 i)) in
      record {
        mapped = λ once. subst (Mapped (λ i. i) row_of_keyed_outside (IsKeyedOutside members) (take (at + 1) (map outside_row records))) (sym same)
            (next_mapped (λ i. i) (λ i j e. e) row_of_keyed_outside (IsKeyedOutside members) m index v (map outside_row records) at
            (mapped_place outside_row records at it there ∙ ap Some told.3) (read.mapped once) told.4 once);
      }

pub outside_stranger : (records : List OutsideRecord) (s : State) (fault : LoadFault) →
    Blames table_name.Outside (HasStranger row_of_keyed_outside (IsKeyedOutside s.crew) (map outside_row records)) fault → Blames table_name.Outside (AreNoOutsides s records) fault
outside_stranger records s NotABook blame = blame
outside_stranger records s Version blame = blame
outside_stranger records s (Damaged other) blame = (blame.0, inl blame.1)
outside_stranger records s (Fault fault) blame = blame

pub not_all_recorded : (records : List OutsideRecord) (s : State) (m : Outsides) → OutsidesRead s.crew records (length records) m → (AreRecorded s m → ⊥) → AreNoOutsides s records
not_all_recorded records s m read none = inr (m, read, none)

-- ---- The table

itself : (id : List ℕ) (v : OutsideRecord) → begins_with (Text id ∷ []) (row_of_keyed_outside id v) ≡ true
itself id v = passes (Text id ∷ []) (row_of_keyed_outside id v) (refl, tt)

crew_part : (s : State) (db : Database) → IsCrewBaseRight s db → IsCrewRight s db
crew_part s db right = right.0.0.0.0.0.0.0.0.0

exceedance_part : (s : State) (db : Database) → IsCrewBaseRight s db → IsExceedanceRight s db
exceedance_part s db right = right.0.0.0

module _ (db : Database) (second : IsOfEdition Second db) where
  pub not_unreadable : IsUnreadable outside IsOutsideRow db → AreRight outside db → ⊥
  not_unreadable (inl none) right = none (its_table crew_base outside next_outside right.0 db second right.1).0
  not_unreadable (inr x) right =
      let is = (its_table crew_base outside next_outside right.0 db second right.1).1.rows x.0 x.1 in
      let member = (crew_part right.0 db right.1.0).2 is.it.crew is.member is.of_member in
      x.3 (
        is.it,
        id_utf8 is.it.id is.id_shape,
        id_utf8 is.it.crew member.id_shape,
        number_fits is.it.report_at is.report,
        number_fits is.it.release_at is.release,
        is.is,
      )

module _ (s : State) (db : Database) (up : AgreesIn Second crew_base s db) (records : List OutsideRecord) (read : HasRows outside db (map outside_row records)) where
  outsides_once : AreOnce row_of_keyed_outside (map outside_row records)
  outsides_once id v w first second =
      once_by_one outside_table db (1 ∷ []) ((2 ∷ 1 ∷ []) ∷ []) refl read.there.0 read.database read.stored (row_of_keyed_outside id v) (row_of_keyed_outside id w)
      ((read.all (row_of_keyed_outside id v)).1 first) ((read.all (row_of_keyed_outside id w)).1 second) (Text id) refl (λ r. refl) refl (itself id v) (itself id w)

  module _ (m : Outsides) (all : OutsidesRead s.crew records (length records) m) where
    mapped : Mapped (λ id. id) row_of_keyed_outside (IsKeyedOutside s.crew) (map outside_row records) m
    mapped = subst (λ l. Mapped (λ id. id) row_of_keyed_outside (IsKeyedOutside s.crew) l m) (all_taken outside_row records) (all.mapped outsides_once)

    keyed : (id : List ℕ) (it : OutsideRecord) → fin.get m id ≡ Some it → IsKeyedOutside s.crew id it
    keyed id it e = let known = mapped.known id it e in subst (λ k. IsKeyedOutside s.crew k it) (sym known.1) known.2

    rows : (row : Row) → (Has (rows_of outside_table db) row → InOutsides m row) × (InOutsides m row → Has (rows_of outside_table db) row)
    rows row = (
      λ h.
          let at = mapped.has row ((read.all row).0 h) in
          let is = keyed at.0.index at.0.value at.0.there in
          let here : row_of_keyed_outside at.0.index at.0.value ≡ outside_row at.0.value = λ i. outside_row (record at.0.value { id = sym is.named i }) in
          (at.0.value, ap (fin.get m) is.named ∙ at.0.there, at.1 ∙ here),
      λ it. (read.all row).1 (subst (Has (map outside_row records)) (sym it.2) (mapped.all (record { index = it.0.id; value = it.0; there = it.1 }))),
    )

    has_outsides : HasOutsides s db m
    has_outsides = record { stored = read.stored; there = read.there; rows = rows; keyed = keyed }

    are_outsides : AreRecorded s m → AreOutsides s db
    are_outsides recorded = record {
      rows = λ row h.
          let at = (rows row).0 h in
          let is = keyed at.0.id at.0 at.1 in
          record { it = at.0; is = at.2; id_shape = is.id_shape; report = is.report; release = is.release; member = is.member; of_member = is.of_member };
      recorded = λ name id e.
          let it = has_value (fin.get m id) (recorded name (Outside id) e) in
          let is = keyed id it.0 it.1 in
          (it.0, (rows (outside_row it.0)).1 (it.0, ap (fin.get m) is.named ∙ it.1, refl), is.named);
    }

  pub right : (m : Outsides) → AreOutsidesRead s records m → IsReadAs outside s db × HasOutsides s db m
  right m all = (
    ((up.through.right, inl (up.of, read.there, are_outsides m all.0 all.1)), read.stored),
    has_outsides m all.0,
  )

  -- an exceedance of this state that names an outside period is one of another with these rows
  there_too : (u : State) → IsCrewBaseRight u db → (name id : List ℕ) → fin.get s.exceedances name ≡ Some (Outside id) → (other : List ℕ) × (fin.get u.exceedances other ≡ Some (Outside id))
  there_too u right name id e =
      let mine = exceedance_part s db up.through.right in
      let others = exceedance_part u db right in
      let x = mine.2 name (Outside id) e in
      let row = row_of_recorded x.0 (Outside id) in
      let here = (mine.1.1 row).1 (record { key = x.0.key; crew = x.0.crew; section = x.0.section; named = Outside id; there = ap (fin.get s.exceedances) (sym x.1) ∙ e }, refl) in
      let at = (others.1.1 row).0 here in
      let other = name_of (record { key = at.0.key; crew = at.0.crew; section = at.0.section }) in
      let known = others.2 other at.0.named at.0.there in
      let same_id : named_id at.0.named ≡ id = text_is (sym (ap (λ (r : Row). column r 4) at.1)) in
      let same_number : named_number at.0.named ≡ 0 = number_is (sym (ap (λ (r : Row). column r 5) at.1)) in
      let same : at.0.named ≡ Outside id = duties_same at.0.named (Outside id) (recorded_above u.pairings at.0.named known.2.of_duty) tt same_id same_number in
      (other, at.0.there ∙ ap Some same)

  -- so it has a record
  all_there : (m : Outsides) → OutsidesRead s.crew records (length records) m → (u : State) → IsCrewBaseRight u db → FitsOutside u db → AreRecorded s m
  all_there m all u right fits name (Period p) e = refl
  all_there m all u right fits name (Outside id) e =
      let too = there_too u right name id e in
      let has = fits.1.recorded too.0 id too.1 in
      let at = (rows m all (outside_row has.0)).0 has.1 in
      let same : has.0.id ≡ at.0.id = text_is (ap (λ (r : Row). column r 0) at.2) in
      there_is (fin.get m id) at.0 (ap (fin.get m) (sym has.2 ∙ same) ∙ at.1)

  pub wrong : AreNoOutsides s records → AreRight outside db → ⊥
  wrong (inl it) right =
      let u = right.0 in
      let is = (its_table crew_base outside next_outside u db up.of right.1).1.rows it.row ((read.all it.row).1 it.here) in
      let to : (row : Row) → InCrew u row → InCrew s row = λ row h. ((crew_part s db up.through.right).1.1 row).0 (((crew_part u db right.1.0).1.1 row).1 h) in
      let alike = crew_told u s to is.it.crew is.member is.of_member in
      it.strange is.it.id is.it is.is
      (record { named = refl; id_shape = is.id_shape; report = is.report; release = is.release; member = alike.other; of_member = alike.there })
  wrong (inr (m, all, bad)) right = bad (all_there m all right.0 right.1.0 (its_table crew_base outside next_outside right.0 db up.of right.1))
