-- The exceedances that are read are the state's.
use Rattle.std.proofs.Common.{◌≡◌, refl, sym, ap, subst, ◌∙◌, arith, ℕ, pos, ◌+◌, ◌<◌, ◌≤◌, List, [], ◌∷◌, map, take, length, Result, Ok, Err, Some, IsTrue, slice_get, true}
use Rattle.std.specs.FinMap as fin
use Rattle.values.specs.Name.{name_cmp}
use Rattle.sqlite_value.specs.Order.{Row, column}
use Rattle.sqlite_value.specs.declared.value.Value.TheVariants.{Int, Text}
use Rattle.sqlite.specs.Effect.{Database}
use Rattle.sqlite.specs.State.{State, HasCleanDisk}
use Rattle.limits.specs.SectionText.{section_number}
use Rattle.limits.specs.declared.section.Section.{Section}
use Rattle.command.specs.Keys.{KeyParts}
use Rattle.roster.specs.Sound.{IsNamed, Sound}
use Rattle.roster.specs.State as roster
use Rattle.roster.specs.State.{exceedance_name}
use Rattle.roster.specs.declared.state.ExceedanceId.{ExceedanceId}
use Rattle.roster.specs.declared.state.DutyId.{DutyId}
use Rattle.roster.specs.declared.state.DutyId.TheVariants.{Period, Outside}
use Rattle.tables.proofs.KeyLemmas.{exceedance_once}
use Rattle.tables.specs.Calls.{HasStepLimit, CrashLeavesNoMore, ReadAs}
use Rattle.tables.specs.Records.{IsExceedanceRow, exceedance_row}
use Rattle.tables.specs.Rows.{Finds, FindsInOrder, HasNoRecord, begins_with}
use Rattle.tables.specs.Schema.{IsTable, exceedance_table}
use Rattle.tables.specs.declared.exceedance.ExceedanceRecord.{ExceedanceRecord}
use Rattle.tables.specs.declared.table_fault.TableFault.{TableFault}
use Rattle.state_rows.specs.Rows.{table, exceedance, outside_segment, ExceedanceAt, named_number}
use Rattle.state_rows.specs.Faults.{store_fault_of}
use Rattle.state_rows.specs.declared.fault.StoreFault.{StoreFault}
use Rattle.state_rows.specs.declared.fault.StoreFault.TheVariants.{Memory, Store}
use Rattle.state_rows.proofs.Lists.{same_map}
use Rattle.state_rows.proofs.Tests.{passes}
use Rattle.state_rows.proofs.Values.{ids_same, int_is, sections_same, number_is, text_is}
use Rattle.state_rows.specs.Kept.{IsBookOf}
use Rattle.state_rows.proofs.EachTable.{is_there}
use Rattle.state_rows.specs.Outcomes.{IsOutside}
use Rattle.entries.proofs.Mapping.{all_taken, nothing_mapped, next_mapped, mapped_at, mapped_place}
use Rattle.entries.proofs.Duties.{IsAboveZero, duties_same}
use Rattle.entries.proofs.RecordedDuties.{period_fits, recorded_above, recorded_in}
use Rattle.entries.specs.Right.{AreRight, IsKey, name_of}
use Rattle.entries.specs.Mapping.{AreOnce, HasStranger, Mapped}
use Rattle.entries.specs.Exceedances.{IsDutyOf, IsInRange, row_of_recorded}
use Rattle.lookup.specs.Reads.{ReadsRows}
use Rattle.lookup.specs.Recorded.{AreRead, AreInRange, IsStrange, TellsRecorded}
use Rattle.lookup.proofs.Causes.{read_cause, wrong_there}
use Rattle.lookup.proofs.RightRows.{exceedance_records, exceedances_right, segments_right}
use Rattle.lookup.proofs.ReadLemmas.{at_rest, in_found, of_found, stays}

-- ---- The call

module _ {A : Type 0} (rows : A → List Row) (old new : State)
    (left : CrashLeavesNoMore old new) (outside : IsOutside old) (same : HasCleanDisk old → IsTrue old.is_open → old.now ≡ old.committed) where
  abbrev InOrder : Database → A → Type 0
  InOrder db found = FindsInOrder 4 exceedance_table db (rows found)

  abbrev Ordered : Result A TableFault → Type 0
  Ordered = ReadAs InOrder (HasNoRecord exceedance_table (begins_with []) IsExceedanceRow) (HasStepLimit old) old new

  pub was_ordered : (a : A) → Ordered (Ok a) → ReadsRows exceedance (begins_with []) rows old new (Ok a)
  was_ordered a read = record {
    stays = stays InOrder (HasNoRecord exceedance_table (begins_with []) IsExceedanceRow) (HasStepLimit old) old new left outside same (Ok a) read;
    told = λ clean. ((read clean).1, (read clean).0.0);
    caused = tt;
  }

  pub not_ordered : (fault : TableFault) (told : StoreFault) → Ordered (Err fault) → told ≡ store_fault_of fault →
      ReadsRows exceedance (begins_with []) rows old new (Err told)
  not_ordered fault told read of_fault = record {
    stays = stays InOrder (HasNoRecord exceedance_table (begins_with []) IsExceedanceRow) (HasStepLimit old) old new left outside same (Err fault) read;
    told = λ clean. tt;
    caused = λ clean is.
        read_cause InOrder (HasNoRecord exceedance_table (begins_with []) IsExceedanceRow) old new fault (exceedance_records old.now (begins_with [])) read clean (sym of_fault ∙ is);
  }

-- there was no memory to look for the table
pub not_tried : {A : Type 0} (rows : A → List Row) (s : State) (fault : StoreFault) → IsOutside s → fault ≡ Memory → ReadsRows exceedance (begins_with []) rows s s (Err fault)
not_tried rows s fault outside memory = record {
  stays = at_rest s outside;
  told = λ clean. tt;
  caused = λ clean is. absurd (let no : Memory ≡ Store = sym memory ∙ is in cc);
}

-- the table isn't there
pub not_there : {A : Type 0} (rows : A → List Row) (s : State) → IsOutside s → (IsTable exceedance_table s.now.schema → ⊥) → ReadsRows exceedance (begins_with []) rows s s (Err Store)
not_there rows s outside none = record {
  stays = at_rest s outside;
  told = λ clean. tt;
  caused = λ clean is. wrong_there s s (λ right. none (exceedances_right s.now right).1.1.0.0);
}

-- ---- What an exceedance names

number_fits : (named : DutyId) → IsInRange named → named_number named < 256
number_fits (Period p) is = is.1
number_fits (Outside id) is = omega arith

range_above : (named : DutyId) → IsInRange named → IsAboveZero named
range_above (Period p) is = is.0
range_above (Outside id) is = tt

in_range : (named : DutyId) → IsAboveZero named → named_number named < 256 → IsInRange named
in_range (Period p) above fits = (above, fits)
in_range (Outside id) above fits = tt

-- the number of a period with an actual is above 0
named_above : (s : roster.State) (named : DutyId) → IsNamed s named → IsAboveZero named
named_above s (Period p) is = let n = is.number in omega (arith, n)
named_above s (Outside id) is = tt

-- ---- One record

pub row_is : (it : ExceedanceRecord) (key : KeyParts) (section : Section) (named : DutyId) → it.number ≡ pos key.number → it.part ≡ key.part → it.section ≡ section_number section →
    IsDutyOf it.pairing it.period named → TellsRecorded it (record { key = key; crew = it.crew; section = section }) named
row_is it key section named number part section_is tells =
    (λ i. exceedance_row (record it { number = number i; part = part i; section = section_is i; pairing = sym tells.same_id i; period = sym tells.same_number i }), tells.in_range)

module _ (it : ExceedanceRecord) (id : ExceedanceId) (named : DutyId) (same : exceedance_row it ≡ row_of_recorded id named) (is : AreInRange id named) where
  column_of : (k : ℕ) → column (exceedance_row it) k ≡ column (row_of_recorded id named) k
  column_of k = ap (λ (row : Row). column row k) same

  key_there : (key : KeyParts) × IsKey key × (it.number ≡ pos key.number) × (it.part ≡ key.part)
  key_there = (id.key, is.0, int_is (column_of 0), number_is (column_of 1))

  section_there : (section : Section) × (it.section ≡ section_number section)
  section_there = (id.section, number_is (column_of 3))

  period_there : it.period < 256
  period_there = subst (λ n. n < 256) (sym (number_is (column_of 5))) (number_fits named is.1)

pub no_key : (it : ExceedanceRecord) → ((key : KeyParts) → IsKey key → it.number ≡ pos key.number → it.part ≡ key.part → ⊥) → IsStrange it
no_key it none id named same is = let key = key_there it id named same is in none key.0 key.1 key.2 key.3

pub no_section : (it : ExceedanceRecord) → ((section : Section) → it.section ≡ section_number section → ⊥) → IsStrange it
no_section it none id named same is = let section = section_there it id named same is in none section.0 section.1

pub no_duty : (it : ExceedanceRecord) → 256 ≤ it.period → IsStrange it
no_duty it high id named same is = let low = period_there it id named same is in omega (arith, high, low)

-- ---- Records in turn

pub stranger_at : (records : List ExceedanceRecord) (at : ℕ) (it : ExceedanceRecord) → slice_get records at ≡ Some it → IsStrange it →
    HasStranger row_of_recorded AreInRange (map exceedance_row records)
stranger_at records at it there strange = record { row = exceedance_row it; here = mapped_at exceedance_row records at it there; strange = strange }

abbrev Is : ExceedanceId → DutyId → Type 0
Is id named = IsInRange named

pub none_read : (records : List ExceedanceRecord) (m : fin.FinMap name_cmp DutyId) → m ≡ fin.empty → AreRead records 0 m
none_read records m none = record { mapped = λ once. subst (Mapped name_of row_of_recorded Is []) (sym none) (nothing_mapped name_of ids_same row_of_recorded Is) }

pub one_read : (records : List ExceedanceRecord) (at : ℕ) (it : ExceedanceRecord) → slice_get records at ≡ Some it → (m n : fin.FinMap name_cmp DutyId) (id : ExceedanceId) (named : DutyId) →
    TellsRecorded it id named → n ≡ fin.insert m (name_of id) named → AreRead records at m → AreRead records (at + 1) n
one_read records at it there m n id named told made read = record {
  mapped = λ once. subst (Mapped name_of row_of_recorded Is (take (at + 1) (map exceedance_row records))) (sym made)
      (next_mapped name_of ids_same row_of_recorded Is m id named (map exceedance_row records) at (mapped_place exceedance_row records at it there ∙ ap Some told.0) (read.mapped once) told.1 once);
}

-- ---- The table

module _ (s : roster.State) (sound : Sound s) (db : Database) (is_book : IsBookOf s db) (records : List ExceedanceRecord)
    (finds : Finds (table exceedance) (begins_with []) db (map exceedance_row records)) where
  itself : (id : ExceedanceId) (d : DutyId) → begins_with (Int (pos id.key.number) ∷ Int (pos id.key.part) ∷ Text id.crew ∷ Int (pos (section_number id.section)) ∷ []) (row_of_recorded id d) ≡ true
  itself id d = passes (Int (pos id.key.number) ∷ Int (pos id.key.part) ∷ Text id.crew ∷ Int (pos (section_number id.section)) ∷ []) (row_of_recorded id d) (refl, (refl, (refl, (refl, tt))))

  once : AreOnce row_of_recorded (map exceedance_row records)
  once id d e first second =
      exceedance_once db is_book.database (is_there db.schema is_book.tables exceedance) (is_book.stored exceedance) (pos id.key.number) (pos id.key.part) id.crew (pos (section_number id.section))
      (row_of_recorded id d) (row_of_recorded id e)
      (of_found exceedance (begins_with []) db (map exceedance_row records) finds (row_of_recorded id d) first).0
      (of_found exceedance (begins_with []) db (map exceedance_row records) finds (row_of_recorded id e) second).0 (itself id d) (itself id e)

  -- rows that are the same are of one exceedance
  same_at : (id other : ExceedanceId) (d e : DutyId) → IsAboveZero d → IsAboveZero e → row_of_recorded id d ≡ row_of_recorded other e → (name_of id ≡ name_of other) × (d ≡ e)
  same_at id other d e above_d above_e is =
      let at_column = λ (k : ℕ). ap (λ (row : Row). column row k) is in
      let number : id.key.number ≡ other.key.number = number_is (at_column 0) in
      let part : id.key.part ≡ other.key.part = number_is (at_column 1) in
      let crew : id.crew ≡ other.crew = text_is (at_column 2) in
      let section = sections_same id.section other.section (number_is (at_column 3)) in (
        (λ i. exceedance_name (record { number = number i; part = part i }) (crew i) (section i)),
        duties_same d e above_d above_e (text_is (at_column 4)) (number_is (at_column 5)),
      )

  pub recorded_are : (m : fin.FinMap name_cmp DutyId) → AreRead records (length records) m → m ≡ s.exceedances
  recorded_are m read =
      let mapped = subst (λ l. Mapped name_of row_of_recorded Is l m) (all_taken exceedance_row records) (read.mapped once) in
      same_map m s.exceedances
      (λ q d e.
      let known = mapped.known q d e in
      let row = row_of_recorded known.0 d in
      let here = mapped.all (record { index = known.0; value = d; there = ap (fin.get m) (sym known.1) ∙ e }) in
      let at = (is_book.rows exceedance row).0 (of_found exceedance (begins_with []) db (map exceedance_row records) finds row here).0 in
      let of_state = named_above s at.0.named (sound.exceedances (exceedance_name at.0.key at.0.crew at.0.section) at.0.named at.0.there).of_duty in
      let same = same_at known.0 (record { key = at.0.key; crew = at.0.crew; section = at.0.section }) d at.0.named (range_above d known.2) of_state at.1 in
      ap (fin.get s.exceedances) (known.1 ∙ same.0) ∙ at.0.there ∙ ap Some (sym same.1))
      (λ q d e.
      let x = sound.exceedances q d e in
      let id : ExceedanceId = record { key = x.key; crew = x.crew; section = x.section } in
      let row = row_of_recorded id d in
      let at : ExceedanceAt s.exceedances = record { key = x.key; crew = x.crew; section = x.section; named = d; there = ap (fin.get s.exceedances) (sym x.known_by) ∙ e } in
      let here = mapped.has row (in_found exceedance (begins_with []) db (map exceedance_row records) finds row ((is_book.rows exceedance row).1 (at, refl)) refl) in
      let kept = mapped.known (name_of here.0.index) here.0.value here.0.there in
      let same = same_at id here.0.index d here.0.value (named_above s d x.of_duty) (range_above here.0.value kept.2) here.1 in
      ap (fin.get m) (x.known_by ∙ same.0) ∙ here.0.there ∙ ap Some (sym same.1))

pub no_stranger : (db : Database) → AreRight outside_segment db → (records : List ExceedanceRecord) → Finds (table exceedance) (begins_with []) db (map exceedance_row records) →
    HasStranger row_of_recorded AreInRange (map exceedance_row records) → ⊥
no_stranger db right records finds x =
    let r = exceedances_right db right in
    let there = of_found exceedance (begins_with []) db (map exceedance_row records) finds x.row x.here in
    let it = recorded_in r.0 db r.1 x.row there.0 in
    let fits = period_fits r.0 (segments_right db right).1.3 it.1 it.3.of_duty in
    x.strange it.0 it.1 it.2 (it.3.is_key, in_range it.1 (recorded_above r.0.pairings it.1 it.3.of_duty) fits)
