-- The bases that are read are the state's.
use Rattle.std.proofs.Common.{◌≡◌, ◌⊎◌, inl, inr, refl, sym, ap, subst, ◌∙◌, arith, ℕ, zero, suc, ◌<◌, ◌+◌, true, false, List, [], ◌∷◌, map, take, length, Some, slice_get}
use Rattle.std.specs.Bool.{⊤}
use Rattle.std.specs.FinMap as fin
use Rattle.std.specs.Str.{bytes_eq}
use Rattle.std.proofs.lemmas.Slice.Eq.{bytes_eq-Decides}
use Rattle.std.proofs.lemmas.Option.{slice_get_within}
use Rattle.sqlite_value.specs.Order.{Row, column}
use Rattle.sqlite_rules.specs.Lists.{Has}
use Rattle.sqlite.specs.Effect.{Database}
use Rattle.time117.specs.Local.{is_zone_text}
use Rattle.duty.specs.Shape.{home}
use Rattle.roster.specs.Bases.{Bases, only_home}
use Rattle.roster.specs.Sound.{Sound}
use Rattle.roster.specs.State as roster
use Rattle.tables.specs.Records.{base_row}
use Rattle.tables.specs.Rows.{Finds, begins_with, rows_of}
use Rattle.tables.specs.Schema.{base_table}
use Rattle.tables.specs.declared.base.BaseRecord.{BaseRecord}
use Rattle.state_rows.specs.Rows.{table, base, outside_segment, row_of_base}
use Rattle.state_rows.proofs.Lists.{one_value, same_map}
use Rattle.state_rows.proofs.Values.{text_is}
use Rattle.state_rows.specs.Kept.{IsBookOf}
use Rattle.entries.proofs.Mapping.{all_taken, has_at, mapped_at, mapped_place, nothing_mapped, of_taken, one_more, take_next}
use Rattle.entries.specs.Right.{AreRight}
use Rattle.entries.specs.Mapping.{AreOnce, Mapped}
use Rattle.lookup.specs.Bases.{AreOfBases, AreFirstBases}
use Rattle.lookup.proofs.ReadLemmas.{in_found, of_found}
use Rattle.lookup.proofs.RightRows.{bases_right, no_row}

abbrev Is : List ℕ → List ℕ → Type 0
Is id zone = ⊤

-- ---- One record

pub row_is : (it : BaseRecord) (id zone : List ℕ) → id ≡ it.id → zone ≡ it.zone → base_row it ≡ row_of_base id zone
row_is it id zone same_id same_zone = λ i. base_row (record { id = sym same_id i; zone = sym same_zone i })

pub home_here : (records : List BaseRecord) (at : ℕ) (it : BaseRecord) (id zone : List ℕ) → slice_get records at ≡ Some it → base_row it ≡ row_of_base id zone → bytes_eq id home ≡ true →
    Has (map base_row records) (row_of_base home zone)
home_here records at it id zone here told is =
    subst (Has (map base_row records)) (told ∙ ap (λ name. row_of_base name zone) ((bytes_eq-Decides id home).0 is)) (mapped_at base_row records at it here)

pub bad_zone : (records : List BaseRecord) (at : ℕ) (it : BaseRecord) → slice_get records at ≡ Some it → is_zone_text it.zone ≡ false → AreOfBases records → ⊥
bad_zone records at it here bad are = let no : true ≡ false = sym (are.zones at it here) ∙ bad in cc

-- ---- Looking for HOME

lower : (i n : ℕ) → i < n + 1 → (i < n) ⊎ (i ≡ n)
lower zero zero less = inr refl
lower zero (suc n) less = inl (omega arith)
lower (suc i) zero less = absurd (omega (arith, less))
lower (suc i) (suc n) less = elim (lower i n (omega (arith, less))) [ inl b ↦ inl (omega (arith, b)) | inr e ↦ inr (ap suc e) ]

-- none of this many first records is that of HOME
pub record HaveNoHome (records : List BaseRecord) (count : ℕ) : Type 0 where
  pub none : (i : ℕ) (it : BaseRecord) → i < count → slice_get records i ≡ Some it → it.id ≡ home → ⊥

pub none_passed : (records : List BaseRecord) → HaveNoHome records 0
none_passed records = record { none = λ i it less here is. absurd (omega (arith, less)) }

pub one_passed : (records : List BaseRecord) (count : ℕ) (it : BaseRecord) (id zone : List ℕ) → slice_get records count ≡ Some it → base_row it ≡ row_of_base id zone → bytes_eq id home ≡ false →
    HaveNoHome records count → HaveNoHome records (count + 1)
one_passed records count it id zone here told other before = record {
  none = λ i row less there is. elim (lower i count less) [
    | inl below ↦ before.none i row below there is
    | inr at ↦
        let same : row ≡ it = one_value there (ap (slice_get records) at ∙ here) in
        let id_is : it.id ≡ id = text_is (ap (λ (r : Row). column r 0) told) in
        let here : id ≡ home = sym id_is ∙ ap (λ (r : BaseRecord). r.id) (sym same) ∙ is in
        let no : true ≡ false = sym ((bytes_eq-Decides id home).1 here) ∙ other in
        cc
  ];
}

pub no_home : (records : List BaseRecord) → HaveNoHome records (length records) → AreOfBases records → ⊥
no_home records passed are = passed.none are.place are.of_home (slice_get_within records are.place are.of_home are.here) are.here are.named

-- ---- Records in turn

pub home_read : (records : List BaseRecord) (zone : List ℕ) (bases : Bases) → Has (map base_row records) (row_of_base home zone) → bases ≡ only_home zone → AreFirstBases records 0 bases
home_read records zone bases here made = record {
  zone = zone;
  of_home = here;
  mapped = λ once. subst (Mapped (λ id. id) row_of_base Is (row_of_base home zone ∷ [])) (sym made)
      (one_more (λ id. id) (λ i j e. e) row_of_base Is fin.empty home zone [] (nothing_mapped (λ id. id) (λ i j e. e) row_of_base Is) tt (λ w h. absurd h));
}

pub one_read : (records : List BaseRecord) (at : ℕ) (it : BaseRecord) → slice_get records at ≡ Some it → (m n : Bases) (id zone : List ℕ) →
    base_row it ≡ row_of_base id zone → n ≡ fin.insert m id zone → AreFirstBases records at m → AreFirstBases records (at + 1) n
one_read records at it there m n id zone told made read =
    let rows = map base_row records in
    let here : slice_get rows at ≡ Some (row_of_base id zone) = mapped_place base_row records at it there ∙ ap Some told in
    let of_home = row_of_base home read.zone in
    let in_all = λ (row : Row) (h : Has (of_home ∷ take at rows) row). elim h as (λ _. Has rows row) [
      | inl is ↦ subst (Has rows) (sym is) read.of_home
      | inr later ↦ of_taken rows at row later
    ] in
    record {
      zone = read.zone;
      of_home = read.of_home;
      mapped = λ once. subst (Mapped (λ name. name) row_of_base Is (of_home ∷ take (at + 1) rows)) (sym made)
          (subst (λ l. Mapped (λ name. name) row_of_base Is (of_home ∷ l) (fin.insert m id zone)) (sym (take_next rows at (row_of_base id zone) here))
          (one_more (λ name. name) (λ i j e. e) row_of_base Is m id zone (of_home ∷ take at rows) (read.mapped once) tt
          (λ w h. once id w zone (in_all (row_of_base id w) h) (has_at rows at (row_of_base id zone) here))));
    }

-- ---- The table

record_of : (records : List BaseRecord) (row : Row) → Has (map base_row records) row → (i : ℕ) × (it : BaseRecord) × (slice_get records i ≡ Some it) × (row ≡ base_row it)
record_of [] row h = absurd h
record_of (x ∷ xs) row (inl same) = (0, x, refl, same)
record_of (x ∷ xs) row (inr later) = let it = record_of xs row later in (suc it.0, it.1, it.2, it.3)

module _ (s : roster.State) (db : Database) (is_book : IsBookOf s db) (records : List BaseRecord) (finds : Finds (table base) (begins_with []) db (map base_row records)) where
  of_state : (id zone : List ℕ) → Has (map base_row records) (row_of_base id zone) → fin.get s.bases id ≡ Some zone
  of_state id zone h =
      let at = (is_book.rows base (row_of_base id zone)).0 (of_found base (begins_with []) db (map base_row records) finds (row_of_base id zone) h).0 in
      let name : id ≡ at.0.name = text_is (ap (λ (row : Row). column row 0) at.1) in
      let value : zone ≡ at.0.value = text_is (ap (λ (row : Row). column row 1) at.1) in
      ap (fin.get s.bases) name ∙ at.0.there ∙ ap Some (sym value)

  in_state : (id zone : List ℕ) → fin.get s.bases id ≡ Some zone → Has (map base_row records) (row_of_base id zone)
  in_state id zone there =
      let row = row_of_base id zone in
      in_found base (begins_with []) db (map base_row records) finds row ((is_book.rows base row).1 (record { name = id; value = zone; there = there }, refl)) refl

  once : AreOnce row_of_base (map base_row records)
  once id v w first second = ap (row_of_base id) (one_value (of_state id v first) (of_state id w second))

  pub bases_are : (m : Bases) → AreFirstBases records (length records) m → m ≡ s.bases
  bases_are m read =
      let of_home = row_of_base home read.zone in
      let mapped = subst (λ l. Mapped (λ id. id) row_of_base Is (of_home ∷ l) m) (all_taken base_row records) (read.mapped once) in
      same_map m s.bases
      (λ id zone e. elim (mapped.all (record { index = id; value = zone; there = e })) as (λ _. fin.get s.bases id ≡ Some zone) [
        | inl is ↦ of_state id zone (subst (Has (map base_row records)) (sym is) read.of_home)
        | inr later ↦ of_state id zone later
      ])
      (λ id zone e.
      let at = mapped.has (row_of_base id zone) (inr (in_state id zone e)) in
      let name : id ≡ at.0.index = text_is (ap (λ (row : Row). column row 0) at.1) in
      let value : zone ≡ at.0.value = text_is (ap (λ (row : Row). column row 1) at.1) in
      ap (fin.get m) name ∙ at.0.there ∙ ap Some (sym value))

  zone_right : AreRight outside_segment db → (it : BaseRecord) → Has (rows_of base_table db) (base_row it) → is_zone_text it.zone ≡ true
  zone_right right it h =
      let r = bases_right db right in
      elim r.1.1 [
        | inl is ↦
            let at = (is.1.1 (base_row it)).0 h in
            ap is_zone_text (text_is (ap (λ (row : Row). column row 1) at.1)) ∙ (r.1.2.shaped at.0.name at.0.value at.0.there).1
        | inr none ↦ absurd (no_row base_table db (base_row it) none.1 h)
      ]

  pub of_bases : Sound s → AreRight outside_segment db → AreOfBases records
  of_bases sound right =
      let zone = sound.has_home.0 in
      let it = record_of records (row_of_base home zone) (in_state home zone sound.has_home.1) in
      record {
        place = it.0;
        of_home = it.1;
        here = it.2;
        named = text_is (ap (λ (row : Row). column row 0) (sym it.3));
        zones = λ i row here. zone_right right row (of_found base (begins_with []) db (map base_row records) finds (base_row row) (mapped_at base_row records i row here)).0;
      }
