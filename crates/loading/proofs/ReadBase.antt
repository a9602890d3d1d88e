-- The table `base`: what its records say, and when it is right.
use Rattle.std.proofs.Common.{◌≡◌, ◌⊎◌, inl, inr, refl, sym, ap, subst, ◌∙◌, arith, ℕ, zero, suc, ◌<◌, ◌+◌, true, false, List, [], ◌∷◌, map, take, length, slice_get, Option, Some, None}
use Rattle.std.specs.FinMap as fin
use Rattle.values.specs.Name.{name_cmp}
use Rattle.sqlite_value.specs.declared.value.Value.TheVariants.{Text}
use Rattle.sqlite_value.specs.Order.{Row, column}
use Rattle.sqlite_rules.specs.Lists.{Has}
use Rattle.sqlite.specs.Effect.{Database}
use Rattle.time117.specs.Local.{is_zone_text}
use Rattle.duty.specs.Shape.{home, is_id}
use Rattle.roster.specs.Bases.{home_zone, only_home}
use Rattle.roster.specs.Entries.{put}
use Rattle.roster.specs.State.{State}
use Rattle.roster.specs.declared.put.Entry.{Entry}
use Rattle.roster.specs.declared.put.Entry.TheVariants as entry
use Rattle.tables.proofs.KeyLemmas.{once_by_one}
use Rattle.tables.specs.Records.{IsBaseRow, base_row}
use Rattle.tables.specs.Rows.{begins_with}
use Rattle.tables.specs.Schema.{base_table}
use Rattle.tables.specs.declared.base.BaseRecord.{BaseRecord}
use Rattle.entries.proofs.Ascii.{id_utf8, zone_utf8}
use Rattle.loading.proofs.Homes.{zone_there}
use Rattle.entries.proofs.Editions.{its_table, next_base}
use Rattle.entries.proofs.Mapping.{all_taken, has_at, mapped_at, mapped_place, nothing_mapped, of_taken, one_more, take_next}
use Rattle.loading.proofs.Moved.{alike_itself, request_stays}
use Rattle.entries.specs.Right.{AreRight, IsBookRight, IsOfEdition, IsRequestRight}
use Rattle.loading.specs.Reading.{AgreesIn, AreBasesRead, AreNoBases, BasesRead, HasHome, HasRows, IsReadAs, IsShaped, IsUnreadable}
use Rattle.entries.specs.Mapping.{AreOnce, HasStranger, Mapped, TellsOf}
use Rattle.entries.specs.Faults.{Blames}
use Rattle.entries.specs.declared.fault.LoadFault.{LoadFault}
use Rattle.entries.specs.declared.fault.LoadFault.TheVariants.{NotABook, Version, Damaged, Fault}
use Rattle.entries.specs.declared.fault.TableName.TheVariants as table_name
use Rattle.state_rows.proofs.Lists.{some_same}
use Rattle.state_rows.proofs.Tests.{passes}
use Rattle.state_rows.proofs.Values.{text_is}
use Rattle.state_rows.specs.Rows.{base, request, row_of_base, row_of_book}
use Rattle.state_rows.specs.declared.edition.Edition.TheVariants.{Second}

-- ---- One record

pub home_row : (it : BaseRecord) (zone : List ℕ) → it.id ≡ home → it.zone ≡ zone → base_row it ≡ row_of_base home zone
home_row it zone id is = λ i. base_row (record { id = id i; zone = is i })

pub home_told : (it : BaseRecord) (zone : List ℕ) → base_row it ≡ row_of_base home zone → (it.id ≡ home) × (it.zone ≡ zone)
home_told it zone e = (text_is (ap (λ (r : Row). column r 0) e), text_is (ap (λ (r : Row). column r 1) e))

module _ (it : BaseRecord) where
  abbrev Tells : Option Entry → Type 0
  Tells = TellsOf (λ id zone e. e ≡ entry.Base id zone) row_of_base IsShaped (base_row it)

  pub bad_id : is_id it.id ≡ false → Tells None
  bad_id bad id zone e is = absurd (let f = sym bad ∙ ap is_id (text_is (ap (λ (r : Row). column r 0) e)) ∙ is.id_shape in cc)

  pub bad_zone : is_zone_text it.zone ≡ false → Tells None
  bad_zone bad id zone e is = absurd (let f = sym bad ∙ ap is_zone_text (text_is (ap (λ (r : Row). column r 1) e)) ∙ is.zone_text in cc)

  pub tells : (zone : List ℕ) → is_id it.id ≡ true → zone ≡ it.zone → is_zone_text it.zone ≡ true → Tells (Some (entry.Base it.id zone))
  tells zone shaped same text = (
    it.id,
    zone,
    refl,
    ap (row_of_base it.id) (sym same),
    record { id_shape = shaped; zone_text = subst (λ z. is_zone_text z ≡ true) (sym same) text },
  )

-- ---- The row of HOME among the records

lower : (i n : ℕ) → i < n + 1 → (i < n) ⊎ (i ≡ n)
lower zero zero less = inr refl
lower zero (suc n) less = inl (omega arith)
lower (suc i) zero less = absurd (omega (arith, less))
lower (suc i) (suc n) less = elim (lower i n (omega (arith, less))) [ inl b ↦ inl (omega (arith, b)) | inr e ↦ inr (ap suc e) ]

-- none of this many first records is the row of HOME
pub record AreOthers (records : List BaseRecord) (count : ℕ) (zone : List ℕ) : Type 0 where
  pub apart : (i : ℕ) (other : BaseRecord) → i < count → slice_get records i ≡ Some other → base_row other ≡ row_of_base home zone → ⊥

pub none_other : (records : List BaseRecord) (zone : List ℕ) → AreOthers records 0 zone
none_other records zone = record { apart = λ i other less here is. absurd (omega arith) }

pub next_other : (records : List BaseRecord) (count : ℕ) (zone : List ℕ) (other : BaseRecord) → slice_get records count ≡ Some other → (base_row other ≡ row_of_base home zone → ⊥) →
    AreOthers records count zone → AreOthers records (count + 1) zone
next_other records count zone other here apart before = record {
  apart = λ i o less there is. elim (lower i count less) [
    | inl below ↦ before.apart i o below there is
    | inr at ↦ (let e : Some o ≡ Some other = sym there ∙ ap (slice_get records) at ∙ here in apart (ap base_row (sym (some_same e)) ∙ is))
  ];
}

within : (records : List BaseRecord) (i : ℕ) (o : BaseRecord) → slice_get records i ≡ Some o → i < length records
within [] i o there = absurd (cc)
within (x ∷ xs) zero o there = omega arith
within (x ∷ xs) (suc i) o there = let less = within xs i o there in omega (arith, less)

not_among : (records : List BaseRecord) (zone : List ℕ) → ((i : ℕ) (other : BaseRecord) → slice_get records i ≡ Some other → base_row other ≡ row_of_base home zone → ⊥) → HasHome records zone → ⊥
not_among [] zone apart h = h
not_among (x ∷ xs) zone apart (inl e) = apart 0 x refl (sym e)
not_among (x ∷ xs) zone apart (inr h) = not_among xs zone (λ i o there. apart (suc i) o there) h

pub no_home : (records : List BaseRecord) (zone : List ℕ) → AreOthers records (length records) zone → HasHome records zone → ⊥
no_home records zone all = not_among records zone (λ i o there. all.apart i o (within records i o there) there)

pub home_here : (records : List BaseRecord) (zone : List ℕ) (i : ℕ) (it : BaseRecord) → slice_get records i ≡ Some it → base_row it ≡ row_of_base home zone → HasHome records zone
home_here records zone i it there is = subst (Has (map base_row records)) is (mapped_at base_row records i it there)

-- ---- Records in turn

pub none_read : (records : List BaseRecord) (s : State) → s.bases ≡ only_home (home_zone s.bases) → BasesRead records 0 s s
none_read records s only = record {
  same = refl;
  mapped = λ once has text.
      let zone = home_zone s.bases in
      subst (Mapped (λ id. id) row_of_base IsShaped (row_of_base home zone ∷ take 0 (map base_row records))) (sym only)
      (one_more (λ id. id) (λ i j e. e) row_of_base IsShaped (fin.empty {R = name_cmp}) home zone [] (nothing_mapped (λ id. id) (λ i j e. e) row_of_base IsShaped)
      (record { id_shape = refl; zone_text = text }) (λ w h. absurd h));
}

module _ (records : List BaseRecord) (at : ℕ) (it : BaseRecord) (there : slice_get records at ≡ Some it) where
  pub stranger : Tells it None → HasStranger row_of_base IsShaped (map base_row records)
  stranger none = record { row = base_row it; here = mapped_at base_row records at it there; strange = none }

  pub one_read : (s t u : State) (e : Entry) → Tells it (Some e) → BasesRead records at s t → u ≡ put t e → BasesRead records (at + 1) s u
  one_read s t u e told read made =
      let id = told.0 in
      let zone = told.1 in
      let rows = map base_row records in
      let home_is = row_of_base home (home_zone s.bases) in
      let is : u ≡ record t { bases = fin.insert t.bases id zone } = made ∙ ap (put t) told.2 in
      let bases_are : u.bases ≡ fin.insert t.bases id zone = ap (λ (r : State). r.bases) is in
      let place : slice_get rows at ≡ Some (row_of_base id zone) = mapped_place base_row records at it there ∙ ap Some told.3 in
      record {
        same = is ∙ (λ i. record (read.same i) { bases = fin.insert t.bases id zone }) ∙ (λ i. record s { bases = sym bases_are i });
        mapped = λ once has text.
            let in_all = λ (x : Row) (h : Has (home_is ∷ take at rows) x). elim h as (λ _. Has rows x) [ inl e ↦ subst (Has rows) (sym e) has | inr h ↦ of_taken rows at x h ] in
            subst (λ m. Mapped (λ i. i) row_of_base IsShaped (home_is ∷ take (at + 1) rows) m) (sym bases_are)
            (subst (λ l. Mapped (λ i. i) row_of_base IsShaped (home_is ∷ l) (fin.insert t.bases id zone)) (sym (take_next rows at (row_of_base id zone) place))
            (one_more (λ i. i) (λ i j e. e) row_of_base IsShaped t.bases id zone (home_is ∷ take at rows) (read.mapped once has text) told.4
            (λ w h. once id w zone (in_all (row_of_base id w) h) (has_at rows at (row_of_base id zone) place))));
      }

pub base_stranger : (records : List BaseRecord) (s : State) (fault : LoadFault) → Blames table_name.Base (HasStranger row_of_base IsShaped (map base_row records)) fault →
    Blames table_name.Base (AreNoBases records s) fault
base_stranger records s NotABook blame = blame
base_stranger records s Version blame = blame
base_stranger records s (Damaged other) blame = (blame.0, inl blame.1)
base_stranger records s (Fault fault) blame = blame

pub without_home : (records : List BaseRecord) (s : State) → (HasHome records (home_zone s.bases) → ⊥) → AreNoBases records s
without_home records s none = inr none

pub bases_read : (records : List BaseRecord) (s t : State) → HasHome records (home_zone s.bases) → BasesRead records (length records) s t → AreBasesRead records s t
bases_read records s t has read = record { has_home = has; read = read }

-- ---- The table

-- states with the same row of `book` have the same zone of HOME
pub same_zone : (s t : State) (db : Database) → IsBookRight s db → IsBookRight t db → home_zone s.bases ≡ home_zone t.bases
same_zone s t db one other =
    let row = row_of_book one.0.1.0 (home_zone s.bases) in
    let is = (other.0.1.1 row).0 ((one.0.1.1 row).1 refl) in
    text_is (ap (λ (r : Row). column r 2) is)

itself : (id zone : List ℕ) → begins_with (Text id ∷ []) (row_of_base id zone) ≡ true
itself id zone = passes (Text id ∷ []) (row_of_base id zone) (refl, tt)

module _ (db : Database) (second : IsOfEdition Second db) where
  pub not_unreadable : IsUnreadable base IsBaseRow db → AreRight base db → ⊥
  not_unreadable (inl none) right = none (its_table request base next_base right.0 db second right.1).0
  not_unreadable (inr x) right =
      let table = its_table request base next_base right.0 db second right.1 in
      let it = (table.1 x.0).0 x.1 in
      let is = right.1.2.shaped it.0.name it.0.value it.0.there in
      x.3 (record { id = it.0.name; zone = it.0.value }, id_utf8 it.0.name is.0, zone_utf8 it.0.value is.1, it.1)

module _ (s : State) (db : Database) (up : AgreesIn Second request s db) (records : List BaseRecord) (read : HasRows base db (map base_row records)) where
  bases_once : AreOnce row_of_base (map base_row records)
  bases_once id v w first second =
      once_by_one base_table db (1 ∷ []) [] refl read.there.0 read.database read.stored (row_of_base id v) (row_of_base id w)
      ((read.all (row_of_base id v)).1 first) ((read.all (row_of_base id w)).1 second) (Text id) refl (λ r. refl) refl (itself id v) (itself id w)

  pub right : (t : State) → AreBasesRead records s t → IsReadAs base t db
  right t are =
      let zone = home_zone s.bases in
      let home_is = row_of_base home zone in
      let rows = map base_row records in
      let text : is_zone_text zone ≡ true = up.through.right.0.0.0.0.0.0.0.0.1 in
      let mapped = subst (λ l. Mapped (λ id. id) row_of_base IsShaped (home_is ∷ l) t.bases) (all_taken base_row records) (are.read.mapped bases_once are.has_home text) in
      let at = mapped.has home_is (inr are.has_home) in
      let id_is : home ≡ at.0.index = text_is (ap (λ (r : Row). column r 0) at.1) in
      let zone_is : zone ≡ at.0.value = text_is (ap (λ (r : Row). column r 1) at.1) in
      let there : fin.get t.bases home ≡ Some at.0.value = ap (fin.get t.bases) id_is ∙ at.0.there in
      let moved = request_stays s t.bases s.crew (zone_there t.bases at.0.value there ∙ sym zone_is) (alike_itself s.crew) (alike_itself s.crew) db up.through.right up.of in
      let all = λ (row : Row) (h : Has (home_is ∷ rows) row). elim h as (λ _. Has rows row) [ inl e ↦ subst (Has rows) (sym e) are.has_home | inr h ↦ h ] in (
        (
          subst (λ u. IsRequestRight u db) (sym are.read.same) moved,
          inl (
            up.of,
            (
              read.there,
              λ row. (
                λ h. let it = mapped.has row (inr ((read.all row).0 h)) in (record { name = it.0.index; value = it.0.value; there = it.0.there }, it.1),
                λ it. (read.all row).1 (subst (Has rows) (sym it.1)
                    (all (row_of_base it.0.name it.0.value) (mapped.all (record { index = it.0.name; value = it.0.value; there = it.0.there })))),
              ),
            ),
          ),
          record {
            has_home = (at.0.value, there);
            shaped = λ id z e.
                let known = mapped.known id z e in
                (subst (λ k. is_id k ≡ true) (sym known.1) known.2.id_shape, known.2.zone_text);
          },
        ),
        read.stored,
      )

  pub wrong : AreNoBases records s → AreRight base db → ⊥
  wrong (inl it) right =
      let table = its_table request base next_base right.0 db up.of right.1 in
      let is = (table.1 it.row).0 ((read.all it.row).1 it.here) in
      let shaped = right.1.2.shaped is.0.name is.0.value is.0.there in
      it.strange is.0.name is.0.value is.1 (record { id_shape = shaped.0; zone_text = shaped.1 })
  wrong (inr none) right =
      let table = its_table request base next_base right.0 db up.of right.1 in
      let has = right.1.2.has_home in
      let zone : home_zone s.bases ≡ has.0 = same_zone s right.0 db up.through.right.0.0.0.0.0.0.0.0 right.1.0.0.0.0.0.0.0.0.0 ∙ zone_there right.0.bases has.0 has.1 in
      let row = row_of_base home (home_zone s.bases) in
      none ((read.all row).0 ((table.1 row).1 (record { name = home; value = has.0; there = has.1 }, ap (row_of_base home) zone)))
