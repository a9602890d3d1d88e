-- The table `exceedance`: what its records say, and when it is right.
use Rattle.std.proofs.Common.{◌≡◌, inl, inr, refl, sym, ap, subst, ◌∙◌, arith, ℕ, pos, ◌<◌, ◌≤◌, true, false, List, [], ◌∷◌, map, take, slice_get, ◌+◌, length, Option, Some, None, Result, Ok, Err, MatchResult, IsUtf8}
use Rattle.std.specs.FinMap as fin
use Rattle.std.specs.Prelude.{is_some}
use Rattle.values.specs.Name.{name_cmp}
use Rattle.sqlite_value.specs.declared.value.Value.TheVariants.{Int, Text}
use Rattle.sqlite_value.specs.Order.{Row, column}
use Rattle.sqlite_rules.specs.Lists.{Has}
use Rattle.sqlite.specs.Effect.{Database}
use Rattle.sqlite.specs.State.{HasCleanDisk, IsUnchanged}
use Rattle.sqlite.specs.State as conn
use Rattle.limits.specs.SectionText.{section_number}
use Rattle.limits.specs.declared.section.Section.{Section}
use Rattle.command.specs.Keys.{KeyParts}
use Rattle.command.specs.declared.member.Member.{Member}
use Rattle.roster.specs.Entries.{put}
use Rattle.roster.specs.Sound.{Members, SoundPairing}
use Rattle.roster.specs.State.{State, exceedance_name}
use Rattle.roster.specs.declared.put.Entry.{Entry}
use Rattle.roster.specs.declared.put.Entry.TheVariants as entry
use Rattle.roster.specs.declared.state.DutyId.{DutyId}
use Rattle.roster.specs.declared.state.DutyId.TheVariants.{Period, Outside}
use Rattle.roster.specs.declared.state.ExceedanceId.{ExceedanceId}
use Rattle.roster.specs.declared.state.PairingEntry.{PairingEntry}
use Rattle.tables.proofs.KeyLemmas.{exceedance_once}
use Rattle.tables.specs.Calls.{CrashLeavesNoMore}
use Rattle.tables.specs.Records.{IsExceedanceRow, exceedance_row}
use Rattle.tables.specs.Rows.{rows_of, begins_with}
use Rattle.tables.specs.Schema.{BookTable, pairing_table, period_table, segment_table, seat_table, exceedance_table}
use Rattle.tables.specs.declared.exceedance.ExceedanceRecord.{ExceedanceRecord}
use Rattle.entries.proofs.Duties.{IsAboveZero, duties_same}
use Rattle.entries.proofs.Editions.{one_edition}
use Rattle.entries.proofs.Mapping.{all_taken, nothing_mapped, next_mapped, mapped_at, mapped_place}
use Rattle.loading.proofs.ReadGrounds.{crew_part, members_same}
use Rattle.entries.proofs.SamePairings.{same_pairing}
use Rattle.state_rows.proofs.Tests.{passes}
use Rattle.state_rows.proofs.Values.{ids_same, int_is, text_is, number_is}
use Rattle.loading.proofs.Telling.{unread, of_blame, or_fails, uncaused}
use Rattle.state_rows.proofs.Outcomes.{clean_before}
use Rattle.loading.specs.Loading.{IsCaused, IsDamaged, Justifies}
use Rattle.entries.specs.Right.{IsKey, IsExceedance, IsOfEdition, IsDutyIn, ArePlanned, AreSeated, name_of, IsRight, IsSeatRight, AreRight}
use Rattle.loading.specs.Reading.{CanName, ExceedancesRead, IsExceedanceIn, ReadsAs, BlamesOrFails, HasRows, IsUnreadable, AgreesThrough}
use Rattle.entries.specs.Exceedances.{IsDutyOf, IsInRange, row_of_recorded}
use Rattle.entries.specs.Faults.{Blames}
use Rattle.entries.specs.Mapping.{Mapped, AreOnce, TellsOf, HasStranger}
use Rattle.entries.specs.declared.fault.LoadFault.{LoadFault}
use Rattle.entries.specs.declared.fault.TableName.TheVariants as table_name
use Rattle.state_rows.specs.First.{IsOfPairing}
use Rattle.state_rows.specs.Rows.{HasJust, named_id, named_number, row_of_pairing, exceedance, ground_duty}
use Rattle.state_rows.specs.declared.edition.Edition.{Edition}
use Rattle.state_rows.specs.declared.edition.Edition.TheVariants.{First, Second}
use Rattle.entries.proofs.RecordedDuties.{recorded_above, period_fits}
use Rattle.entries.proofs.RightRows.{exceedance_rows}

-- ---- One record

range_above : (named : DutyId) → IsInRange named → IsAboveZero named
range_above (Period p) is = is.0
range_above (Outside id) is = tt

-- what can be named is recorded, where its id is a text
pub is_recorded : (edition : Edition) (pairings : fin.FinMap name_cmp PairingEntry) (named : DutyId) → CanName edition pairings named → IsUtf8 (named_id named) → IsDutyIn pairings named
is_recorded edition pairings (Period p) can utf8 = can
is_recorded First pairings (Outside id) can utf8 = utf8
is_recorded Second pairings (Outside id) can utf8 = utf8

number_fits : (named : DutyId) → IsInRange named → named_number named < 256
number_fits (Period p) is = is.1
number_fits (Outside id) is = omega arith

module _ (edition : Edition) (members : Members) (pairings : fin.FinMap name_cmp PairingEntry) (it : ExceedanceRecord) where
  abbrev Tells : Option Entry → Type 0
  Tells = TellsOf (λ id named e. e ≡ entry.Exceedance id named) row_of_recorded (IsExceedanceIn edition members pairings) (exceedance_row it)

  pub no_key : ((key : KeyParts) → IsKey key → it.number ≡ pos key.number → it.part ≡ key.part → ⊥) → Tells None
  no_key none id p e is = none id.key is.is.is_key (int_is (ap (λ (row : Row). column row 0) e)) (number_is (ap (λ (row : Row). column row 1) e))

  pub no_section : ((section : Section) → it.section ≡ section_number section → ⊥) → Tells None
  no_section none id p e is = none id.section (number_is (ap (λ (row : Row). column row 3) e))

  pub no_duty : 256 ≤ it.period → Tells None
  no_duty high id named e is =
      let number : it.period ≡ named_number named = number_is (ap (λ (row : Row). column row 5) e) in
      let fits = is.fits in
      omega (arith, high, number, fits)

  pub no_member : fin.contains_key members it.crew ≡ false → Tells None
  no_member none id p e is =
      let there : fin.get members it.crew ≡ Some is.is.member = ap (fin.get members) (text_is (ap (λ (row : Row). column row 2) e)) ∙ is.is.of_member in
      absurd (let f = sym none ∙ ap is_some there in cc)

  -- the duty that a row names is the one that its columns say
  its_duty : (id : ExceedanceId) (named told : DutyId) → exceedance_row it ≡ row_of_recorded id named → IsExceedanceIn edition members pairings id named → IsDutyOf it.pairing it.period told → named ≡ told
  its_duty id named told e is of =
      duties_same named told (recorded_above pairings named is.is.of_duty) (range_above told of.in_range)
      (sym (text_is (ap (λ (row : Row). column row 4) e)) ∙ sym of.same_id) (sym (number_is (ap (λ (row : Row). column row 5) e)) ∙ sym of.same_number)

  pub not_named : (told : DutyId) → IsDutyOf it.pairing it.period told → (CanName edition pairings told → ⊥) → Tells None
  not_named told of none id named e is = none (subst (CanName edition pairings) (its_duty id named told e is of) is.can)

  member_there : (o : Option Member) → is_some o ≡ true → (m : Member) × (o ≡ Some m)
  member_there None e = absurd (cc)
  member_there (Some m) e = (m, refl)

  pub tells : (key : KeyParts) (section : Section) (named : DutyId) → IsKey key × (it.number ≡ pos key.number) × (it.part ≡ key.part) → it.section ≡ section_number section →
      IsDutyOf it.pairing it.period named → fin.contains_key members it.crew ≡ true → CanName edition pairings named →
      Tells (Some (entry.Exceedance (record { key = key; crew = it.crew; section = section }) named))
  tells key section named is_key is_section of known can =
      let member = member_there (fin.get members it.crew) known in (
        record { key = key; crew = it.crew; section = section },
        named,
        refl,
        (λ i. exceedance_row (record it { number = is_key.1 i; part = is_key.2 i; section = is_section i; pairing = sym of.same_id i; period = sym of.same_number i })),
        record {
          is = record {
            is_key = is_key.0;
            member = member.0;
            of_member = member.1;
            of_duty = is_recorded edition pairings named can (subst IsUtf8 (sym of.same_id) of.utf8);
          };
          can = can;
          fits = number_fits named of.in_range;
        },
      )

-- ---- Records in turn

pub none_read : (edition : Edition) (records : List ExceedanceRecord) (s : State) → s.exceedances ≡ fin.empty → ExceedancesRead edition records 0 s s
none_read edition records s none = record {
  same = refl;
  mapped = λ once. subst (Mapped name_of row_of_recorded (IsExceedanceIn edition s.crew s.pairings) (take 0 (map exceedance_row records))) (sym none)
      (nothing_mapped name_of ids_same row_of_recorded (IsExceedanceIn edition s.crew s.pairings));
}

module _ (edition : Edition) (records : List ExceedanceRecord) (at : ℕ) (it : ExceedanceRecord) (there : slice_get records at ≡ Some it) where
  -- the members and pairings stay while the exceedances are set
  as_begun : (s t : State) (e : Option Entry) → ExceedancesRead edition records at s t → Tells edition t.crew t.pairings it e → Tells edition s.crew s.pairings it e
  as_begun s t e read = subst (λ (r : State). Tells edition r.crew r.pairings it e) read.same

  pub stranger : (s t : State) → ExceedancesRead edition records at s t → Tells edition t.crew t.pairings it None → HasStranger row_of_recorded (IsExceedanceIn edition s.crew s.pairings) (map exceedance_row records)
  stranger s t read none = record { row = exceedance_row it; here = mapped_at exceedance_row records at it there; strange = as_begun s t None read none }

  pub one_read : (s t u : State) (e : Entry) → Tells edition t.crew t.pairings it (Some e) → ExceedancesRead edition records at s t → u ≡ put t e → ExceedancesRead edition records (at + 1) s u
  one_read s t u e told_now read made =
      let told = as_begun s t (Some e) read told_now in
      let id = told.0 in
      let p = told.1 in
      let is : u ≡ record t { exceedances = fin.insert t.exceedances (name_of id) p } = made ∙ ap (put t) told.2 in
      let exceedances_are : u.exceedances ≡ fin.insert t.exceedances (name_of id) p = ap (λ (r : State). r.exceedances) is in
      record {
        same = is ∙ (λ i. record (read.same i) { exceedances = fin.insert t.exceedances (name_of id) p }) ∙ (λ i. record s { exceedances = sym exceedances_are i });
        mapped = λ once. subst (λ m. Mapped name_of row_of_recorded (IsExceedanceIn edition s.crew s.pairings) (take (at + 1) (map exceedance_row records)) m) (sym exceedances_are)
            (next_mapped name_of ids_same row_of_recorded (IsExceedanceIn edition s.crew s.pairings) t.exceedances id p (map exceedance_row records) at
            (mapped_place exceedance_row records at it there ∙ ap Some told.3) (read.mapped once) told.4 once);
      }

-- ---- States with the same rows down to the seats have the same pairings

-- a pairing that is planned and seated is sound
sound : (s : State) → ArePlanned s → AreSeated s → (id : List ℕ) (r : PairingEntry) → fin.get s.pairings id ≡ Some r → SoundPairing s.crew id r
sound s planned seated id r e =
    let p = planned id r e in
    let h = seated id r e in
    record {
      named = p.named;
      plan = p.plan;
      planned = p.planned;
      captain = h.captain;
      first_officer = h.first_officer;
      places = p.places;
      actuals = λ i a there. (p.actuals i a there).0;
      crewed = h.crewed;
    }

-- a row of one is one of the other
of_other : (it : BookTable) (db : Database) (Is Other : Row → Type 0) → HasJust it db Is → HasJust it db Other → (row : Row) → Other row → Is row
of_other it db Is Other a b row other = (a row).0 ((b row).1 other)

pub pairing_here : (s t : State) (db : Database) → IsSeatRight s db → IsSeatRight t db → (id : List ℕ) (r : PairingEntry) → fin.get t.pairings id ≡ Some r → fin.get s.pairings id ≡ Some r
pairing_here s t db a b id r e =
    let it = of_other pairing_table db _ _ a.0.0.0.1.1 b.0.0.0.1.1 (row_of_pairing id) (record { name = id; value = r; there = e }, refl) in
    let same_id : id ≡ it.0.name = text_is (ap (λ (row : Row). column row 0) it.1) in
    let there : fin.get s.pairings id ≡ Some it.0.value = ap (fin.get s.pairings) same_id ∙ it.0.there in
    there ∙ ap Some (same_pairing s t id it.0.value r there e (sound s a.0.3 a.2 id it.0.value there) (sound t b.0.3 b.2 id r e)
    (of_other period_table db _ _ b.0.1 a.0.1) (of_other period_table db _ _ a.0.1 b.0.1)
    (of_other segment_table db _ _ b.0.2.1 a.0.2.1) (of_other segment_table db _ _ a.0.2.1 b.0.2.1)
    (of_other seat_table db _ _ b.1.1 a.1.1) (of_other seat_table db _ _ a.1.1 b.1.1))

-- so an exceedance of one is of the same member in the other, and names the same duty
recorded_here : (s t : State) (db : Database) → IsSeatRight s db → IsSeatRight t db → (named : DutyId) → IsDutyIn t.pairings named → IsDutyIn s.pairings named
recorded_here s t db a b (Period p) is = record {
  entry = is.entry;
  of_pairing = pairing_here s t db a b p.pairing is.entry is.of_pairing;
  place = is.place;
  number = is.number;
  actual = is.actual;
  flown = is.flown;
}
recorded_here s t db a b (Outside id) is = is

known_here : (s t : State) (db : Database) → IsSeatRight s db → IsSeatRight t db → (id : ExceedanceId) (named : DutyId) → IsExceedance t.crew t.pairings id named → IsExceedance s.crew s.pairings id named
known_here s t db a b id named is = let alike = members_same s t db (crew_part s db a) (crew_part t db b) id.crew is.member is.of_member in record {
  is_key = is.is_key;
  member = alike.other;
  of_member = alike.there;
  of_duty = recorded_here s t db a b named is.of_duty;
}

-- ---- The table

-- and what each names, one in a file of this version can name
can_name : (s : State) (db : Database) (edition : Edition) → IsOfEdition edition db → (named : DutyId) → IsDutyIn s.pairings named → (IsOfEdition First db → IsOfPairing named) → CanName edition s.pairings named
can_name s db edition of (Period p) is first = is
can_name s db First of (Outside id) is first = first of
can_name s db Second of (Outside id) is first = tt

named_in : (s : State) (db : Database) (edition : Edition) → IsOfEdition edition db → IsRight exceedance s db → (row : Row) → Has (rows_of exceedance_table db) row →
    (id : ExceedanceId) × (named : DutyId) × (row ≡ row_of_recorded id named) × IsExceedance s.crew s.pairings id named × CanName edition s.pairings named
named_in s db edition of right row here =
    let it = (right.1.1 row).0 here in
    let at = it.0 in
    let name = exceedance_name at.key at.crew at.section in
    let known = right.2 name at.named at.there in
    let same : record { key = at.key; crew = at.crew; section = at.section } ≡ known.0 = ids_same _ known.0 known.1 in (
      known.0,
      at.named,
      it.1 ∙ ap (λ (id : ExceedanceId). row_of_recorded id at.named) same,
      known.2,
      can_name s db edition of at.named known.2.of_duty (λ first. right.3 first name at.named at.there),
    )

-- in version 1 it is a period of a pairing
of_pairing : (edition : Edition) (db : Database) → IsOfEdition edition db → IsOfEdition First db → (pairings : fin.FinMap name_cmp PairingEntry) (named : DutyId) → CanName edition pairings named → IsOfPairing named
of_pairing edition db of first pairings (Period p) can = tt
of_pairing First db of first pairings (Outside id) can = can
of_pairing Second db of first pairings (Outside id) can = absurd (one_edition db first of)

pub not_unreadable : (db : Database) → IsUnreadable exceedance IsExceedanceRow db → AreRight exceedance db → ⊥
not_unreadable db (inl none) right = none right.1.1.0
not_unreadable db (inr x) right = x.3 (exceedance_rows db x.0 x.1 right)

itself : (id : ExceedanceId) (p : DutyId) → begins_with (Int (pos id.key.number) ∷ Int (pos id.key.part) ∷ Text id.crew ∷ Int (pos (section_number id.section)) ∷ []) (row_of_recorded id p) ≡ true
itself id p = passes (Int (pos id.key.number) ∷ Int (pos id.key.part) ∷ Text id.crew ∷ Int (pos (section_number id.section)) ∷ []) (row_of_recorded id p) (refl, (refl, (refl, (refl, tt))))

module _ (edition : Edition) (s : State) (db : Database) (above : AgreesThrough ground_duty s db) (of : IsOfEdition edition db) where
  damaged : (AreRight exceedance db → ⊥) → IsDamaged exceedance db
  damaged wrong = record { book = above.book; version = above.version; above = (s, above.right); damaged = wrong }

  pub unreadable : IsUnreadable exceedance IsExceedanceRow db → IsDamaged exceedance db
  unreadable why = damaged (not_unreadable db why)

  pub strange : (rows : List Row) → HasRows exceedance db rows → HasStranger row_of_recorded (IsExceedanceIn edition s.crew s.pairings) rows → IsDamaged exceedance db
  strange rows read stranger = damaged (λ right.
      let it = named_in right.0 db edition of right.1 stranger.row ((read.all stranger.row).1 stranger.here) in
      let is = known_here s right.0 db above.right.0 right.1.0.0 it.0 it.1 it.3 in
      stranger.strange it.0 it.1 it.2 (record {
        is = is;
        can = can_name s db edition of it.1 is.of_duty (λ first. of_pairing edition db of first right.0.pairings it.1 it.4);
        fits = period_fits s above.right.0.0.3 it.1 is.of_duty;
      }))

  exceedances_once : (rows : List Row) → HasRows exceedance db rows → AreOnce row_of_recorded rows
  exceedances_once rows read id p q first second =
      exceedance_once db read.database read.there.0 read.stored (pos id.key.number) (pos id.key.part) id.crew (pos (section_number id.section)) (row_of_recorded id p) (row_of_recorded id q)
      ((read.all (row_of_recorded id p)).1 first) ((read.all (row_of_recorded id q)).1 second) (itself id p) (itself id q)

  pub right : (rows : List Row) (t : State) → HasRows exceedance db rows → t ≡ record s { exceedances = t.exceedances } →
      (AreOnce row_of_recorded rows → Mapped name_of row_of_recorded (IsExceedanceIn edition s.crew s.pairings) rows t.exceedances) → AgreesThrough exceedance t db
  right rows t read same mapped =
      let map = mapped (exceedances_once rows read) in
      record {
        stored = (read.stored, above.stored);
        book = above.book;
        version = above.version;
        right = (
          subst (λ u. IsRight ground_duty u db) (sym same) above.right,
          (
            read.there,
            λ row. (
              λ h.
                  let it = map.has row ((read.all row).0 h) in
                  (record { key = it.0.index.key; crew = it.0.index.crew; section = it.0.index.section; named = it.0.value; there = it.0.there }, it.1),
              λ it.
                  let id : ExceedanceId = record { key = it.0.key; crew = it.0.crew; section = it.0.section } in
                  (read.all row).1 (subst (Has rows) (sym it.1) (map.all (record { index = id; value = it.0.named; there = it.0.there }))),
            ),
          ),
          λ name p e. let known = map.known name p e in (known.0, known.1, subst (λ (r : State). IsExceedance r.crew r.pairings known.0 p) (sym same) known.2.is),
          λ first name p e. of_pairing edition db of first s.pairings p (map.known name p e).2.can,
        );
      }

-- ---- The call

module _ (edition : Edition) (s : State) (old new : conn.State) (above : HasCleanDisk old → AgreesThrough ground_duty s old.now) (of : HasCleanDisk old → IsOfEdition edition old.now) where
  abbrev pub Now : State → Type 0
  Now r = AgreesThrough exceedance r old.now × (r ≡ record s { exceedances = r.exceedances })

  pub not_read : (fault : LoadFault) → (HasCleanDisk new → BlamesOrFails table_name.Exceedance (IsUnreadable exceedance IsExceedanceRow old.now) fault) → (HasCleanDisk new → IsCaused old new fault) → CrashLeavesNoMore old new →
      ReadsAs Now (λ f. Justifies f old.now) old new (Err fault)
  not_read fault told caused left = unread table_name.Exceedance _ Now old new fault (λ clean. unreadable edition s old.now (above clean) (of clean)) told caused left

  pub is_read : (records seen : List ExceedanceRecord) (result : Result State LoadFault) → seen ≡ records →
      (HasCleanDisk new → IsUnchanged old new × HasRows exceedance old.now (map exceedance_row records)) → CrashLeavesNoMore old new →
      MatchResult result (ExceedancesRead edition seen (length seen) s) (Blames table_name.Exceedance (HasStranger row_of_recorded (IsExceedanceIn edition s.crew s.pairings) (map exceedance_row seen))) →
      ReadsAs Now (λ f. Justifies f old.now) old new result
  is_read records seen (Ok r) same saw left done = record {
    told = λ clean.
        let it = saw clean in
        let read = subst (λ l. ExceedancesRead edition l (length l) s r) same done in
        let mapped = λ (once : AreOnce row_of_recorded (map exceedance_row records)).
        subst (λ l. Mapped name_of row_of_recorded (IsExceedanceIn edition s.crew s.pairings) l r.exceedances) (all_taken exceedance_row records) (read.mapped once) in
        let before = clean_before old new left clean in
        (it.0, (right edition s old.now (above before) (of before) (map exceedance_row records) r it.1 read.same mapped, read.same));
    caused = λ clean. tt;
    left = left;
  }
  is_read records seen (Err fault) same saw left blame = record {
    told = λ clean.
        let why = subst (λ l. Blames table_name.Exceedance (HasStranger row_of_recorded (IsExceedanceIn edition s.crew s.pairings) (map exceedance_row l)) fault) same blame in
        let before = clean_before old new left clean in
        of_blame table_name.Exceedance _ old.now (strange edition s old.now (above before) (of before) (map exceedance_row records) (saw clean).1) fault (or_fails table_name.Exceedance _ fault why);
    caused = λ clean. uncaused old new table_name.Exceedance (HasStranger row_of_recorded (IsExceedanceIn edition s.crew s.pairings) (map exceedance_row seen)) fault blame;
    left = left;
  }
