-- The table `ground`: what its records say, and when it is right.
use Rattle.std.proofs.Common.{◌≡◌, inl, inr, refl, sym, ap, subst, ◌∙◌, arith, ℕ, ◌<◌, true, false, List, [], ◌∷◌, map, take, slice_get, ◌+◌, length, Option, Some, None, Result, Ok, Err, MatchResult, IsUtf8}
use Rattle.std.specs.FinMap as fin
use Rattle.std.specs.Prelude.{is_some}
use Rattle.std.proofs.lemmas.Bool.Decides.{nat_tests}
use Rattle.sqlite_value.specs.declared.value.Value.TheVariants.{Text}
use Rattle.sqlite_value.specs.Order.{Row, column}
use Rattle.sqlite_rules.specs.Lists.{Has}
use Rattle.sqlite.specs.Effect.{Database}
use Rattle.sqlite.specs.State.{HasCleanDisk, IsUnchanged}
use Rattle.sqlite.specs.State as conn
use Rattle.duty.specs.Pairings.{ground_fault}
use Rattle.duty.specs.Plans.{GroundPlan}
use Rattle.duty.specs.Words.{checked}
use Rattle.duty.specs.declared.fault.DutyFault.{DutyFault}
use Rattle.command.specs.declared.member.Member.{Member}
use Rattle.stored_json.specs.Instants.{is_instant}
use Rattle.roster.specs.Entries.{put}
use Rattle.roster.specs.Sound.{Members}
use Rattle.roster.specs.State.{State}
use Rattle.roster.specs.declared.put.Entry.{Entry}
use Rattle.roster.specs.declared.put.Entry.TheVariants as entry
use Rattle.tables.proofs.KeyLemmas.{ground_once}
use Rattle.tables.specs.Calls.{CrashLeavesNoMore}
use Rattle.tables.specs.Records.{IsGroundRow, ground_row}
use Rattle.tables.specs.Rows.{begins_with}
use Rattle.tables.specs.declared.ground.GroundRecord.{GroundRecord}
use Rattle.entries.proofs.Mapping.{all_taken, nothing_mapped, next_mapped, mapped_at, mapped_place}
use Rattle.entries.proofs.SameStates.{HasAlike, crew_told}
use Rattle.state_rows.proofs.Tests.{passes}
use Rattle.state_rows.proofs.Values.{text_is, number_is}
use Rattle.loading.proofs.Telling.{unread, of_blame, or_fails, uncaused}
use Rattle.state_rows.proofs.Outcomes.{clean_before}
use Rattle.loading.specs.Loading.{IsCaused, IsDamaged, Justifies}
use Rattle.entries.specs.Right.{IsGround, IsRight, IsCrewRight, IsSeatRight, AreRight}
use Rattle.loading.specs.Reading.{GroundsRead, ReadsAs, BlamesOrFails, HasRows, IsUnreadable, AgreesThrough}
use Rattle.entries.specs.Faults.{Blames}
use Rattle.entries.specs.Mapping.{Mapped, AreOnce, TellsOf, HasStranger}
use Rattle.entries.specs.declared.fault.LoadFault.{LoadFault}
use Rattle.entries.specs.declared.fault.TableName.TheVariants as table_name
use Rattle.state_rows.specs.Rows.{row_of_ground, ground_duty, seat}
use Rattle.entries.proofs.RightRows.{ground_rows}

-- ---- One record

module _ (members : Members) (it : GroundRecord) where
  abbrev Tells : Option Entry → Type 0
  Tells = TellsOf (λ id g e. e ≡ entry.Ground g) row_of_ground (IsGround members) (ground_row it)

  abbrev pub told_plan : GroundPlan
  told_plan = record { id = it.id; crew = it.crew; begin = it.begin_at; end = it.end_at; task = it.task }

  -- the ground duty whose row it is
  same_plan : (id : List ℕ) (g : GroundPlan) → ground_row it ≡ row_of_ground id g → g.id ≡ id → g ≡ told_plan
  same_plan id g e named =
      let at_column = λ (k : ℕ). ap (λ (row : Row). column row k) e in
      let same_id : it.id ≡ id = text_is (at_column 0) in
      let crew : it.crew ≡ g.crew = text_is (at_column 1) in
      let task : it.task ≡ g.task = text_is (at_column 2) in
      let begin : it.begin_at ≡ g.begin = number_is (at_column 3) in
      let end : it.end_at ≡ g.end = number_is (at_column 4) in
      λ i. record { id = (named ∙ sym same_id) i; crew = sym crew i; begin = sym begin i; end = sym end i; task = sym task i }

  minute_of : (n : ℕ) → is_instant n ≡ true → n < 52_596_000
  minute_of n e = grind (arith, nat_tests)

  instant_of : (n : ℕ) → n < 52_596_000 → is_instant n ≡ true
  instant_of n lt = grind (arith, nat_tests)

  pub no_begin : (it.begin_at < 52_596_000 → ⊥) → Tells None
  no_begin none id g e is = none (minute_of it.begin_at (ap (λ (p : GroundPlan). is_instant p.begin) (sym (same_plan id g e is.named)) ∙ is.begin))

  pub no_end : (it.end_at < 52_596_000 → ⊥) → Tells None
  no_end none id g e is = none (minute_of it.end_at (ap (λ (p : GroundPlan). is_instant p.end) (sym (same_plan id g e is.named)) ∙ is.end))

  pub no_member : fin.contains_key members it.crew ≡ false → Tells None
  no_member none id g e is =
      let there : fin.get members it.crew ≡ Some is.member = ap (λ (p : GroundPlan). fin.get members p.crew) (sym (same_plan id g e is.named)) ∙ is.of_member in
      absurd (let f = sym none ∙ ap is_some there in cc)

  pub no_ground : (fault : DutyFault) → checked (ground_fault told_plan) told_plan ≡ Err fault → Tells None
  no_ground fault failed id g e is =
      absurd (let f = sym failed ∙ ap (λ o. checked o told_plan) (ap ground_fault (sym (same_plan id g e is.named)) ∙ is.made) in cc)

  fault_free : (o : Option DutyFault) (p g : GroundPlan) → checked o p ≡ Ok g → (o ≡ None) × (p ≡ g)
  fault_free None p g e = (refl, (let same : p ≡ g = cc in same))
  fault_free (Some f) p g e = absurd (cc)

  member_there : (o : Option Member) → is_some o ≡ true → (m : Member) × (o ≡ Some m)
  member_there None e = absurd (cc)
  member_there (Some m) e = (m, refl)

  pub tells : (g : GroundPlan) → it.begin_at < 52_596_000 → it.end_at < 52_596_000 → fin.contains_key members it.crew ≡ true → IsUtf8 it.task →
      checked (ground_fault told_plan) told_plan ≡ Ok g → Tells (Some (entry.Ground g))
  tells g begin end known utf8 made =
      let free = fault_free (ground_fault told_plan) told_plan g made in
      let member = member_there (fin.get members it.crew) known in (
        it.id,
        told_plan,
        ap entry.Ground (sym free.1),
        refl,
        record {
          named = refl;
          made = free.0;
          begin = instant_of it.begin_at begin;
          end = instant_of it.end_at end;
          utf8 = utf8;
          member = member.0;
          of_member = member.1;
        },
      )

-- ---- Records in turn

pub none_read : (records : List GroundRecord) (s : State) → s.grounds ≡ fin.empty → GroundsRead records 0 s s
none_read records s none = record { same = refl; mapped = λ once. subst (Mapped (λ id. id) row_of_ground (IsGround s.crew) (take 0 (map ground_row records))) (sym none) (nothing_mapped (λ id. id) (λ i j e. e) row_of_ground (IsGround s.crew)) }

module _ (records : List GroundRecord) (at : ℕ) (it : GroundRecord) (there : slice_get records at ≡ Some it) where
  -- the members stay while the ground duties are set
  as_begun : (s t : State) (e : Option Entry) → GroundsRead records at s t → Tells t.crew it e → Tells s.crew it e
  as_begun s t e read = subst (λ c. Tells c it e) (ap (λ (r : State). r.crew) read.same)

  pub stranger : (s t : State) → GroundsRead records at s t → Tells t.crew it None → HasStranger row_of_ground (IsGround s.crew) (map ground_row records)
  stranger s t read none = record { row = ground_row it; here = mapped_at ground_row records at it there; strange = as_begun s t None read none }

  pub one_read : (s t u : State) (e : Entry) → Tells t.crew it (Some e) → GroundsRead records at s t → u ≡ put t e → GroundsRead records (at + 1) s u
  one_read s t u e told_now read made =
      let told = as_begun s t (Some e) read told_now in
      let id = told.0 in
      let g = told.1 in
      let is : u ≡ record t { grounds = fin.insert t.grounds g.id g } = made ∙ ap (put t) told.2 in
      let named : fin.insert t.grounds g.id g ≡ fin.insert t.grounds id g = ap (λ n. fin.insert t.grounds n g) told.4.named in
      let grounds_are : u.grounds ≡ fin.insert t.grounds id g = ap (λ (r : State). r.grounds) is ∙ named in
      record {
        same = is ∙ (λ i. record (read.same i) { grounds = fin.insert t.grounds g.id g }) ∙ (λ i. record s { grounds = (named ∙ sym grounds_are) i });
        mapped = λ once. subst (λ c. Mapped (λ i. i) row_of_ground (IsGround s.crew) (take (at + 1) (map ground_row records)) c) (sym grounds_are)
            (next_mapped (λ i. i) (λ i j same. same) row_of_ground (IsGround s.crew) t.grounds id g (map ground_row records) at
            (mapped_place ground_row records at it there ∙ ap Some told.3) (read.mapped once) told.4 once);
      }

-- ---- The table

-- members are the same but for their bases
pub members_same : (s t : State) (db : Database) → IsCrewRight s db → IsCrewRight t db → HasAlike t.crew s.crew
members_same s t db a b who m e = crew_told t s (λ row it. (a.1.1 row).0 ((b.1.1 row).1 it)) who m e

-- a ground duty is known by the same parts
known_here : (s t : State) (db : Database) → IsCrewRight s db → IsCrewRight t db → (id : List ℕ) (g : GroundPlan) → IsGround t.crew id g → IsGround s.crew id g
known_here s t db a b id g is = let alike = members_same s t db a b g.crew is.member is.of_member in record {
  named = is.named;
  made = is.made;
  begin = is.begin;
  end = is.end;
  utf8 = is.utf8;
  member = alike.other;
  of_member = alike.there;
}

-- where it is right, it is there, and each row is the record of a ground duty
pub not_unreadable : (db : Database) → IsUnreadable ground_duty IsGroundRow db → AreRight ground_duty db → ⊥
not_unreadable db (inl none) right = none right.1.1.0
not_unreadable db (inr x) right = x.3 (ground_rows db x.0 x.1 right)

itself : (id : List ℕ) (g : GroundPlan) → begins_with (Text id ∷ []) (row_of_ground id g) ≡ true
itself id g = passes (Text id ∷ []) (row_of_ground id g) (refl, tt)

-- the members of a roster that is read down to the seats
pub crew_part : (s : State) (db : Database) → IsSeatRight s db → IsCrewRight s db
crew_part s db right = right.0.0.0.0

module _ (s : State) (db : Database) (above : AgreesThrough seat s db) where
  damaged : (AreRight ground_duty db → ⊥) → IsDamaged ground_duty db
  damaged wrong = record { book = above.book; version = above.version; above = (s, above.right); damaged = wrong }

  pub unreadable : IsUnreadable ground_duty IsGroundRow db → IsDamaged ground_duty db
  unreadable why = damaged (not_unreadable db why)

  pub strange : (rows : List Row) → HasRows ground_duty db rows → HasStranger row_of_ground (IsGround s.crew) rows → IsDamaged ground_duty db
  strange rows read stranger = damaged (λ right.
      let it = (right.1.1.1 stranger.row).0 ((read.all stranger.row).1 stranger.here) in
      let at = it.0 in
      stranger.strange at.name at.value it.1
      (known_here s right.0 db (crew_part s db above.right) (crew_part right.0 db right.1.0) at.name at.value (right.1.2 at.name at.value at.there)))

  grounds_once : (rows : List Row) → HasRows ground_duty db rows → AreOnce row_of_ground rows
  grounds_once rows read id m n first second =
      ground_once db read.database read.there.0 read.stored id (row_of_ground id m) (row_of_ground id n)
      ((read.all (row_of_ground id m)).1 first) ((read.all (row_of_ground id n)).1 second) (itself id m) (itself id n)

  pub right : (rows : List Row) (t : State) → HasRows ground_duty db rows → t ≡ record s { grounds = t.grounds } →
      (AreOnce row_of_ground rows → Mapped (λ id. id) row_of_ground (IsGround s.crew) rows t.grounds) → AgreesThrough ground_duty t db
  right rows t read same mapped =
      let map = mapped (grounds_once rows read) in
      record {
        stored = (read.stored, above.stored);
        book = above.book;
        version = above.version;
        right = (
          subst (λ u. IsRight seat u db) (sym same) above.right,
          (
            read.there,
            λ row. (
              λ h. let it = map.has row ((read.all row).0 h) in (record { name = it.0.index; value = it.0.value; there = it.0.there }, it.1),
              λ it. (read.all row).1 (subst (Has rows) (sym it.1) (map.all (record { index = it.0.name; value = it.0.value; there = it.0.there }))),
            ),
          ),
          λ id g e. let known = map.known id g e in subst (λ i. IsGround t.crew i g) (sym known.1) (subst (λ c. IsGround c known.0 g) (sym (ap (λ (r : State). r.crew) same)) known.2),
        );
      }

-- ---- The call

module _ (s : State) (old new : conn.State) (above : HasCleanDisk old → AgreesThrough seat s old.now) where
  abbrev pub Now : State → Type 0
  Now r = AgreesThrough ground_duty r old.now × (r ≡ record s { grounds = r.grounds })

  pub not_read : (fault : LoadFault) → (HasCleanDisk new → BlamesOrFails table_name.Ground (IsUnreadable ground_duty IsGroundRow old.now) fault) → (HasCleanDisk new → IsCaused old new fault) → CrashLeavesNoMore old new →
      ReadsAs Now (λ f. Justifies f old.now) old new (Err fault)
  not_read fault told caused left = unread table_name.Ground _ Now old new fault (λ clean. unreadable s old.now (above clean)) told caused left

  pub is_read : (records seen : List GroundRecord) (result : Result State LoadFault) → seen ≡ records →
      (HasCleanDisk new → IsUnchanged old new × HasRows ground_duty old.now (map ground_row records)) → CrashLeavesNoMore old new →
      MatchResult result (GroundsRead seen (length seen) s) (Blames table_name.Ground (HasStranger row_of_ground (IsGround s.crew) (map ground_row seen))) →
      ReadsAs Now (λ f. Justifies f old.now) old new result
  is_read records seen (Ok r) same saw left done = record {
    told = λ clean.
        let it = saw clean in
        let read = subst (λ l. GroundsRead l (length l) s r) same done in
        let mapped = λ (once : AreOnce row_of_ground (map ground_row records)). subst (λ l. Mapped (λ id. id) row_of_ground (IsGround s.crew) l r.grounds) (all_taken ground_row records) (read.mapped once) in
        (it.0, (right s old.now (above (clean_before old new left clean)) (map ground_row records) r it.1 read.same mapped, read.same));
    caused = λ clean. tt;
    left = left;
  }
  is_read records seen (Err fault) same saw left blame = record {
    told = λ clean.
        let why = subst (λ l. Blames table_name.Ground (HasStranger row_of_ground (IsGround s.crew) (map ground_row l)) fault) same blame in
        of_blame table_name.Ground _ old.now (strange s old.now (above (clean_before old new left clean)) (map ground_row records) (saw clean).1) fault (or_fails table_name.Ground _ fault why);
    caused = λ clean. uncaused old new table_name.Ground (HasStranger row_of_ground (IsGround s.crew) (map ground_row seen)) fault blame;
    left = left;
  }
