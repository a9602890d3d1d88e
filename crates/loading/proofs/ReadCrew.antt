-- The table `crew`: what its records say, and when it is right.
use Rattle.std.proofs.Common.{◌≡◌, inl, inr, refl, sym, ap, subst, ◌∙◌, ℕ, zero, suc, true, false, List, [], ◌∷◌, map, take, slice_get, ◌+◌, length, Option, Some, None, Result, Ok, Err, IfOk, MatchResult, IsUtf8}
use Rattle.std.specs.FinMap as fin
use Rattle.sqlite_value.specs.declared.value.Value.TheVariants.{Text}
use Rattle.sqlite_value.specs.Order.{Row, column}
use Rattle.sqlite_rules.specs.Lists.{Has}
use Rattle.sqlite.specs.Effect.{Database}
use Rattle.sqlite.specs.State.{HasCleanDisk, IsUnchanged}
use Rattle.sqlite.specs.State as conn
use Rattle.duty.specs.Shape.{home, is_id, is_plain_text}
use Rattle.command.specs.declared.member.Member.{Member}
use Rattle.command.specs.declared.member.Seat.{Seat}
use Rattle.command.specs.declared.member.Seat.TheVariants.{Captain, FirstOfficer}
use Rattle.roster.specs.Entries.{put}
use Rattle.roster.specs.State.{State}
use Rattle.roster.specs.declared.put.Entry.{Entry}
use Rattle.roster.specs.declared.put.Entry.TheVariants as entry
use Rattle.tables.proofs.KeyLemmas.{crew_once}
use Rattle.tables.specs.Calls.{CrashLeavesNoMore}
use Rattle.tables.specs.Records.{IsCrewRow, crew_row}
use Rattle.tables.specs.Rows.{begins_with}
use Rattle.tables.specs.declared.crew.CrewRecord.{CrewRecord}
use Rattle.loading.proofs.Homes.{none_at_home, one_at_home}
use Rattle.entries.proofs.Mapping.{all_taken, nothing_mapped, next_mapped, mapped_at, mapped_place}
use Rattle.state_rows.proofs.Tests.{passes}
use Rattle.state_rows.proofs.Values.{text_is, number_is}
use Rattle.loading.proofs.Telling.{unread, of_blame, or_fails, uncaused}
use Rattle.state_rows.proofs.Outcomes.{clean_before}
use Rattle.loading.specs.Loading.{IsCaused, IsDamaged, Justifies}
use Rattle.entries.specs.Right.{IsMember, IsRight, AreRight}
use Rattle.loading.specs.Reading.{seat_of, AreAtHome, MembersRead, ReadsAs, BlamesOrFails, HasRows, IsUnreadable, AgreesThrough}
use Rattle.entries.specs.Faults.{Blames}
use Rattle.entries.specs.Mapping.{Mapped, AreOnce, TellsOf, HasStranger}
use Rattle.entries.specs.declared.fault.LoadFault.{LoadFault}
use Rattle.entries.specs.declared.fault.TableName.TheVariants as table_name
use Rattle.state_rows.specs.Rows.{seat_number, row_of_member, crew, book}
use Rattle.entries.proofs.RightRows.{crew_rows}

pub seat_known : (seat : Seat) → seat_of (seat_number seat) ≡ Some seat
seat_known Captain = refl
seat_known FirstOfficer = refl

pub number_known : (n : ℕ) (seat : Seat) → seat_of n ≡ Some seat → n ≡ seat_number seat
number_known zero seat e = cc
number_known (suc zero) seat e = cc
number_known (suc (suc n)) seat e = absurd (cc)

-- ---- One record

module _ (it : CrewRecord) where
  abbrev Tells : Option Entry → Type 0
  Tells = TellsOf (λ id member e. (e ≡ entry.Member id member) × (member.base ≡ home)) row_of_member IsMember (crew_row it)

  -- the parts of a member whose row it is
  seat_same : (id : List ℕ) (m : Member) → crew_row it ≡ row_of_member id m → seat_of it.seat ≡ Some m.seat
  seat_same id m e = ap seat_of (number_is (ap (λ (row : Row). column row 1) e)) ∙ seat_known m.seat

  pub no_seat : seat_of it.seat ≡ None → Tells None
  no_seat none id m e is = absurd (let f = sym none ∙ seat_same id m e in cc)

  pub bad_id : is_id it.id ≡ false → Tells None
  bad_id bad id m e is = absurd (let f = sym bad ∙ ap is_id (text_is (ap (λ (row : Row). column row 0) e)) ∙ is.id_shape in cc)

  pub bad_name : is_plain_text it.name ≡ false → Tells None
  bad_name bad id m e is = absurd (let f = sym bad ∙ ap is_plain_text (text_is (ap (λ (row : Row). column row 2) e)) ∙ is.name_shape in cc)

  pub tells : (seat : Seat) (base : List ℕ) → base ≡ home → seat_of it.seat ≡ Some seat → is_id it.id ≡ true → is_plain_text it.name ≡ true → IsUtf8 it.name →
      Tells (Some (entry.Member it.id (record { seat = seat; name = it.name; base = base })))
  tells seat base here is_seat id_shape name_shape utf8 = (
    it.id,
    record { seat = seat; name = it.name; base = base },
    (refl, here),
    ap (λ n. crew_row (record it { seat = n })) (number_known it.seat seat is_seat),
    record { id_shape = id_shape; name_shape = name_shape; utf8 = utf8 },
  )

-- ---- Records in turn

pub none_read : (records : List CrewRecord) (s : State) → s.crew ≡ fin.empty → MembersRead records 0 s s
none_read records s none = record { same = refl; at_home = none_at_home s.crew none; mapped = λ once. subst (Mapped (λ id. id) row_of_member IsMember (take 0 (map crew_row records))) (sym none) (nothing_mapped (λ id. id) (λ i j e. e) row_of_member IsMember) }

module _ (records : List CrewRecord) (at : ℕ) (it : CrewRecord) (there : slice_get records at ≡ Some it) where
  pub stranger : Tells it None → HasStranger row_of_member IsMember (map crew_row records)
  stranger none = record { row = crew_row it; here = mapped_at crew_row records at it there; strange = none }

  pub one_read : (s t u : State) (e : Entry) → Tells it (Some e) → MembersRead records at s t → u ≡ put t e → MembersRead records (at + 1) s u
  one_read s t u e told read made =
      let id = told.0 in
      let m = told.1 in
      let is : u ≡ record t { crew = fin.insert t.crew id m } = made ∙ ap (put t) told.2.0 in
      let crew_is : u.crew ≡ fin.insert t.crew id m = ap (λ (r : State). r.crew) is in
      record {
        same = is ∙ (λ i. record (read.same i) { crew = fin.insert t.crew id m }) ∙ (λ i. record s { crew = sym crew_is i });
        at_home = subst AreAtHome (sym crew_is) (one_at_home t.crew id m told.2.1 read.at_home);
        mapped = λ once. subst (λ c. Mapped (λ i. i) row_of_member IsMember (take (at + 1) (map crew_row records)) c) (sym crew_is)
            (next_mapped (λ i. i) (λ i j same. same) row_of_member IsMember t.crew id m (map crew_row records) at
            (mapped_place crew_row records at it there ∙ ap Some told.3) (read.mapped once) told.4 once);
      }

-- ---- The table

-- where it is right, it is there, and each row is the record of a member
pub not_unreadable : (db : Database) → IsUnreadable crew IsCrewRow db → AreRight crew db → ⊥
not_unreadable db (inl none) right = none right.1.1.0
not_unreadable db (inr x) right = x.3 (crew_rows db x.0 x.1 right)

no_stranger : (db : Database) (rows : List Row) → HasRows crew db rows → HasStranger row_of_member IsMember rows → AreRight crew db → ⊥
no_stranger db rows read stranger right =
    let it = (right.1.1.1 stranger.row).0 ((read.all stranger.row).1 stranger.here) in
    let at = it.0 in
    stranger.strange at.name at.value it.1 (right.1.2 at.name at.value at.there)

itself : (id : List ℕ) (m : Member) → begins_with (Text id ∷ []) (row_of_member id m) ≡ true
itself id m = passes (Text id ∷ []) (row_of_member id m) (refl, tt)

module _ (s : State) (db : Database) (above : AgreesThrough book s db) where
  damaged : (AreRight crew db → ⊥) → IsDamaged crew db
  damaged wrong = record { book = above.book; version = above.version; above = (s, above.right); damaged = wrong }

  pub unreadable : IsUnreadable crew IsCrewRow db → IsDamaged crew db
  unreadable why = damaged (not_unreadable db why)

  pub strange : (rows : List Row) → HasRows crew db rows → HasStranger row_of_member IsMember rows → IsDamaged crew db
  strange rows read why = damaged (no_stranger db rows read why)

  members_once : (rows : List Row) → HasRows crew db rows → AreOnce row_of_member rows
  members_once rows read id m n first second =
      crew_once db read.database read.there.0 read.stored id (row_of_member id m) (row_of_member id n)
      ((read.all (row_of_member id m)).1 first) ((read.all (row_of_member id n)).1 second) (itself id m) (itself id n)

  pub right : (rows : List Row) (t : State) → HasRows crew db rows → t ≡ record s { crew = t.crew } →
      (AreOnce row_of_member rows → Mapped (λ id. id) row_of_member IsMember rows t.crew) → AgreesThrough crew t db
  right rows t read same mapped =
      let map = mapped (members_once rows read) in
      record {
        stored = (read.stored, above.stored);
        book = above.book;
        version = above.version;
        right = (
          subst (λ u. IsRight book u db) (sym same) above.right,
          (
            read.there,
            λ row. (
              λ h. let it = map.has row ((read.all row).0 h) in (record { name = it.0.index; value = it.0.value; there = it.0.there }, it.1),
              λ it. (read.all row).1 (subst (Has rows) (sym it.1) (map.all (record { index = it.0.name; value = it.0.value; there = it.0.there }))),
            ),
          ),
          λ id m e. let known = map.known id m e in subst (λ i. IsMember i m) (sym known.1) known.2,
        );
      }

-- ---- The call

module _ (s : State) (old new : conn.State) (above : HasCleanDisk old → AgreesThrough book s old.now) where
  abbrev pub Now : State → Type 0
  Now r = AgreesThrough crew r old.now × (r ≡ record s { crew = r.crew })

  pub not_read : (fault : LoadFault) → (HasCleanDisk new → BlamesOrFails table_name.Crew (IsUnreadable crew IsCrewRow old.now) fault) → (HasCleanDisk new → IsCaused old new fault) → CrashLeavesNoMore old new →
      ReadsAs Now (λ f. Justifies f old.now) old new (Err fault)
  not_read fault told caused left = unread table_name.Crew _ Now old new fault (λ clean. unreadable s old.now (above clean)) told caused left

  pub is_read : (records seen : List CrewRecord) (result : Result State LoadFault) → seen ≡ records →
      (HasCleanDisk new → IsUnchanged old new × HasRows crew old.now (map crew_row records)) → CrashLeavesNoMore old new →
      MatchResult result (MembersRead seen (length seen) s) (Blames table_name.Crew (HasStranger row_of_member IsMember (map crew_row seen))) →
      ReadsAs Now (λ f. Justifies f old.now) old new result
  is_read records seen (Ok r) same saw left done = record {
    told = λ clean.
        let it = saw clean in
        let read = subst (λ l. MembersRead l (length l) s r) same done in
        let mapped = λ (once : AreOnce row_of_member (map crew_row records)). subst (λ l. Mapped (λ id. id) row_of_member IsMember l r.crew) (all_taken crew_row records) (read.mapped once) in
        (it.0, (right s old.now (above (clean_before old new left clean)) (map crew_row records) r it.1 read.same mapped, read.same));
    caused = λ clean. tt;
    left = left;
  }
  is_read records seen (Err fault) same saw left blame = record {
    told = λ clean.
        let why = subst (λ l. Blames table_name.Crew (HasStranger row_of_member IsMember (map crew_row l)) fault) same blame in
        of_blame table_name.Crew _ old.now (strange s old.now (above (clean_before old new left clean)) (map crew_row records) (saw clean).1) fault (or_fails table_name.Crew _ fault why);
    caused = λ clean. uncaused old new table_name.Crew (HasStranger row_of_member IsMember (map crew_row seen)) fault blame;
    left = left;
  }

-- each member that was read is at HOME
pub all_at_home : (records : List CrewRecord) (s : State) (Why : LoadFault → Type 0) (result : Result State LoadFault) → MatchResult result (MembersRead records (length records) s) Why → IfOk result (λ r. AreAtHome r.crew)
all_at_home records s Why (Ok t) read = read.at_home
all_at_home records s Why (Err fault) read = tt
