-- The table `crew_base`: what its records say, and when it is right.
use Rattle.std.proofs.Common.{◌≡◌, inl, inr, refl, sym, ap, subst, ◌∙◌, ℕ, ◌+◌, true, false, List, [], ◌∷◌, map, take, length, Option, Some, None, slice_get}
use Rattle.std.specs.FinMap as fin
use Rattle.std.specs.Prelude.{is_some}
use Rattle.sqlite_value.specs.declared.value.Value.TheVariants.{Text}
use Rattle.sqlite_value.specs.Order.{Row, column}
use Rattle.sqlite_rules.specs.Lists.{Has}
use Rattle.sqlite.specs.Effect.{Database}
use Rattle.command.specs.declared.member.Member.{Member}
use Rattle.roster.specs.Sound.{Members}
use Rattle.roster.specs.State.{State}
use Rattle.tables.proofs.KeyLemmas.{once_by_one}
use Rattle.tables.specs.Records.{IsCrewBaseRow, crew_base_row}
use Rattle.tables.specs.Rows.{begins_with}
use Rattle.tables.specs.Schema.{crew_base_table}
use Rattle.tables.specs.declared.crew_base.CrewBaseRecord.{CrewBaseRecord}
use Rattle.entries.proofs.Ascii.{id_utf8}
use Rattle.entries.proofs.Editions.{its_table, next_base, next_crew_base}
use Rattle.entries.proofs.Mapping.{all_taken, nothing_mapped, next_mapped, mapped_at, mapped_place}
use Rattle.loading.proofs.Moved.{request_stays}
use Rattle.entries.proofs.SameStates.{HasAlike, bases_told, crew_told}
use Rattle.entries.specs.Right.{AreRight, IsBaseRight, IsOfEdition}
use Rattle.loading.specs.Reading.{AgreesIn, AreAllPosted, ArePosted, AreUnposted, HasRows, IsPosted, IsReadAs, IsUnreadable, PostsRead, row_of_posted}
use Rattle.entries.specs.Mapping.{AreOnce, HasStranger, Mapped, TellsOf}
use Rattle.entries.specs.Faults.{Blames}
use Rattle.entries.specs.declared.fault.LoadFault.{LoadFault}
use Rattle.entries.specs.declared.fault.LoadFault.TheVariants.{NotABook, Version, Damaged, Fault}
use Rattle.entries.specs.declared.fault.TableName.TheVariants as table_name
use Rattle.state_rows.proofs.Lists.{one_value}
use Rattle.state_rows.proofs.Tests.{passes}
use Rattle.state_rows.proofs.Values.{text_is}
use Rattle.state_rows.specs.Rows.{InBase, InCrew, base, crew_base, request, row_of_post}
use Rattle.state_rows.specs.declared.edition.Edition.TheVariants.{Second}

pub is_there : {V : Type 0} (o : Option V) (v : V) → o ≡ Some v → is_some o ≡ true
is_there o v e = ap is_some e

pub has_value : {V : Type 0} (o : Option V) → is_some o ≡ true → (v : V) × (o ≡ Some v)
has_value None e = absurd (cc)
has_value (Some v) e = (v, refl)

-- ---- One record

module _ (s : State) (it : CrewBaseRecord) where
  abbrev Tells : Option (List ℕ × Member) → Type 0
  Tells = TellsOf (λ who m x. (x.0 ≡ who) × (x.1 ≡ m)) row_of_posted (IsPosted s.bases s.crew) (crew_base_row it)

  pub no_base : fin.contains_key s.bases it.base ≡ false → Tells None
  no_base none who m e is =
      let same : it.base ≡ m.base = text_is (ap (λ (r : Row). column r 1) e) in
      absurd (let f = sym none ∙ ap (fin.contains_key s.bases) same ∙ is_there (fin.get s.bases m.base) is.based.0 is.based.1 in cc)

  pub no_member : fin.get s.crew it.crew ≡ None → Tells None
  no_member none who m e is =
      let same : it.crew ≡ who = text_is (ap (λ (r : Row). column r 0) e) in
      absurd (let f = sym none ∙ ap (fin.get s.crew) same ∙ is.there in cc)

  pub tells : (before m : Member) → fin.contains_key s.bases it.base ≡ true → fin.get s.crew it.crew ≡ Some before → m ≡ record before { base = it.base } → Tells (Some (it.crew, m))
  tells before m based there is = (
    it.crew,
    m,
    (refl, refl),
    ap (row_of_post it.crew) (ap (λ (x : Member). x.base) (sym is)),
    record {
      before = before;
      there = there;
      seat = ap (λ (x : Member). x.seat) is;
      name = ap (λ (x : Member). x.name) is;
      based = subst (λ (x : Member). (zone : List ℕ) × (fin.get s.bases x.base ≡ Some zone)) (sym is) (has_value (fin.get s.bases it.base) based);
    },
  )

-- ---- Records in turn

pub none_read : (s : State) (records : List CrewBaseRecord) → PostsRead s.bases s.crew records 0 fin.empty
none_read s records = record { mapped = λ once. nothing_mapped (λ who. who) (λ i j e. e) row_of_posted (IsPosted s.bases s.crew) }

module _ (s : State) (records : List CrewBaseRecord) (at : ℕ) (it : CrewBaseRecord) (there : slice_get records at ≡ Some it) where
  pub stranger : Tells s it None → HasStranger row_of_posted (IsPosted s.bases s.crew) (map crew_base_row records)
  stranger none = record { row = crew_base_row it; here = mapped_at crew_base_row records at it there; strange = none }

  pub one_read : (a b : Members) (x : List ℕ × Member) → Tells s it (Some x) → PostsRead s.bases s.crew records at a → b ≡ fin.insert a x.0 x.1 → PostsRead s.bases s.crew records (at + 1) b
  one_read a b x told read made =
      let who = told.0 in
      let m = told.1 in
      let is : b ≡ fin.insert a who m = made ∙ (λ i. fin.insert a (told.2.0 i) (told.2.1 i)) in
      record {
        mapped = λ once. subst (Mapped (λ w. w) row_of_posted (IsPosted s.bases s.crew) (take (at + 1) (map crew_base_row records))) (sym is)
            (next_mapped (λ w. w) (λ i j e. e) row_of_posted (IsPosted s.bases s.crew) a who m (map crew_base_row records) at
            (mapped_place crew_base_row records at it there ∙ ap Some told.3) (read.mapped once) told.4 once);
      }

pub post_stranger : (records : List CrewBaseRecord) (s : State) (fault : LoadFault) → Blames table_name.CrewBase (HasStranger row_of_posted (IsPosted s.bases s.crew) (map crew_base_row records)) fault →
    Blames table_name.CrewBase (AreUnposted records s) fault
post_stranger records s NotABook blame = blame
post_stranger records s Version blame = blame
post_stranger records s (Damaged other) blame = (blame.0, inl blame.1)
post_stranger records s (Fault fault) blame = blame

pub not_all_posted : (records : List CrewBaseRecord) (s : State) (posted : Members) → PostsRead s.bases s.crew records (length records) posted → (AreAllPosted s.crew posted → ⊥) → AreUnposted records s
not_all_posted records s posted read none = inr (posted, read, none)

pub all_posted : (records : List CrewBaseRecord) (s t : State) (posted : Members) → PostsRead s.bases s.crew records (length records) posted → AreAllPosted s.crew posted → t ≡ record s { crew = posted } →
    ArePosted records s t
all_posted records s t posted read all is =
    subst (ArePosted records s) (sym is) (record { same = refl; read = read; all = all })

-- ---- The table

itself : (who : List ℕ) (m : Member) → begins_with (Text who ∷ []) (row_of_posted who m) ≡ true
itself who m = passes (Text who ∷ []) (row_of_posted who m) (refl, tt)

module _ (db : Database) (second : IsOfEdition Second db) where
  pub not_unreadable : IsUnreadable crew_base IsCrewBaseRow db → AreRight crew_base db → ⊥
  not_unreadable (inl none) right = none (its_table base crew_base next_crew_base right.0 db second right.1).0
  not_unreadable (inr x) right =
      let table = its_table base crew_base next_crew_base right.0 db second right.1 in
      let it = (table.1 x.0).0 x.1 in
      let based = right.1.2 it.0.name it.0.value it.0.there in
      let shaped = right.1.0.2.shaped it.0.value.base based.0 based.1 in
      let member = right.1.0.0.0.0.0.0.0.0.0.2 it.0.name it.0.value it.0.there in
      x.3 (record { crew = it.0.name; base = it.0.value.base }, id_utf8 it.0.name member.id_shape, id_utf8 it.0.value.base shaped.0, it.1)

module _ (s : State) (db : Database) (up : AgreesIn Second base s db) (records : List CrewBaseRecord) (read : HasRows crew_base db (map crew_base_row records)) where
  posts_once : AreOnce row_of_posted (map crew_base_row records)
  posts_once who v w first second =
      once_by_one crew_base_table db (1 ∷ []) [] refl read.there.0 read.database read.stored (row_of_posted who v) (row_of_posted who w)
      ((read.all (row_of_posted who v)).1 first) ((read.all (row_of_posted who w)).1 second) (Text who) refl (λ r. refl) refl (itself who v) (itself who w)

  whole : (posted : Members) → PostsRead s.bases s.crew records (length records) posted → Mapped (λ who. who) row_of_posted (IsPosted s.bases s.crew) (map crew_base_row records) posted
  whole posted all = subst (λ l. Mapped (λ who. who) row_of_posted (IsPosted s.bases s.crew) l posted) (all_taken crew_base_row records) (all.mapped posts_once)

  -- a member who is posted was one before
  posted_back : (posted : Members) → PostsRead s.bases s.crew records (length records) posted → HasAlike posted s.crew
  posted_back posted all who m there =
      let known = (whole posted all).known who m there in
      let is = known.2 in
      record { other = is.before; there = ap (fin.get s.crew) known.1 ∙ is.there; seat = sym is.seat; name = sym is.name }

  posted_to : (posted : Members) → PostsRead s.bases s.crew records (length records) posted → AreAllPosted s.crew posted → HasAlike s.crew posted
  posted_to posted all each who m there =
      let here = has_value (fin.get posted who) (each who (is_there (fin.get s.crew who) m there)) in
      let back = posted_back posted all who here.0 here.1 in
      let same : back.other ≡ m = one_value back.there there in
      record { other = here.0; there = here.1; seat = sym back.seat ∙ ap (λ (x : Member). x.seat) same; name = sym back.name ∙ ap (λ (x : Member). x.name) same }

  pub right : (t : State) → ArePosted records s t → IsReadAs crew_base t db
  right t are =
      let posted = t.crew in
      let mapped = whole posted are.read in
      let rows = map crew_base_row records in
      let moved = request_stays s s.bases posted refl (posted_to posted are.read are.all) (posted_back posted are.read) db up.through.right.0 up.of in
      let above : IsBaseRight (record s { crew = posted }) db = (moved, up.through.right.1, record { has_home = up.through.right.2.has_home; shaped = up.through.right.2.shaped }) in (
        (
          subst (λ u. IsBaseRight u db) (sym are.same) above,
          inl (
            up.of,
            (
              read.there,
              λ row. (
                λ h. let it = mapped.has row ((read.all row).0 h) in (record { name = it.0.index; value = it.0.value; there = it.0.there }, it.1),
                λ it. (read.all row).1 (subst (Has rows) (sym it.1) (mapped.all (record { index = it.0.name; value = it.0.value; there = it.0.there }))),
              ),
            ),
          ),
          λ who m there.
              let based = (mapped.known who m there).2.based in
              (based.0, ap (λ (x : State). fin.get x.bases m.base) are.same ∙ based.1),
        ),
        read.stored,
      )

  -- the members and bases of a state with the rows of the tables down to `crew_base`
  crew_here : (u : State) → IsBaseRight u db → (row : Row) → InCrew u row → InCrew s row
  crew_here u right row is = (up.through.right.0.0.0.0.0.0.0.0.1.1 row).0 ((right.0.0.0.0.0.0.0.0.1.1 row).1 is)

  crew_there : (u : State) → IsBaseRight u db → (row : Row) → InCrew s row → InCrew u row
  crew_there u right row is = (right.0.0.0.0.0.0.0.0.1.1 row).0 ((up.through.right.0.0.0.0.0.0.0.0.1.1 row).1 is)

  base_here : (u : State) → IsBaseRight u db → (row : Row) → InBase u row → InBase s row
  base_here u right row is =
      ((its_table request base next_base s db up.of up.through.right).1 row).0 (((its_table request base next_base u db up.of right).1 row).1 is)

  pub wrong : AreUnposted records s → AreRight crew_base db → ⊥
  wrong (inl it) right =
      let u = right.0 in
      let table = its_table base crew_base next_crew_base u db up.of right.1 in
      let is = (table.1 it.row).0 ((read.all it.row).1 it.here) in
      let at = is.0 in
      let alike = crew_told u s (crew_here u right.1.0) at.name at.value at.there in
      let based = right.1.2 at.name at.value at.there in
      it.strange at.name at.value is.1 (record {
        before = alike.other;
        there = alike.there;
        seat = sym alike.seat;
        name = sym alike.name;
        based = (based.0, bases_told u s (base_here u right.1.0) at.value.base based.0 based.1);
      })
  wrong (inr (posted, all, bad)) right =
      let u = right.0 in
      let table = its_table base crew_base next_crew_base u db up.of right.1 in
      let mapped = whole posted all in
      bad (λ who is.
      let member = has_value (fin.get s.crew who) is in
      let alike = crew_told s u (crew_there u right.1.0) who member.0 member.1 in
      let row = row_of_posted who alike.other in
      let here = mapped.has row ((read.all row).0 ((table.1 row).1 (record { name = who; value = alike.other; there = alike.there }, refl))) in
      let same : who ≡ here.0.index = text_is (ap (λ (r : Row). column r 0) here.1) in
      is_there (fin.get posted who) here.0.value (ap (fin.get posted) same ∙ here.0.there))
