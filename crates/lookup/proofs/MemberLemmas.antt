-- The member that is read is the state's.
use Rattle.std.proofs.Common.{◌≡◌, ◌⊎◌, inl, inr, refl, sym, ap, ◌∙◌, ℕ, Bool, true, List, [], ◌∷◌, map, Option, Some, None, slice_get}
use Rattle.std.specs.FinMap as fin
use Rattle.sqlite_value.specs.Order.{Row, column}
use Rattle.sqlite_value.specs.declared.value.Value.TheVariants.{Text}
use Rattle.sqlite_rules.specs.Lists.{Has}
use Rattle.sqlite.specs.Effect.{Database}
use Rattle.command.specs.declared.member.Member.{Member}
use Rattle.command.specs.declared.member.Seat.{Seat}
use Rattle.command.specs.declared.member.Seat.TheVariants.{Captain, FirstOfficer}
use Rattle.roster.specs.State as roster
use Rattle.tables.specs.Records.{crew_base_row, crew_row}
use Rattle.tables.specs.Rows.{Finds, begins_with, rows_of}
use Rattle.tables.specs.Schema.{crew_base_table, crew_table}
use Rattle.tables.specs.declared.crew.CrewRecord.{CrewRecord}
use Rattle.tables.specs.declared.crew_base.CrewBaseRecord.{CrewBaseRecord}
use Rattle.state_rows.specs.Rows.{table, crew, crew_base, row_of_member, row_of_post, seat_number}
use Rattle.state_rows.proofs.Lists.{one_value, some_same}
use Rattle.state_rows.proofs.Tests.{found, passes}
use Rattle.state_rows.proofs.Values.{members_same, number_is, text_is}
use Rattle.state_rows.specs.Kept.{IsBookOf}
use Rattle.lookup.specs.Members.{FindsMember, HasFirst}
use Rattle.lookup.specs.Plans.{IfSome}
use Rattle.lookup.specs.Reads.{HaveNone}
use Rattle.lookup.specs.declared.member.MemberRecords.{MemberRecords}
use Rattle.lookup.proofs.ReadLemmas.{in_found, of_found}

-- ---- What the first records are

pub columns_told : (records : List CrewRecord) (bases : List CrewBaseRecord) (row : CrewRecord) (its : CrewBaseRecord) (m : Member) → slice_get records 0 ≡ Some row → slice_get bases 0 ≡ Some its →
    seat_number m.seat ≡ row.seat → m.name ≡ row.name → m.base ≡ its.base → HasFirst records bases (Some m)
columns_told [] bases row its m here there seat name base = absurd (cc)
columns_told (x ∷ xs) [] row its m here there seat name base = absurd (cc)
columns_told (x ∷ xs) (y ∷ ys) row its m here there seat name base = (
  m,
  refl,
  record {
    seat = seat ∙ ap (λ (r : CrewRecord). r.seat) (sym (some_same here));
    name = name ∙ ap (λ (r : CrewRecord). r.name) (sym (some_same here));
    base = base ∙ ap (λ (r : CrewBaseRecord). r.base) (sym (some_same there));
  },
)

pub none_told : (records : List CrewRecord) (bases : List CrewBaseRecord) → slice_get records 0 ≡ None → HasFirst records bases None
none_told [] bases here = refl
none_told (x ∷ xs) bases here = absurd (cc)

of_seat : (seat : Seat) {n : ℕ} → seat_number seat ≡ n → (n ≡ 0) ⊎ (n ≡ 1)
of_seat Captain is = inl (sym is)
of_seat FirstOfficer is = inr (sym is)

seat_in : (records : List CrewRecord) (bases : List CrewBaseRecord) (row : CrewRecord) → slice_get records 0 ≡ Some row → (found : Option Member) → HasFirst records bases found → (row.seat ≡ 0) ⊎ (row.seat ≡ 1)
seat_in [] bases row here found first = absurd (cc)
seat_in (x ∷ xs) [] row here found first = absurd first
seat_in (x ∷ xs) (y ∷ ys) row here found first =
    let same : x.seat ≡ row.seat = ap (λ (r : CrewRecord). r.seat) (some_same here) in of_seat first.0.seat (first.2.seat ∙ same)

pub no_seat : (records : List CrewRecord) (bases : List CrewBaseRecord) (row : CrewRecord) → slice_get records 0 ≡ Some row → (row.seat ≡ 0 → ⊥) → (row.seat ≡ 1 → ⊥) → HaveNone (HasFirst records bases)
no_seat records bases row here first second found told = elim (seat_in records bases row here found told) [ inl is ↦ first is | inr is ↦ second is ]

pub no_base : (records : List CrewRecord) (bases : List CrewBaseRecord) (row : CrewRecord) → slice_get records 0 ≡ Some row → slice_get bases 0 ≡ None → HaveNone (HasFirst records bases)
no_base [] bases row here none found told = absurd (cc)
no_base (x ∷ xs) [] row here none found told = told
no_base (x ∷ xs) (y ∷ ys) row here none found told = absurd (cc)

-- ---- The tables

module _ (s : roster.State) (db : Database) (book : IsBookOf s db) (id : List ℕ) where
  abbrev by_id : Row → Bool
  by_id = begins_with (Text id ∷ [])

  none_there : (o : Option Member) → fin.get s.crew id ≡ o → Finds (table crew) by_id db [] → o ≡ None
  none_there None here finds = refl
  none_there (Some m) here finds =
      let row = row_of_member id m in
      let is_row = (book.rows crew row).1 (record { name = id; value = m; there = here }, refl) in
      absurd (in_found crew by_id db [] finds row is_row (passes (Text id ∷ []) row (refl, tt)))

  -- a row of `crew` with this id, and a row of `crew_base` with it, are of the member of the state
  member_of : (row : CrewRecord) → Has (rows_of crew_table db) (crew_row row) → by_id (crew_row row) ≡ true →
      (m : Member) × (fin.get s.crew id ≡ Some m) × (row.seat ≡ seat_number m.seat) × (row.name ≡ m.name)
  member_of row h test =
      let at = (book.rows crew (crew_row row)).0 h in
      let at_column = λ (k : ℕ). ap (λ (x : Row). column x k) at.1 in
      let same_id : id ≡ at.0.name = sym (text_is (found (Text id ∷ []) (crew_row row) (tt, tt, tt) test).0) ∙ text_is (at_column 0) in
      (at.0.value, ap (fin.get s.crew) same_id ∙ at.0.there, number_is (at_column 1), text_is (at_column 2))

  base_is : (its : CrewBaseRecord) (m : Member) → fin.get s.crew id ≡ Some m → Has (rows_of crew_base_table db) (crew_base_row its) → by_id (crew_base_row its) ≡ true → its.base ≡ m.base
  base_is its m here h test =
      let at = (book.rows crew_base (crew_base_row its)).0 h in
      let same_id : id ≡ at.0.name = sym (text_is (found (Text id ∷ []) (crew_base_row its) (tt, tt, tt) test).0) ∙ text_is (ap (λ (x : Row). column x 0) at.1) in
      let same : at.0.value ≡ m = one_value (ap (fin.get s.crew) same_id ∙ at.0.there) here in
      text_is (ap (λ (x : Row). column x 1) at.1) ∙ ap (λ (x : Member). x.base) same

  base_there : (m : Member) → fin.get s.crew id ≡ Some m → Finds (table crew_base) by_id db [] → ⊥
  base_there m here finds =
      let row = row_of_post id m.base in
      let is_row = (book.rows crew_base row).1 (record { name = id; value = m; there = here }, refl) in
      in_found crew_base by_id db [] finds row is_row (passes (Text id ∷ []) row (refl, tt))

  member_is : (records : List CrewRecord) (bases : List CrewBaseRecord) (answer : Option Member) → HasFirst records bases answer → Finds (table crew) by_id db (map crew_row records) →
      IfSome records (Finds (table crew_base) by_id db (map crew_base_row bases)) → answer ≡ fin.get s.crew id
  member_is [] bases answer first finds also = first ∙ sym (none_there (fin.get s.crew id) refl finds)
  member_is (row ∷ rows) [] answer first finds also = absurd first
  member_is (row ∷ rows) (its ∷ bases) answer first finds also =
      let there = of_found crew by_id db (map crew_row (row ∷ rows)) finds (crew_row row) (inl refl) in
      let it = member_of row there.0 there.1 in
      let too = of_found crew_base by_id db (map crew_base_row (its ∷ bases)) also (crew_base_row its) (inl refl) in
      let base : first.0.base ≡ it.0.base = first.2.base ∙ base_is its it.0 it.1 too.0 too.1 in
      first.1 ∙ ap Some (members_same first.0 it.0 (first.2.seat ∙ it.2) (first.2.name ∙ it.3) base) ∙ sym it.1

  -- what is read is a member, or that there is none
  member_in : (records : List CrewRecord) (bases : List CrewBaseRecord) → Finds (table crew) by_id db (map crew_row records) →
      IfSome records (Finds (table crew_base) by_id db (map crew_base_row bases)) → (answer : Option Member) × HasFirst records bases answer
  member_in [] bases finds also = (None, refl)
  member_in (row ∷ rows) bases finds also =
      let there = of_found crew by_id db (map crew_row (row ∷ rows)) finds (crew_row row) (inl refl) in
      let it = member_of row there.0 there.1 in
      elim bases as (λ l. Finds (table crew_base) by_id db (map crew_base_row l) → (answer : Option Member) × HasFirst (row ∷ rows) l answer) [
        | [] ↦ λ found_too. absurd (base_there it.0 it.1 found_too)
        | its ∷ more ↦ λ found_too. (
          Some (record { seat = it.0.seat; name = row.name; base = its.base }),
          (record { seat = it.0.seat; name = row.name; base = its.base }, refl, record { seat = sym it.2; name = refl; base = refl }),
        )
      ] also

  pub member_found : (rows : MemberRecords) → FindsMember id db rows → (answer : Option Member) → HasFirst rows.crew.items rows.bases.items answer → answer ≡ fin.get s.crew id
  member_found rows finds answer first = member_is rows.crew.items rows.bases.items answer first finds.crew finds.bases

  pub member_there : (rows : MemberRecords) → FindsMember id db rows → (answer : Option Member) × HasFirst rows.crew.items rows.bases.items answer
  member_there rows finds = member_in rows.crew.items rows.bases.items finds.crew finds.bases
