-- What a migration writes are the rows of the same state in version 2.
use Rattle.std.proofs.Common.{◌≡◌, ◌⊎◌, ◌↔◌, inl, inr, refl, sym, ap, subst, ◌∙◌, arith, ℕ, suc, pos, Bool, true, false, List, [], ◌∷◌, ◌++◌, map, Some, slice_get, Result, Ok, Err, IsOk}
use Rattle.std.specs.FinMap as fin
use Rattle.std.specs.List.{Contains}
use Rattle.std.proofs.lemmas.Option.{get_or_from_slice_get, slice_get-get_or, slice_get_within}
use Rattle.values.specs.Name.{name_cmp, named_rows}
use Rattle.sqlite_value.specs.declared.value.Value.TheVariants.{Int}
use Rattle.sqlite_value.specs.Order.{Row}
use Rattle.sqlite_rules.specs.Lists.{Has}
use Rattle.sqlite.specs.Effect.{Database}
use Rattle.sqlite.specs.State.{State, HasCleanDisk, IsLive}
use Rattle.duty.specs.Shape.{home}
use Rattle.command.specs.declared.member.Member.{Member}
use Rattle.roster.proofs.Members.{from_rows, in_rows}
use Rattle.roster.specs.Bases.{home_zone}
use Rattle.roster.specs.State as roster
use Rattle.tables.specs.Records.{with_version}
use Rattle.tables.specs.Rows.{AreNumbered, Changes, begins_with, cells, rows_of, stored, IsStored}
use Rattle.tables.specs.Schema.{IsOfBook, IsTable, IsUnreferenced, later_tables}
use Rattle.tables.specs.declared.book.BookRecord.{BookRecord}
use Rattle.tables.proofs.BookTexts.{with_version_is}
use Rattle.state_rows.specs.First.{IsFirst}
use Rattle.state_rows.specs.Rows.{At, StateTable, book, base, crew_base, outside, outside_segment, is_later, table, InCrewBase, InFirst, InTable, HasJust, Rows, row_of_base, row_of_book, row_of_post}
use Rattle.state_rows.specs.declared.edition.Edition.TheVariants.{First, Second}
use Rattle.state_rows.specs.declared.fault.StoreFault.{StoreFault}
use Rattle.state_rows.proofs.Tests.{passes}
use Rattle.writing.specs.Calls.{Changed, Each, IsFit, IsReady, Wrote}
use Rattle.state_rows.specs.Kept.{IsBookOf, IsFirstBookOf}
use Rattle.writing.specs.Migration.{AddsPost, AddsPosts, Fills, Migrates}
use Rattle.writing.specs.Making.{AreUnreferenced, HasEmpty, MakesTables}
use Rattle.writing.proofs.Chaining.{each_start, then_write}
use Rattle.writing.proofs.EmptyBook.{OfBases, home_row, nothing}
use Rattle.writing.proofs.Growth.{on_tables}
use Rattle.writing.proofs.Growing.{SomeOf, each_grows, placed, some_of}
use Rattle.writing.proofs.Sets as sets
use Rattle.state_rows.proofs.EachTable.{all_of, by_edition, is_book, of_all, of_later}
use Rattle.writing.proofs.Tables.{fit_after, inserts_keep, just_made, no_rows, none_stored, updates_keep}

-- ---- The later tables are made

-- what each table has: the rows of version 1
abbrev FirstSets : roster.State → sets.Sets
FirstSets s base = λ row. ⊥
FirstSets s crew_base = λ row. ⊥
FirstSets s outside = λ row. ⊥
FirstSets s outside_segment = λ row. ⊥
FirstSets s name = InFirst s name

module _ (s : roster.State) (old mid : Database) (was : IsFirstBookOf s old) (makes : MakesTables later_tables old mid) where
  none_refers : AreUnreferenced old.schema
  none_refers = all_of (λ t. IsUnreferenced t old.schema) (by_edition (λ a. IsUnreferenced (table a) old.schema) (λ a early. (was.tables a early).1.0) (λ a late. (was.free a late).1))

  made : HasEmpty later_tables mid
  made = makes.empty [] (record { there = tt; guarded = tt; unreferenced = none_refers; on_tables = on_tables old was.database })

  kept : (a : StateTable) → is_later a ≡ false → IsTable (table a) mid.schema × (stored (table a) mid ≡ stored (table a) old)
  kept a early = makes.keeps (table a) (was.tables a early).0

  unreferenced_now : (a : StateTable) → IsUnreferenced (table a) mid.schema
  unreferenced_now a = of_all (λ t. IsUnreferenced t mid.schema) made.unreferenced a

  early_fit : (a : StateTable) → is_later a ≡ false → IsOfBook (table a) mid.schema
  early_fit a early = let it = was.tables a early in ((kept a early).0, (unreferenced_now a, makes.guarded (table a) it.0 it.1.1))

  pub made_fit : IsFit mid
  made_fit = (
    is_book mid.schema (by_edition (λ a. IsOfBook (table a) mid.schema) early_fit (λ a late. just_made mid later_tables made a (λ P it. of_later P it a late))),
    by_edition (λ a. IsStored (table a) mid) (λ a early. subst AreNumbered (sym (kept a early).1) (was.stored a)) (λ a late. none_stored mid later_tables made a (λ P it. of_later P it a late)),
  )

  early_rows : (a : StateTable) → is_later a ≡ false → HasJust (table a) mid (InFirst s a)
  early_rows a early = subst (λ (rows : List Row). (row : Row) → Has rows row ↔ InFirst s a row) (sym (ap (map (cells (table a))) (kept a early).1)) (was.rows a early)

  late_rows : (a : StateTable) → is_later a ≡ true → HasJust (table a) mid (λ row. ⊥)
  late_rows a late row = (λ h. subst (λ (rows : List Row). Has rows row) (no_rows mid later_tables made a (λ P it. of_later P it a late)) h, λ none. absurd none)

  first_shown : sets.Shows (FirstSets s) mid
  first_shown base = late_rows base refl
  first_shown crew_base = late_rows crew_base refl
  first_shown outside = late_rows outside refl
  first_shown outside_segment = late_rows outside_segment refl
  first_shown name = early_rows name refl

-- ---- A row for each member

abbrev Post : ℕ → List ℕ × Member → Row → Type 0
Post place member row = row ≡ row_of_post member.0 member.1.base

contained : {X : Type 0} (xs : List X) (n : ℕ) (x : X) → slice_get xs n ≡ Some x → Contains xs x
contained xs n x at = (n, slice_get_within xs n x at, get_or_from_slice_get xs n x x at)

posts_are : (s : roster.State) (row : Row) → (SomeOf Post 0 (fin.entries s.crew) row ⊎ ⊥) ↔ InCrewBase s row
posts_are s row = (
  λ h. elim h [
    | inl some ↦
        let it = placed Post 0 (fin.entries s.crew) row some in
        let there = from_rows s.crew it.value.0 it.value.1 (contained (fin.entries s.crew) it.place it.value it.there) in
        (record { name = it.value.0; value = it.value.1; there = there }, it.is)
    | inr none ↦ absurd none
  ],
  λ h.
      let at = h.0 in
      let has = in_rows s.crew at.name at.value at.there in
      inl (some_of Post 0 (fin.entries s.crew) row has.0 (at.name, at.value) (slice_get-get_or (fin.entries s.crew) has.0 (at.name, at.value) has.1 ∙ ap Some has.2) h.1),
)

-- ---- The version

abbrev of_one : Row → Bool
of_one = begins_with (Int (pos 1) ∷ [])

versioned : (zone : List ℕ) → with_version (pos 2) (row_of_book First zone) ≡ row_of_book Second zone
versioned zone =
    let it : BookRecord = record { one = pos 1; version = pos 1; zone = zone } in
    with_version_is it (pos 2)

is_one : (zone : List ℕ) → of_one (row_of_book First zone) ≡ true
is_one zone = passes (Int (pos 1) ∷ []) (row_of_book First zone) (refl, tt)

version_set : (zone : List ℕ) (row : Row) →
    (((was : Row) × (was ≡ row_of_book First zone) × (of_one was ≡ true) × (row ≡ with_version (pos 2) was)) ⊎ ((row ≡ row_of_book First zone) × (of_one row ≡ false)))
    ↔ (row ≡ row_of_book Second zone)
version_set zone row = (
  λ h. elim h [
    | inl it ↦ it.3 ∙ ap (with_version (pos 2)) it.1 ∙ versioned zone
    | inr it ↦ absurd (let no : true ≡ false = sym (is_one zone) ∙ ap of_one (sym it.0) ∙ it.1 in cc)
  ],
  λ is. inl (row_of_book First zone, refl, is_one zone, is ∙ sym (versioned zone)),
)

-- ---- All rows

module _ (s : roster.State) (all_home : IsFirst s) (old mid new : Database) (was : IsFirstBookOf s old) (makes : MakesTables later_tables old mid) (is : Fills s mid new) where
  abbrev Based : sets.Sets
  Based = sets.put base (λ x. (x ≡ row_of_base home (home_zone s.bases)) ⊎ ⊥) (FirstSets s)

  abbrev Posted : sets.Sets
  Posted = sets.put crew_base (λ x. SomeOf Post 0 (fin.entries s.crew) x ⊎ ⊥) Based

  abbrev Versioned : sets.Sets
  Versioned = sets.put book (λ x. ((was : Row) × Posted book was × (of_one was ≡ true) × (x ≡ with_version (pos 2) was)) ⊎ (Posted book x × (of_one x ≡ false))) Posted

  fit : IsFit mid
  fit = made_fit s old mid was makes

  based_fit : IsFit is.0
  based_fit = inserts_keep base (row_of_base home (home_zone s.bases)) mid is.0 fit is.1

  posts : Changes (table crew_base) is.0 is.2.0 (λ x. SomeOf Post 0 (fin.entries s.crew) x ⊎ Has (rows_of (table crew_base) is.0) x)
  posts = each_grows crew_base (λ _ member. AddsPost member.0 member.1.base) Post (λ place member a b _ adds. adds) 0 (fin.entries s.crew) is.0 is.2.0 based_fit is.2.1

  posted_fit : IsFit is.2.0
  posted_fit = fit_after is.0 is.2.0 based_fit crew_base _ posts

  pub lifted_fit : IsFit new
  lifted_fit = updates_keep book of_one (with_version (pos 2)) is.2.0 new posted_fit is.2.2

  based : sets.Shows Based is.0
  based = sets.inserted base mid is.0 fit (FirstSets s) (first_shown s old mid was makes) (row_of_base home (home_zone s.bases)) is.1

  posted : sets.Shows Posted is.2.0
  posted = sets.changed crew_base is.0 is.2.0 based_fit Based based _ _ posts (λ x. (
    λ h. elim h [ inl some ↦ inl some | inr before ↦ inr ((based crew_base x).0 before) ],
    λ h. elim h [ inl some ↦ inl some | inr none ↦ inr ((based crew_base x).1 none) ],
  ))

  versions : sets.Shows Versioned new
  versions = sets.updated book is.2.0 new posted_fit Posted posted of_one (with_version (pos 2)) is.2.2

  none_outside : At s.outsides → ⊥
  none_outside at = nothing at.name at.value (ap (λ outsides. fin.get outsides at.name) (sym all_home.outsides) ∙ at.there)

  words : (name : StateTable) (row : Row) → Versioned name row ↔ InTable s name row
  words book row = version_set (home_zone s.bases) row
  words base row = subst (λ bases. ((row ≡ row_of_base home (home_zone s.bases)) ⊎ ⊥) ↔ OfBases bases row) (sym all_home.bases) (home_row (home_zone s.bases) row)
  words crew_base row = posts_are s row
  words outside row = (λ none. absurd none, λ is. none_outside is.0)
  words outside_segment row = (λ none. absurd none, λ is. none_outside is.0)
  words name row = (λ h. h, λ h. h)

  pub lifted_rows : Rows s new
  lifted_rows = sets.shows_as Versioned (InTable s) new words versions

-- the same of the calls that write them in a transaction
pub migrated_holds : {A E : Type 0} (s : roster.State) (begun last : State) (r : Result A E) → (HasCleanDisk begun → IsFirstBookOf s begun.now) → Changed (Migrates s) begun last r →
    IsLive last → HasCleanDisk last → IsOk r → IsBookOf s last.now
migrated_holds s begun last (Err e) found changed live clean is = absurd (cc)
migrated_holds s begun last (Ok a) found changed live clean is =
    let it = changed.done clean in
    let was = found (omega (arith, changed.left.clean)) in
    let fit = lifted_fit s was.first begun.now it.0.0 last.now was it.0.1 it.0.2 in
    record {
      database = (live it.1.is_open).0;
      tables = fit.0;
      stored = fit.1;
      rows = lifted_rows s was.first begun.now it.0.0 last.now was it.0.1 it.0.2;
    }

-- ---- The loop over the members

each_end : {V : Type 0} (Is : V → Database → Database → Type 0) (from : ℕ) (vs : List V) (v : V) (a b c : Database) → Each (λ _. Is) from vs a b → Is v b c → Each (λ _. Is) from (vs ++ v ∷ []) a c
each_end Is from [] v a b c is more = (c, subst (λ d. Is v d c) is more, refl)
each_end Is from (x ∷ xs) v a b c is more = (is.0, is.1, each_end Is (suc from) xs v is.0 b c is.2 more)

-- the rows of the first members are written, and these members are left
pub record PostsAdded (m : fin.FinMap name_cmp Member) (old now : State) (left : List (List ℕ × Member)) : Type 0 where
  pub done : List (List ℕ × Member)
  pub all : done ++ named_rows (λ id. id) left ≡ fin.entries m
  pub wrote : Wrote {A = Unit {0}} {E = StoreFault} (AddsPosts done) old now (Ok tt)

pub none_posted : (m : fin.FinMap name_cmp Member) (s : State) (members : List (List ℕ × Member)) → IsReady s → named_rows (λ id. id) members ≡ fin.entries m → PostsAdded m s s members
none_posted m s members ready all = record { done = []; all = all; wrote = each_start {E = StoreFault} (λ _ (member : List ℕ × Member). AddsPost member.0 member.1.base) [] s tt ready }

appended : {X : Type 0} (a : List X) (x : X) (b : List X) → (a ++ x ∷ []) ++ b ≡ a ++ x ∷ b
appended [] x b = refl
appended (y ∷ a) x b = ap (λ t. y ∷ t) (appended a x b)

pub post_added : {E : Type 0} (m : fin.FinMap name_cmp Member) (old mid new : State) (member : List ℕ × Member) (left : List (List ℕ × Member)) →
    PostsAdded m old mid (member ∷ left) → Wrote {A = Unit {0}} {E = E} (AddsPost member.0 member.1.base) mid new (Ok tt) → PostsAdded m old new left
post_added {E = E} m old mid new member left before more =
    let both = then_write old mid new tt (Ok tt) before.wrote more in
    record {
      done = before.done ++ member ∷ [];
      all = appended before.done member (named_rows (λ id. id) left) ∙ before.all;
      wrote = record {
        changed = record {
          done = λ clean.
              let it = both.changed.done clean in
              (each_end (λ (who : List ℕ × Member). AddsPost who.0 who.1.base) 0 before.done member old.now it.0.0 new.now it.0.1 it.0.2, it.1);
          kept = both.changed.kept;
          left = both.changed.left;
        };
        ready = more.ready;
      };
    }

ended : {X : Type 0} (a : List X) → a ≡ a ++ []
ended [] = refl
ended (x ∷ a) = ap (λ t. x ∷ t) (ended a)

pub posts_added : (m : fin.FinMap name_cmp Member) (old new : State) → PostsAdded m old new [] → Wrote {A = Unit {0}} {E = StoreFault} (AddsPosts (fin.entries m)) old new (Ok tt)
posts_added m old new it = subst (λ members. Wrote {A = Unit {0}} {E = StoreFault} (AddsPosts members) old new (Ok tt)) (ended it.done ∙ it.all) it.wrote
