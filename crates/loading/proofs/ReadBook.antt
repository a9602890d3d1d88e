-- The table `book`: what its one row says, and when it is right.
use Rattle.std.proofs.Common.{◌≡◌, ◌⊎◌, ◌↔◌, inl, inr, refl, sym, ap, subst, ◌∙◌, arith, ℕ, ℤ, zero, suc, pos, ◌<◌, true, false, List, [], ◌∷◌, map, slice_get, ◌+◌, length, Some, None, Result, Ok, Err, MatchResult, IsUtf8}
use Rattle.std.proofs.lemmas.Option.{slice_get_within}
use Rattle.sqlite_value.specs.declared.value.Value.TheVariants.{Int}
use Rattle.sqlite_value.specs.Order.{Row, column}
use Rattle.sqlite_rules.specs.Lists.{Has}
use Rattle.sqlite.specs.Effect.{Database}
use Rattle.sqlite.specs.State.{HasCleanDisk, IsUnchanged}
use Rattle.sqlite.specs.State as conn
use Rattle.time117.specs.Local.{is_zone_text}
use Rattle.roster.specs.Bases.{home_zone}
use Rattle.roster.specs.State.{State, empty}
use Rattle.tables.specs.Calls.{CrashLeavesNoMore}
use Rattle.tables.specs.Records.{IsBookRow, book_row}
use Rattle.tables.specs.Rows.{rows_of}
use Rattle.tables.specs.declared.book.BookRecord.{BookRecord}
use Rattle.loading.proofs.Homes.{begun, begun_empty}
use Rattle.entries.proofs.Mapping.{mapped_at}
use Rattle.loading.proofs.Telling.{nothing_left, unread}
use Rattle.state_rows.proofs.Values.{text_is}
use Rattle.loading.specs.Loading.{IsCaused, IsNoBook, IsOfOtherVersion, IsDamaged, Justifies, state_table}
use Rattle.entries.specs.Right.{AreRight}
use Rattle.loading.specs.Reading.{AgreesIn, ReadsAs, BlamesBook, BlamesOrFails, HasRows, IsEditionNumber, IsNoBookRow, IsOnly, IsUnreadable, book_of}
use Rattle.state_rows.specs.Editions.{edition_number}
use Rattle.state_rows.specs.Rows.{book, table}
use Rattle.state_rows.specs.declared.fault.StoreFault.TheVariants.{Memory, Store}
use Rattle.state_rows.specs.declared.edition.Edition.{Edition}
use Rattle.state_rows.specs.declared.edition.Edition.TheVariants.{First, Second}
use Rattle.entries.specs.declared.fault.LoadFault.{LoadFault}
use Rattle.entries.specs.declared.fault.LoadFault.TheVariants.{NotABook, Version, Damaged, Fault}
use Rattle.entries.specs.declared.fault.TableName.TheVariants as table_name
use Rattle.entries.proofs.RightRows.{book_rows}

-- ---- One record

ints_same : {a b : _} → Int a ≡ Int b → a ≡ b
ints_same e = cc

pub one_record : (a b : BookRecord) → book_row a ≡ book_row b → a ≡ b
one_record a b e =
    let at_column = λ (k : ℕ). ap (λ (row : Row). column row k) e in
    let one : a.one ≡ b.one = ints_same (at_column 0) in
    let version : a.version ≡ b.version = ints_same (at_column 1) in
    let zone : a.zone ≡ b.zone = text_is (at_column 2) in
    λ i. record { one = one i; version = version i; zone = zone i }

pub same_record : (a b : BookRecord) → a.one ≡ b.one → a.version ≡ b.version → a.zone ≡ b.zone → a ≡ b
same_record a b one version zone = λ i. record { one = one i; version = version i; zone = zone i }

lower : (i n : ℕ) → i < n + 1 → (i < n) ⊎ (i ≡ n)
lower zero zero less = inr refl
lower zero (suc n) less = inl (omega arith)
lower (suc i) zero less = absurd (omega (arith, less))
lower (suc i) (suc n) less = elim (lower i n (omega (arith, less))) [ inl b ↦ inl (omega (arith, b)) | inr e ↦ inr (ap suc e) ]

within : (records : List BookRecord) (i : ℕ) (o : BookRecord) → slice_get records i ≡ Some o → i < length records
within records i o there = slice_get_within records i o there

-- this many first records are this one
pub record AreSame (records : List BookRecord) (count : ℕ) (it : BookRecord) : Type 0 where
  pub same : (i : ℕ) (other : BookRecord) → i < count → slice_get records i ≡ Some other → other ≡ it

pub none_same : (records : List BookRecord) (it : BookRecord) → AreSame records 0 it
none_same records it = record { same = λ i other less here. absurd (omega arith) }

pub next_same : (records : List BookRecord) (count : ℕ) (it other : BookRecord) → slice_get records count ≡ Some other → other ≡ it → AreSame records count it → AreSame records (count + 1) it
next_same records count it other here is before = record {
  same = λ i o less there. elim (lower i count less) [
    | inl below ↦ before.same i o below there
    | inr at ↦ (let e : Some o ≡ Some other = sym there ∙ ap (slice_get records) at ∙ here in let same : o ≡ other = cc in same ∙ is)
  ];
}

rows_of_first : (records : List BookRecord) (it : BookRecord) → ((i : ℕ) (other : BookRecord) → slice_get records i ≡ Some other → other ≡ it) → (row : Row) → Has (map book_row records) row → row ≡ book_row it
rows_of_first [] it same row h = absurd h
rows_of_first (x ∷ xs) it same row (inl e) = e ∙ ap book_row (same 0 x refl)
rows_of_first (x ∷ xs) it same row (inr h) = rows_of_first xs it (λ i o there. same (suc i) o there) row h

pub is_only : (records : List BookRecord) (it : BookRecord) → slice_get records 0 ≡ Some it → AreSame records (length records) it → IsOnly records it
is_only records it first all = record {
  all = λ row. (
    rows_of_first records it (λ i o there. all.same i o (within records i o there) there) row,
    λ e. subst (Has (map book_row records)) (sym e) (mapped_at book_row records 0 it first),
  );
}

pub nothing_only : (records : List BookRecord) → slice_get records 0 ≡ None → (it : BookRecord) → IsOnly records it → ⊥
nothing_only [] none it only = (only.all (book_row it)).1 refl
nothing_only (x ∷ xs) none it only = absurd (cc)

pub other_only : (records : List BookRecord) (i j : ℕ) (a b it : BookRecord) → slice_get records i ≡ Some a → slice_get records j ≡ Some b → (a ≡ b → ⊥) → IsOnly records it → ⊥
other_only records i j a b it first second apart only =
    apart (one_record a b ((only.all (book_row a)).0 (mapped_at book_row records i a first) ∙ sym ((only.all (book_row b)).0 (mapped_at book_row records j b second))))

-- ---- What the one record says

only_one : (records : List BookRecord) (a b : BookRecord) → IsOnly records a → IsOnly records b → a ≡ b
only_one records a b x y = one_record a b ((y.all (book_row a)).0 ((x.all (book_row a)).1 refl))

pub no_row : (records : List BookRecord) → ((it : BookRecord) → IsOnly records it → ⊥) → IsNoBookRow records
no_row records none it only = absurd (none it only)

pub no_edition : (number : ℤ) → (number ≡ pos 1 → ⊥) → (number ≡ pos 2 → ⊥) → IsEditionNumber number → ⊥
no_edition number one two (First, e) = one e
no_edition number one two (Second, e) = two e

pub other_number : (records : List BookRecord) (it : BookRecord) (edition : Edition) → IsOnly records it → it.version ≡ pos (edition_number edition) → (it.one ≡ pos 1 → ⊥) → IsNoBookRow records
other_number records it edition is version none other only =
    let same = only_one records it other is only in
    ((edition, ap (λ (r : BookRecord). r.version) (sym same) ∙ version), λ e. absurd (none (ap (λ (r : BookRecord). r.one) same ∙ e)))

pub no_zone : (records : List BookRecord) (it : BookRecord) (edition : Edition) → IsOnly records it → it.version ≡ pos (edition_number edition) → is_zone_text it.zone ≡ false → IsNoBookRow records
no_zone records it edition is version none other only =
    let same = only_one records it other is only in
    ((edition, ap (λ (r : BookRecord). r.version) (sym same) ∙ version), λ e. ap (λ (r : BookRecord). is_zone_text r.zone) (sym same) ∙ none)

pub of_book : (records : List BookRecord) (it : BookRecord) (edition : Edition) (zone : List ℕ) → IsOnly records it → it.version ≡ pos (edition_number edition) → it.one ≡ pos 1 → zone ≡ it.zone → IsOnly records (book_of edition zone)
of_book records it edition zone is version one same = subst (IsOnly records) (λ i. record { one = one i; version = version i; zone = sym same i }) is

pub begun_of : (records : List BookRecord) (it : BookRecord) (edition : Edition) (zone : List ℕ) (r : State) → IsOnly records it → it.version ≡ pos (edition_number edition) → it.one ≡ pos 1 → zone ≡ it.zone →
    is_zone_text it.zone ≡ true → r ≡ empty zone → (r ≡ empty (home_zone r.bases)) × IsOnly records (book_of edition (home_zone r.bases)) × (is_zone_text (home_zone r.bases) ≡ true)
begun_of records it edition zone r only version one same text is =
    let home = begun r zone is ∙ same in
    (begun_empty r zone is, of_book records it edition (home_zone r.bases) only version one home, ap is_zone_text home ∙ text)

-- ---- The table

-- the rows are as many records
only_rows : (db : Database) (records : List BookRecord) (it : BookRecord) → HasRows book db (map book_row records) → IsOnly records it → (row : Row) → Has (rows_of (table book) db) row ↔ (row ≡ book_row it)
only_rows db records it read only row = (λ h. (only.all row).0 ((read.all row).0 h), λ e. (read.all row).1 ((only.all row).1 e))

pub not_unreadable : (db : Database) → IsUnreadable book IsBookRow db → AreRight book db → ⊥
not_unreadable db (inl none) right = none right.1.0.0
not_unreadable db (inr x) right = x.3 (book_rows db x.0 x.1 right)

not_other : (db : Database) → IsUnreadable book IsBookRow db → IsOfOtherVersion db → ⊥
not_other db (inl none) other = none other.there
not_other db (inr x) other = x.3 (other.it, other.utf8, (other.one_row x.0).0 x.1)

module _ (db : Database) (there : IsNoBook db → ⊥) where
  pub unreadable : IsUnreadable book IsBookRow db → IsDamaged book db
  unreadable why = record { book = there; version = not_other db why; above = tt; damaged = not_unreadable db why }

  module _ (records : List BookRecord) (read : HasRows book db (map book_row records)) where
    -- just one record, if the table has just one row
    told_only : (it : BookRecord) → ((row : Row) → Has (rows_of (table book) db) row ↔ (row ≡ book_row it)) → IsOnly records it
    told_only it just = record { all = λ row. (λ h. (just row).0 ((read.all row).1 h), λ e. (read.all row).0 ((just row).1 e)) }

    pub no_book_row : IsNoBookRow records → IsDamaged book db
    no_book_row none = record {
      book = there;
      version = λ other. let known = (none other.it (told_only other.it other.one_row)).0 in other.other known.0 known.1;
      above = tt;
      damaged = λ right.
          let it = book_of right.1.0.1.0 (home_zone right.0.bases) in
          absurd (let f = sym ((none it (told_only it right.1.0.1.1)).1 refl) ∙ right.1.1 in cc);
    }

    pub other_version : (it : BookRecord) → IsOnly records it → IsUtf8 it.zone → (IsEditionNumber it.version → ⊥) → IsOfOtherVersion db
    other_version it only utf8 other = record { there = read.there; it = it; utf8 = utf8; one_row = only_rows db records it read only; other = λ edition e. other (edition, e) }

    pub right : (r : State) (edition : Edition) → IsOnly records (book_of edition (home_zone r.bases)) → is_zone_text (home_zone r.bases) ≡ true → AgreesIn edition book r db
    right r edition only zone =
        let just = only_rows db records (book_of edition (home_zone r.bases)) read only in
        record {
          through = record {
            stored = (read.stored, tt);
            book = there;
            version = λ other. other.other edition (ap (λ (x : BookRecord). x.version) (only_one records other.it (book_of edition (home_zone r.bases)) (told_only other.it other.one_row) only));
            right = ((read.there, (edition, just)), zone);
          };
          of = (r, just);
        }

-- ---- The call

abbrev pub Now : Database → State × Edition → Type 0
Now db r = AgreesIn r.1 book r.0 db

-- a refusal of the records of the table is no fault of the store
no_store : (records : List BookRecord) (fault : LoadFault) → BlamesBook records fault → fault ≡ Fault Store → ⊥
no_store records NotABook blame is = blame
no_store records Version blame is = cc
no_store records (Damaged other) blame is = cc
no_store records (Fault fault) memory is = let no : Fault Memory ≡ Fault Store = ap Fault (sym memory) ∙ is in cc

module _ (old new : conn.State) (there : IsNoBook old.now → ⊥) where
  pub not_read : (fault : LoadFault) → (HasCleanDisk new → BlamesOrFails table_name.Book (IsUnreadable book IsBookRow old.now) fault) → (HasCleanDisk new → IsCaused old new fault) → CrashLeavesNoMore old new →
      ReadsAs (Now old.now) (λ f. Justifies f old.now) old new (Err fault)
  not_read fault told caused left = unread table_name.Book _ (Now old.now) old new fault (λ clean. unreadable old.now there) told caused left

  said : (records : List BookRecord) → HasRows book old.now (map book_row records) → (fault : LoadFault) → BlamesBook records fault → Justifies fault old.now
  said records read NotABook blame = absurd blame
  said records read Version blame = other_version old.now there records read blame.0 blame.1 blame.2 blame.3
  said records read (Damaged other) blame = subst (λ t. IsDamaged (state_table t) old.now) (sym blame.0) (no_book_row old.now there records read blame.1)
  said records read (Fault fault) blame = tt

  pub is_read : (records seen : List BookRecord) (result : Result (State × Edition) LoadFault) → seen ≡ records →
      (HasCleanDisk new → IsUnchanged old new × HasRows book old.now (map book_row records)) → CrashLeavesNoMore old new →
      MatchResult result (λ r. (r.0 ≡ empty (home_zone r.0.bases)) × IsOnly seen (book_of r.1 (home_zone r.0.bases)) × (is_zone_text (home_zone r.0.bases) ≡ true)) (BlamesBook seen) →
      ReadsAs (Now old.now) (λ f. Justifies f old.now) old new result
  is_read records seen (Ok r) same saw left done = record {
    told = λ clean. let it = saw clean in (it.0, right old.now there records it.1 r.0 r.1 (subst (λ l. IsOnly l (book_of r.1 (home_zone r.0.bases))) same done.1) done.2);
    caused = λ clean. tt;
    left = left;
  }
  is_read records seen (Err fault) same saw left blame = record {
    told = λ clean. said records (saw clean).1 fault (subst (λ l. BlamesBook l fault) same blame);
    caused = λ clean is. absurd (no_store seen fault blame is);
    left = left;
  }

pub no_book : (s : conn.State) → IsNoBook s.now → ReadsAs (Now s.now) (λ f. Justifies f s.now) s s (Err NotABook)
no_book s none = record { told = λ clean. none; caused = λ clean is. absurd (cc); left = nothing_left s }
