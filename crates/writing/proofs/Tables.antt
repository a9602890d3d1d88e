-- The tables of the book are thirteen, each with rows of its own. Nothing else of this crate looks at how they are declared.
use Rattle.std.proofs.Common.{◌≡◌, ◌≢◌, refl, sym, ap, subst, ◌∙◌, ℕ, Bool, true, false, List, [], ◌∷◌, map, nat_eq, eq-eqb, bytes_eq}
use Rattle.std.specs.Prelude.{slice_index_or, unwrap_or}
use Rattle.std.specs.List.{AllByRecursion, position_from}
use Rattle.std.proofs.lemmas.Bool.{true≢false, eqb-true}
use Rattle.sqlite_value.specs.Order.{Row}
use Rattle.sqlite.specs.Effect.{Database}
use Rattle.tables.specs.Schema.{BookTable, IsBook, IsOfBook, IsTable, IsUnreferenced, OnlyKeysGuard, book_tables}
use Rattle.tables.specs.Rows.{AreNumbered, IsStored, Changes, Inserts, Deletes, Updates, cells, rows_of, stored}
use Rattle.writing.specs.Calls.{IsFit}
use Rattle.writing.specs.Making.{HasEmpty}
use Rattle.state_rows.specs.Rows.{StateTable, book, crew, pairing, period, segment, seat, ground_duty, exceedance, request, base, crew_base, outside, outside_segment, table}
use Rattle.writing.proofs.Chaining.{Keeps}
use Rattle.state_rows.proofs.EachTable.{of_all, is_there}

-- ---- Names

abbrev place : StateTable → ℕ
place book = 0
place crew = 1
place pairing = 2
place period = 3
place segment = 4
place seat = 5
place ground_duty = 6
place exceedance = 7
place request = 8
place base = 9
place crew_base = 10
place outside = 11
place outside_segment = 12

abbrev pub is_same : StateTable → StateTable → Bool
is_same a b = nat_eq (place a) (place b)

name_at : ℕ → StateTable
name_at n = slice_index_or (book ∷ crew ∷ pairing ∷ period ∷ segment ∷ seat ∷ ground_duty ∷ exceedance ∷ request ∷ base ∷ crew_base ∷ outside ∷ outside_segment ∷ []) n book

named : (a : StateTable) → name_at (place a) ≡ a
unfolding name_at
named book = refl
named crew = refl
named pairing = refl
named period = refl
named segment = refl
named seat = refl
named ground_duty = refl
named exceedance = refl
named request = refl
named base = refl
named crew_base = refl
named outside = refl
named outside_segment = refl

pub same_name : (a b : StateTable) → is_same a b ≡ true → a ≡ b
same_name a b same = sym (named a) ∙ ap name_at (eqb-true (place a) (place b) same) ∙ named b

place_of : List ℕ → ℕ
place_of name = unwrap_or (position_from (λ (t : BookTable). bytes_eq t.name name) 0 book_tables) 0

at_place : (a : StateTable) → place_of (table a).name ≡ place a
unfolding place_of
at_place book = refl
at_place crew = refl
at_place pairing = refl
at_place period = refl
at_place segment = refl
at_place seat = refl
at_place ground_duty = refl
at_place exceedance = refl
at_place request = refl
at_place base = refl
at_place crew_base = refl
at_place outside = refl
at_place outside_segment = refl

-- two tables have two names
apart : (a b : StateTable) → is_same a b ≡ false → (table b).name ≢ (table a).name
apart a b differ e = true≢false (sym (eq-eqb _ _ (sym (at_place a) ∙ ap place_of (sym e) ∙ at_place b)) ∙ differ)

-- ---- A fact of each table

module _ (old new : Database) (tables : IsBook old.schema) (a : StateTable) (Is : Row → Type 0) (changes : Changes (table a) old new Is) (b : StateTable) (differ : is_same a b ≡ false) where
  tree_stays : stored (table b) new ≡ stored (table b) old
  tree_stays = changes.keeps (table b) (is_there old.schema tables b) (apart a b differ)

  -- a change of one table leaves each other one as it was
  pub rows_stay : rows_of (table b) new ≡ rows_of (table b) old
  rows_stay = ap (map (cells (table b))) tree_stays

  pub stored_stays : IsStored (table b) old → IsStored (table b) new
  stored_stays numbered = subst AreNumbered (sym tree_stays) numbered

-- a change of one table leaves the tables of a book
pub fit_after : (old new : Database) → IsFit old → (a : StateTable) (Is : Row → Type 0) → Changes (table a) old new Is → IsFit new
fit_after old new fit a Is changes = (
  subst IsBook (sym changes.schema) fit.0,
  λ b. elim (is_same a b) as (λ t. is_same a b ≡ t → IsStored (table b) new) [
    | true ↦ λ same. subst (λ n. IsStored (table n) new) (same_name a b same) (changes.stored (fit.1 a))
    | false ↦ λ differ. stored_stays old new fit.0 a Is changes b differ (fit.1 b)
  ] refl,
)

pub inserts_keep : (a : StateTable) (row : Row) → Keeps (Inserts (table a) row)
inserts_keep a row old new fit inserts = fit_after old new fit a _ inserts

pub deletes_keep : (a : StateTable) (test : Row → Bool) → Keeps (Deletes (table a) test)
deletes_keep a test old new fit deletes = fit_after old new fit a _ (deletes (fit.1 a))

pub updates_keep : (a : StateTable) (test : Row → Bool) (change : Row → Row) → Keeps (Updates (table a) test change)
updates_keep a test change old new fit updates = fit_after old new fit a _ (updates (fit.1 a))

-- ---- Tables that were just made

module _ (db : Database) (made : List BookTable) (it : HasEmpty made db) (a : StateTable) (of : (P : BookTable → Type 0) → AllByRecursion P made → P (table a)) where
  is_empty : IsTable (table a) db.schema × (stored (table a) db ≡ [])
  is_empty = of (λ t. IsTable t db.schema × (stored t db ≡ [])) it.there

  pub just_made : IsOfBook (table a) db.schema
  just_made = (is_empty.0, (of_all (λ t. IsUnreferenced t db.schema) it.unreferenced a, of (λ t. OnlyKeysGuard t.name db.schema) it.guarded))

  pub no_rows : rows_of (table a) db ≡ []
  no_rows = ap (map (cells (table a))) is_empty.1

  none_numbered : AreNumbered []
  none_numbered = record { numbered = λ r h. absurd h; apart = tt }

  pub none_stored : IsStored (table a) db
  none_stored = subst AreNumbered (sym is_empty.1) none_numbered
