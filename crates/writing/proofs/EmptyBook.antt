-- The tables that `create` makes are those of a book with nothing but HOME.
use Rattle.std.proofs.Common.{◌≡◌, ◌⊎◌, ◌↔◌, inl, inr, sym, ap, subst, ◌∙◌, ℕ, List, [], Option, Some, None, Result, Ok, Err, IsOk, arith}
use Rattle.std.specs.FinMap as fin
use Rattle.std.specs.Option.{unwrap_or}
use Rattle.values.specs.Name.{name_cmp}
use Rattle.sqlite_value.specs.Order.{Row}
use Rattle.sqlite_rules.specs.Lists.{Has}
use Rattle.sqlite.specs.Effect.{Database, IsDatabase}
use Rattle.sqlite.specs.State.{State, HasCleanDisk, IsLive}
use Rattle.duty.specs.Shape.{home}
use Rattle.roster.proofs.Accepted.{insert_here, inserted}
use Rattle.roster.specs.Bases.{home_zone, only_home}
use Rattle.roster.specs.State.{empty}
use Rattle.tables.specs.Schema.{base_table, book_table, book_tables}
use Rattle.tables.specs.Rows.{Inserts}
use Rattle.state_rows.specs.declared.edition.Edition.TheVariants.{Second}
use Rattle.state_rows.specs.Rows.{At, StateTable, book, crew, pairing, period, segment, seat, ground_duty, exceedance, request, base, crew_base, outside, outside_segment, InTable, Rows, row_of_base, row_of_book}
use Rattle.writing.specs.Calls.{Changed, IsFit, Then}
use Rattle.state_rows.specs.Kept.{IsBookOf}
use Rattle.writing.specs.Making.{HasEmpty, MakesTables}
use Rattle.writing.proofs.Sets as sets
use Rattle.writing.proofs.Tables.{inserts_keep, just_made, no_rows, none_stored}
use Rattle.state_rows.proofs.EachTable.{is_book, of_all}

-- ---- The base HOME

-- the rows of some bases
abbrev pub OfBases : fin.FinMap name_cmp (List ℕ) → Row → Type 0
OfBases bases row = (at : At bases) × (row ≡ row_of_base at.name at.value)

pub nothing : {X : Type 0} (q : List ℕ) (x : X) → fin.get (fin.empty {X = X} {R = name_cmp}) q ≡ Some x → ⊥
nothing {X} q x e = let no : None ≡ Some x = sym (fin.get-empty {X = X} name_cmp q) ∙ e in cc

-- where it is the only one
pub home_row : (zone : List ℕ) (row : Row) → ((row ≡ row_of_base home zone) ⊎ ⊥) ↔ OfBases (only_home zone) row
home_row zone row = (
  λ h. elim h [ inl is ↦ (record { name = home; value = zone; there = insert_here fin.empty home zone }, is) | inr none ↦ absurd none ],
  λ h. elim (inserted fin.empty home zone h.0.name h.0.value h.0.there) [
    | inl it ↦ inl (h.1 ∙ (λ i. row_of_base (it.0 i) (sym it.1 i)))
    | inr was ↦ absurd (nothing _ _ was.1)
  ],
)

pub only_zone : (zone : List ℕ) → home_zone (only_home zone) ≡ zone
only_zone zone = ap (λ (at : Option (List ℕ)). unwrap_or at []) (insert_here fin.empty home zone)

-- ---- Tables that were just made

-- no table has a row
abbrev pub NoRows : sets.Sets
NoRows name row = ⊥

module _ (mid : Database) (made : HasEmpty book_tables mid) where
  made_fit : IsFit mid
  made_fit = (is_book mid.schema (λ a. just_made mid book_tables made a (λ P it. of_all P it a)), λ a. none_stored mid book_tables made a (λ P it. of_all P it a))

  none_shown : sets.Shows NoRows mid
  none_shown name row = (λ h. subst (λ (rows : List Row). Has rows row) (no_rows mid book_tables made name (λ P it. of_all P it name)) h, λ none. absurd none)

-- no table but `book` and `base` has a row of the empty book
empty_words : (zone : List ℕ) (name : StateTable) (row : Row) →
    sets.put base (λ x. (x ≡ row_of_base home zone) ⊎ ⊥) (sets.put book (λ x. (x ≡ row_of_book Second zone) ⊎ ⊥) NoRows) name row ↔ InTable (empty zone) name row
empty_words zone book row = (
  λ h. elim h [ inl is ↦ is ∙ ap (row_of_book Second) (sym (only_zone zone)) | inr none ↦ absurd none ],
  λ is. inl (is ∙ ap (row_of_book Second) (only_zone zone)),
)
empty_words zone base row = home_row zone row
empty_words zone crew row = (λ none. absurd none, λ is. nothing _ _ is.0.there)
empty_words zone pairing row = (λ none. absurd none, λ is. nothing _ _ is.0.there)
empty_words zone period row = (λ none. absurd none, λ is. nothing _ _ is.0.there)
empty_words zone segment row = (λ none. absurd none, λ is. nothing _ _ is.0.there)
empty_words zone seat row = (λ none. absurd none, λ is. nothing _ _ is.0.there)
empty_words zone ground_duty row = (λ none. absurd none, λ is. nothing _ _ is.0.there)
empty_words zone exceedance row = (λ none. absurd none, λ is. nothing _ _ is.0.there)
empty_words zone request row = (λ none. absurd none, λ is. nothing _ _ is.0.there)
empty_words zone crew_base row = (λ none. absurd none, λ is. nothing _ _ is.0.there)
empty_words zone outside row = (λ none. absurd none, λ is. nothing _ _ is.0.there)
empty_words zone outside_segment row = (λ none. absurd none, λ is. nothing _ _ is.0.there)

module _ (zone : List ℕ) (made booked new : Database) (it : HasEmpty book_tables made) (first : Inserts book_table (row_of_book Second zone) made booked)
    (then : Inserts base_table (row_of_base home zone) booked new) where
  booked_fit : IsFit booked
  booked_fit = inserts_keep book (row_of_book Second zone) made booked (made_fit made it) first

  new_fit : IsFit new
  new_fit = inserts_keep base (row_of_base home zone) booked new booked_fit then

  empty_rows : Rows (empty zone) new
  empty_rows =
      let one = sets.inserted book made booked (made_fit made it) NoRows (none_shown made it) (row_of_book Second zone) first in
      let two = sets.inserted base booked new booked_fit _ one (row_of_base home zone) then in
      sets.shows_as _ _ new (empty_words zone) two

  pub empty_book : IsDatabase new → IsBookOf (empty zone) new
  empty_book database = record { database = database; tables = new_fit.0; stored = new_fit.1; rows = empty_rows }

-- the same of the calls that make it in a transaction
pub made_holds : {A E : Type 0} (zone text : List ℕ) (homes : Row) (begun last : State) (r : Result A E) → text ≡ zone → homes ≡ row_of_base home zone → (HasCleanDisk begun → HasEmpty [] begun.now) →
    Changed (Then (MakesTables book_tables) (Then (Inserts book_table (row_of_book Second text)) (Inserts base_table homes))) begun last r →
    IsLive last → HasCleanDisk last → IsOk r → IsBookOf (empty zone) last.now
made_holds zone text homes begun last (Err fault) same base_is fresh changed live clean is = absurd (cc)
made_holds zone text homes begun last (Ok a) same base_is fresh changed live clean is =
    let it = changed.done clean in
    let book_row = subst (λ z. Inserts book_table (row_of_book Second z) it.0.0 it.0.2.0) same it.0.2.1 in
    let base_row = subst (λ row. Inserts base_table row it.0.2.0 last.now) base_is it.0.2.2 in
    empty_book zone it.0.0 it.0.2.0 last.now (it.0.1.empty [] (fresh (omega (arith, changed.left.clean)))) book_row base_row (live it.1.is_open).0
