-- A file of version 1 says all of a state too.
use Rattle.std.proofs.Common.{◌≡◌, ◌↔◌, inl, inr, refl, sym, ap, subst, ◌∙◌, ℕ, List, Some}
use Rattle.std.specs.FinMap as fin
use Rattle.values.specs.Name.{name_cmp}
use Rattle.sqlite_value.specs.Order.{Row, column}
use Rattle.sqlite.specs.Effect.{Database}
use Rattle.roster.specs.Bases.{Bases, home_zone, only_home}
use Rattle.roster.specs.State.{State}
use Rattle.roster.specs.declared.state.OutsideEntry.{OutsideEntry}
use Rattle.entries.proofs.Editions.{one_edition}
use Rattle.entries.proofs.SameStates.{crew_told, rows_say_all, database_holds_one_state}
use Rattle.entries.specs.SameRows.{HoldsOneOfEither, SameRows}
use Rattle.state_rows.proofs.Values.{text_is}
use Rattle.state_rows.specs.First.{IsFirst}
use Rattle.state_rows.specs.Rows.{At, FirstRows, InBase, InCrewBase, InTable, Rows, book, crew, pairing, period, segment, seat, ground_duty, exceedance, request, base, crew_base, outside, outside_segment, row_of_base, row_of_book, row_of_post}
use Rattle.state_rows.specs.declared.edition.Edition.TheVariants.{First, Second}

module _ (s t : State) (db : Database) (p : FirstRows s db) (q : FirstRows t db) (first : IsFirst s) (other : IsFirst t) where
  zone : home_zone s.bases ≡ home_zone t.bases
  zone = text_is (ap (λ (r : Row). column r 2) ((q book refl (row_of_book First (home_zone s.bases))).0 ((p book refl (row_of_book First (home_zone s.bases))).1 refl)))

  book_row_same : (row : Row) → row ≡ row_of_book Second (home_zone s.bases) → row ≡ row_of_book Second (home_zone t.bases)
  book_row_same row e = e ∙ ap (row_of_book Second) zone

  base_same : (row : Row) → InBase s row → InBase t row
  base_same row is = subst (λ (m : Bases). (at : At m) × (row ≡ row_of_base at.name at.value)) (first.bases ∙ ap only_home zone ∙ sym other.bases) is

  crew_base_same : (row : Row) → InCrewBase s row → InCrewBase t row
  crew_base_same row is =
      let at = is.0 in
      let alike = crew_told s t (λ r x. (q crew refl r).0 ((p crew refl r).1 x)) at.name at.value at.there in
      let based : at.value.base ≡ alike.other.base = first.members at.name at.value at.there ∙ sym (other.members at.name alike.other alike.there) in
      (record { name = at.name; value = alike.other; there = alike.there }, is.1 ∙ ap (row_of_post at.name) based)

-- a state that version 1 can say has no row of an outside period
no_outside : (s : State) → IsFirst s → (id : List ℕ) (o : OutsideEntry) → fin.get s.outsides id ≡ Some o → ⊥
no_outside s first id o there = absurd (let e = sym (ap (λ (x : fin.FinMap name_cmp OutsideEntry). fin.get x id) first.outsides ∙ fin.get-empty name_cmp id) ∙ there in cc)

same_rows : (s t : State) (db : Database) → FirstRows s db → FirstRows t db → IsFirst s → IsFirst t → SameRows s t
same_rows s t db p q first other name = elim name as (λ n. (row : Row) → InTable s n row ↔ InTable t n row) [
  | book ↦ λ row. (book_row_same s t db p q first other row, book_row_same t s db q p other first row)
  | crew ↦ λ row. (λ x. (q crew refl row).0 ((p crew refl row).1 x), λ x. (p crew refl row).0 ((q crew refl row).1 x))
  | pairing ↦ λ row. (λ x. (q pairing refl row).0 ((p pairing refl row).1 x), λ x. (p pairing refl row).0 ((q pairing refl row).1 x))
  | period ↦ λ row. (λ x. (q period refl row).0 ((p period refl row).1 x), λ x. (p period refl row).0 ((q period refl row).1 x))
  | segment ↦ λ row. (λ x. (q segment refl row).0 ((p segment refl row).1 x), λ x. (p segment refl row).0 ((q segment refl row).1 x))
  | seat ↦ λ row. (λ x. (q seat refl row).0 ((p seat refl row).1 x), λ x. (p seat refl row).0 ((q seat refl row).1 x))
  | ground_duty ↦ λ row. (λ x. (q ground_duty refl row).0 ((p ground_duty refl row).1 x), λ x. (p ground_duty refl row).0 ((q ground_duty refl row).1 x))
  | exceedance ↦ λ row. (λ x. (q exceedance refl row).0 ((p exceedance refl row).1 x), λ x. (p exceedance refl row).0 ((q exceedance refl row).1 x))
  | request ↦ λ row. (λ x. (q request refl row).0 ((p request refl row).1 x), λ x. (p request refl row).0 ((q request refl row).1 x))
  | base ↦ λ row. (base_same s t db p q first other row, base_same t s db q p other first row)
  | crew_base ↦ λ row. (crew_base_same s t db p q first other row, crew_base_same t s db q p other first row)
  | outside ↦ λ row. (λ x. absurd (no_outside s first x.0.name x.0.value x.0.there), λ x. absurd (no_outside t other x.0.name x.0.value x.0.there))
  | outside_segment ↦ λ row. (λ x. absurd (no_outside s first x.0.name x.0.value x.0.there), λ x. absurd (no_outside t other x.0.name x.0.value x.0.there))
]

not_both : (s t : State) (db : Database) → FirstRows s db → Rows t db → ⊥
not_both s t db p q = one_edition db (s, p book refl) (t, q book)

pub database_holds_one_of_either : HoldsOneOfEither
database_holds_one_of_either s t db ss st is it (inl p) (inl q) = rows_say_all s t ss st is it (same_rows s t db p.0 q.0 p.1 q.1)
database_holds_one_of_either s t db ss st is it (inl p) (inr q) = absurd (not_both s t db p.0 q)
database_holds_one_of_either s t db ss st is it (inr p) (inl q) = absurd (not_both t s db q.0 p)
database_holds_one_of_either s t db ss st is it (inr p) (inr q) = database_holds_one_state s t db ss st is it p q
