-- What each table has, and what a change of one table makes of that.
use Rattle.std.proofs.Common.{◌≡◌, ◌⊎◌, ◌↔◌, inl, inr, refl, sym, subst, Bool, true, false, List}
use Rattle.sqlite_value.specs.Order.{Row}
use Rattle.sqlite_rules.specs.Lists.{Has}
use Rattle.sqlite.specs.Effect.{Database}
use Rattle.tables.specs.Rows.{Changes, Inserts, Deletes, Updates}
use Rattle.writing.specs.Calls.{IsFit}
use Rattle.state_rows.specs.Rows.{StateTable, table, HasJust}
use Rattle.writing.proofs.Tables.{is_same, same_name, rows_stay}

-- a set of rows for each table
abbrev pub Sets : Type 1
Sets = StateTable → Row → Type 0

abbrev pub Shows : Sets → Database → Type 0
Shows sets db = (name : StateTable) → HasJust (table name) db (sets name)

-- one of the sets is another
abbrev pub put : StateTable → (Row → Type 0) → Sets → Sets
put a P sets b = elim (is_same a b) as (λ _. Row → Type 0) [ true ↦ P | false ↦ sets b ]

module _ (a : StateTable) (old new : Database) (fit : IsFit old) (sets : Sets) (shows : Shows sets old) where
  pub changed : (Is P : Row → Type 0) → Changes (table a) old new Is → ((row : Row) → Is row ↔ P row) → Shows (put a P sets) new
  changed Is P changes same b =
      elim (is_same a b) as (λ t. is_same a b ≡ t → HasJust (table b) new (elim t as (λ _. Row → Type 0) [ true ↦ P | false ↦ sets b ])) [
        | true ↦ λ is. subst (λ n. HasJust (table n) new P) (same_name a b is) (λ row. (λ h. (same row).0 (changes.has row h), λ p. changes.all row ((same row).1 p)))
        | false ↦ λ differ. subst (λ (rows : List Row). (row : Row) → Has rows row ↔ sets b row) (sym (rows_stay old new fit.0 a Is changes b differ)) (shows b)
      ] refl

  pub inserted : (row : Row) → Inserts (table a) row old new → Shows (put a (λ x. (x ≡ row) ⊎ sets a x) sets) new
  inserted row inserts = changed _ _ inserts (λ x. (
    λ h. elim h [ inl now ↦ inl now | inr was ↦ inr ((shows a x).0 was) ],
    λ h. elim h [ inl now ↦ inl now | inr was ↦ inr ((shows a x).1 was) ],
  ))

  pub deleted : (test : Row → Bool) → Deletes (table a) test old new → Shows (put a (λ x. sets a x × (test x ≡ false)) sets) new
  deleted test deletes = changed _ _ (deletes (fit.1 a)) (λ x. (λ h. ((shows a x).0 h.0, h.1), λ h. ((shows a x).1 h.0, h.1)))

  pub updated : (test : Row → Bool) (change : Row → Row) → Updates (table a) test change old new →
      Shows (put a (λ x. ((was : Row) × sets a was × (test was ≡ true) × (x ≡ change was)) ⊎ (sets a x × (test x ≡ false))) sets) new
  updated test change updates = changed _ _ (updates (fit.1 a)) (λ x. (
    λ h. elim h [ inl it ↦ inl (it.0, (shows a it.0).0 it.1, it.2, it.3) | inr was ↦ inr ((shows a x).0 was.0, was.1) ],
    λ h. elim h [ inl it ↦ inl (it.0, (shows a it.0).1 it.1, it.2, it.3) | inr was ↦ inr ((shows a x).1 was.0, was.1) ],
  ))

-- the same sets in other words
pub shows_as : (sets other : Sets) (db : Database) → ((name : StateTable) (row : Row) → sets name row ↔ other name row) → Shows sets db → Shows other db
shows_as sets other db same shows name row = (λ h. (same name row).0 ((shows name row).0 h), λ h. (shows name row).1 ((same name row).1 h))
