-- A database is of one version. The tables that version 2 added are right in a file of version 2, and their names are free in one of version 1.
use Rattle.std.proofs.Common.{◌≡◌, ◌⊎◌, inl, inr, refl, ap, arith}
use Rattle.std.specs.List.{AllByRecursion}
use Rattle.sqlite_value.specs.Order.{Row, column}
use Rattle.sqlite.specs.Effect.{Database}
use Rattle.roster.specs.Bases.{home_zone}
use Rattle.roster.specs.State.{State}
use Rattle.tables.specs.Rows.{IsStored}
use Rattle.tables.specs.Schema.{IsOfBook, outside_table, IsNameFree}
use Rattle.entries.specs.Right.{AreOutsides, AreOutsidesMade, AreRight, AreRightAbove, IsLaterOfState, IsOfEdition, IsRight, IsTableOfState, down_to}
use Rattle.state_rows.proofs.Values.{number_is}
use Rattle.state_rows.specs.Rows.{StateTable, request, base, crew_base, outside, outside_segment, table, row_of_book}
use Rattle.state_rows.specs.declared.edition.Edition.TheVariants.{First, Second}

-- a database is of one version
pub one_edition : (db : Database) → IsOfEdition First db → IsOfEdition Second db → ⊥
one_edition db first second =
    let row = row_of_book First (home_zone first.0.bases) in
    let is = (second.1 row).0 ((first.1 row).1 refl) in
    let same : 1 ≡ 2 = number_is (ap (λ (r : Row). column r 1) is) in
    omega (arith, same)

-- ---- One table after another

-- of two tables that are looked at in turn: what the second is beside the first in a file of version 2, that in one of version 1 its name is free, and that its rows are those that the tables above give
pub record IsNext (above it : StateTable) (Has : State → Database → Type 0) : Type 0 where
  pub split : (s : State) (db : Database) → IsRight it s db → IsRight above s db × ((IsOfEdition Second db × Has s db) ⊎ (IsOfEdition First db × IsNameFree (table it) db.schema))
  pub over : (db : Database) → AreRight above db → AreRightAbove it db
  pub stored : (db : Database) → IsStored (table it) db → AllByRecursion (λ n. IsStored (table n) db) (down_to above) → AllByRecursion (λ n. IsStored (table n) db) (down_to it)

pub next_base : IsNext request base (IsTableOfState base)
next_base = record {
  split = λ s db right. (right.0, right.1);
  over = λ db right. right;
  stored = λ db now above. (now, above);
}

pub next_crew_base : IsNext base crew_base (IsTableOfState crew_base)
next_crew_base = record {
  split = λ s db right. (right.0, right.1);
  over = λ db right. right;
  stored = λ db now above. (now, above);
}

-- the table `outside` is there, and fits the members and exceedances of the state
abbrev pub FitsOutside : State → Database → Type 0
FitsOutside s db = IsOfBook outside_table db.schema × AreOutsides s db

pub next_outside : IsNext crew_base outside FitsOutside
next_outside = record {
  split = λ s db right. (
    right.0,
    elim right.1 as (λ _. (IsOfEdition Second db × FitsOutside s db) ⊎ (IsOfEdition First db × IsNameFree (table outside) db.schema)) [
      | inl is ↦ inl (is.0, (is.1, is.2))
      | inr is ↦ inr is
    ],
  );
  over = λ db right. right;
  stored = λ db now above. (now, above);
}

-- both tables of outside periods have just the rows of the state, whose outside periods are such as `Outside::new` makes
abbrev pub HasBothOutside : State → Database → Type 0
HasBothOutside s db = IsTableOfState outside s db × IsTableOfState outside_segment s db × AreOutsidesMade s

outside_of_second : (s : State) (db : Database) → IsOfEdition Second db → IsLaterOfState outside s db → IsTableOfState outside s db
outside_of_second s db second (inl is) = is.1
outside_of_second s db second (inr is) = absurd (one_edition db is.0 second)

pub next_outside_segment : IsNext outside outside_segment HasBothOutside
next_outside_segment = record {
  split = λ s db right. (
    right.0,
    elim right.2 as (λ _. (IsOfEdition Second db × HasBothOutside s db) ⊎ (IsOfEdition First db × IsNameFree (table outside_segment) db.schema)) [
      | inl is ↦ inl (is.0, (outside_of_second s db is.0 right.1, is.1, right.3))
      | inr is ↦ inr is
    ],
  );
  over = λ db right. right;
  stored = λ db now above. (now, above);
}

-- ---- In a file of version 2

-- what the table is, with a state whose tables are right down to it
pub its_table : (above it : StateTable) {Has : State → Database → Type 0} → IsNext above it Has → (s : State) (db : Database) → IsOfEdition Second db → IsRight it s db → Has s db
its_table above it next s db second right = elim (next.split s db right).1 [
  | inl is ↦ is.1
  | inr is ↦ absurd (one_edition db is.0 second)
]
