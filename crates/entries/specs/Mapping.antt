-- A map that is read from rows, and what a row gives.
use Rattle.std.specs.Prelude.{◌≡◌, ℕ, List, Option, None, Some}
use Rattle.std.specs.FinMap as fin
use Rattle.values.specs.Name.{name_cmp}
use Rattle.sqlite_value.specs.Order.{Row}
use Rattle.sqlite_rules.specs.Lists.{Has}

-- a map has a value under the name of an index
pub record Under {I V : Type 0} (name : I → List ℕ) (m : fin.FinMap name_cmp V) : Type 0 where
  pub index : I
  pub value : V
  pub there : fin.get m (name index) ≡ Some value

-- the rows are just those of the values that the map has, and `Is` holds of each value
pub record Mapped {I V : Type 0}
    (name : I → List ℕ) (row_of : I → V → Row) (Is : I → V → Type 0) (rows : List Row)
    (m : fin.FinMap name_cmp V) : Type 0 where
  pub has : (row : Row) → Has rows row → (at : Under name m) × (row ≡ row_of at.index at.value)
  pub all : (at : Under name m) → Has rows (row_of at.index at.value)
  pub known : (key : List ℕ) (v : V) → fin.get m key ≡ Some v → (i : I) × (key ≡ name i) × Is i v

-- any two rows of the list that are of one index are equal
abbrev pub AreOnce : {I V : Type 0} → (I → V → Row) → List Row → Type 0
AreOnce {I} {V} row_of rows = (i : I) (v w : V) →
    Has rows (row_of i v) → Has rows (row_of i w) → row_of i v ≡ row_of i w

-- a row gives what `Gives` says of an index and a value of which `Is` holds; or it gives nothing,
-- and is the row of no value of which `Is` holds
abbrev pub TellsOf : {I V X : Type 0} → (I → V → X → Type 0) → (I → V → Row) →
    (I → V → Type 0) → Row → Option X → Type 0
TellsOf {I} {V} Gives row_of Is row None = (i : I) (v : V) → row ≡ row_of i v → Is i v → ⊥
TellsOf {I} {V} Gives row_of Is row (Some x) =
    (i : I) × (v : V) × Gives i v x × (row ≡ row_of i v) × Is i v

-- some row of the list is the row of no value of which `Is` holds
pub record HasStranger {I V : Type 0}
    (row_of : I → V → Row) (Is : I → V → Type 0) (rows : List Row) : Type 0 where
  pub row : Row
  pub here : Has rows row
  pub strange : (i : I) (v : V) → row ≡ row_of i v → Is i v → ⊥
