-- What contracts see of an import.
use Rattle.std.specs.Prelude.{ℕ, ◌-◌, List, Option, slice_get}
use Rattle.duty.specs.Plans.{Plan}
use Rattle.roster.specs.Folds.{Asked, import}

-- an import: its number, its pairings, and the part that comes next, counted from 1
pub record Importing : Type 0 where
  pub number : ℕ
  pub pairings : List Plan
  pub next : ℕ

-- the command of the part that comes next in an import; none after the last part
abbrev pub part_of : Importing → Option Asked
part_of it = slice_get (import it.number it.pairings) (it.next - 1)
