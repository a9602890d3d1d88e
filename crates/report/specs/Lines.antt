-- The lines of a roster, and their order.
use Rattle.std.specs.Prelude.{ℕ, List, [], ◌∷◌}
use Rattle.std.specs.List.Sorted.{IsPermutation, IsSorted}
use Rattle.values.specs.Name.{name_cmp, text_then}
use Rattle.report.specs.declared.line.Line.{Line}
use Rattle.report.specs.declared.line.LinePlace.{LinePlace}
use Rattle.report.specs.declared.line.LinePlace.TheVariants.{Period, Ground, Outside}

-- the place of a line as a list of numbers: periods before ground duties, ground duties before
-- outside periods, then the id, then the period
abbrev pub key_of_place : LinePlace → List ℕ
key_of_place (Period id number) = 0 ∷ text_then id (number ∷ [])
key_of_place (Ground id) = 1 ∷ text_then id []
key_of_place (Outside id) = 2 ∷ text_then id []

-- what puts a line in its place: begin, end, periods before ground duties before outside periods,
-- id in byte order, period
abbrev pub key_of : Line → List ℕ
key_of line = line.begin ∷ line.end ∷ key_of_place line.place

-- The sorted list has these lines and no others, in the order of their keys.
pub record AreLinesInOrder (lines sorted : List Line) : Type 0 where
  pub same : IsPermutation lines sorted
  pub order : IsSorted (λ a b. name_cmp (key_of a) (key_of b)) sorted
