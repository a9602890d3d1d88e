-- What the book keeps under the number of a request.
use Rattle.std.specs.Prelude.{ℕ, ◌==◌, List, slice_index}
use Rattle.std.specs.FinMap as fin
use Rattle.std.specs.List.{filter}
use Rattle.roster.specs.State.{State}
use Rattle.roster.specs.declared.state.LoggedCommand.{LoggedCommand}

-- the number of the request that a key has, by the name of the key
abbrev pub number_in : (name : List ℕ) → ℕ
number_in name = slice_index name 0

-- the part of the request that a key has, by the name of the key
abbrev pub part_in : (name : List ℕ) → ℕ
part_in name = slice_index name 1

-- the parts of a request, each under the name of its key: the accepted command with its reply, in
-- the order of the parts
abbrev pub kept_under : State → (number : ℕ) → List (List ℕ × LoggedCommand)
kept_under s number = filter (λ row. number_in row.0 == number) (fin.entries s.requests)
