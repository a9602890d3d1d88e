use Rattle.std.proofs.Common.{◌≡◌, ◌++◌, map}
use Rattle.std.specs.List.{filter}
use Rattle.std.specs.Str.{bytes_eq}
use Rattle.values.specs.Name.{named_rows}
use Rattle.roster.specs.Places.{duties, ground_at, grounds_of}
use Rattle.roster.proofs.state.Roster.add_grounds_of.Given as goal

abbrev pub invariant-loop-ground : goal.invariant-loop-ground
invariant-loop-ground l =
    l.list.items ++ duties (map ground_at (filter (λ row. bytes_eq row.1.crew l.who) (named_rows (λ id. id) l.ground-iterator)))
    ≡ l.initial.list.items ++ duties (grounds_of l.self l.who)
