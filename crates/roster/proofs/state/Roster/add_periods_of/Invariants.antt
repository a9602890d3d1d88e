use Rattle.std.proofs.Common.{◌≡◌, ◌++◌}
use Rattle.std.specs.List.{filter, flat_map}
use Rattle.values.specs.Name.{named_rows}
use Rattle.roster.specs.LeftOut.{leaves_out}
use Rattle.roster.specs.Pairings.{holds}
use Rattle.roster.specs.Places.{all_but, periods_at, periods_of}
use Rattle.roster.specs.State.{zone_of}
use Rattle.roster.proofs.state.Roster.add_periods_of.Given as goal

abbrev pub invariant-loop-id : goal.invariant-loop-id
invariant-loop-id l =
    l.list.items ++ all_but (leaves_out l.out) (flat_map (periods_at (zone_of l.self l.who)) (filter (λ row. holds l.who row.1) (named_rows (λ id. id) l.id-iterator)))
    ≡ l.initial.list.items ++ all_but (leaves_out l.out) (periods_of l.self l.who)
