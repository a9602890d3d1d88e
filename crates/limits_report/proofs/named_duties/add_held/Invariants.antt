use Rattle.std.proofs.Common.{◌≡◌, ◌++◌}
use Rattle.std.specs.List.{filter, flat_map}
use Rattle.std.specs.Option.{option_copied}
use Rattle.values.specs.Name.{named_rows}
use Rattle.roster.specs.Pairings.{holds}
use Rattle.roster.specs.Places.{periods_at, periods_of}
use Rattle.roster.specs.State.{zone_of}
use Rattle.limits_report.specs.Listing.{all_but_pairing}
use Rattle.limits_report.proofs.named_duties.add_held.Given as goal

abbrev pub invariant-loop-id : goal.invariant-loop-id
invariant-loop-id l =
    l.list.items
    ++ all_but_pairing (option_copied l.out)
    (flat_map (periods_at (zone_of l.roster l.who))
    (filter (λ row. holds l.who row.1) (named_rows (λ id. id) l.id-iterator)))
    ≡ l.initial.list.items ++ all_but_pairing (option_copied l.out) (periods_of l.roster l.who)
