use Rattle.std.proofs.Common.{◌≡◌, ◌++◌, map}
use Rattle.std.specs.List.{filter}
use Rattle.std.specs.Str.{bytes_eq}
use Rattle.values.specs.Name.{named_rows}
use Rattle.roster.specs.Places.{ground_at, grounds_of}
use Rattle.limits_report.specs.Listing.{named_duty}
use Rattle.limits_report.proofs.named_duties.add_grounds.Given as goal

abbrev pub invariant-loop-id : goal.invariant-loop-id
invariant-loop-id l =
    l.list.items ++ map named_duty (map ground_at (filter (λ row. bytes_eq row.1.crew l.who) (named_rows (λ id. id) l.id-iterator)))
    ≡ l.initial.list.items ++ map named_duty (grounds_of l.roster l.who)
