use Rattle.std.proofs.Common.{◌≡◌, ◌++◌, map}
use Rattle.std.specs.FinMap as fin
use Rattle.std.specs.List.{filter, flat_map}
use Rattle.serde_json.specs.View.{view}
use Rattle.values.specs.Name.{named_rows}
use Rattle.roster.specs.Pairings.{holds}
use Rattle.report_json.specs.RosterJson.{period_duties_json}
use Rattle.report_json.proofs.duties.duties_of.Given as goal

abbrev pub invariant-loop-id : goal.invariant-loop-id
invariant-loop-id l =
    map view l.duties.items ++ flat_map period_duties_json (filter (λ row. holds l.who row.1) (named_rows (λ id. id) l.id-iterator))
    ≡ flat_map period_duties_json (filter (λ row. holds l.who row.1) (fin.entries l.roster.pairings))
