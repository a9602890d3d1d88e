use Rattle.std.proofs.Common.{◌≡◌, ◌++◌, map}
use Rattle.std.specs.List.{filter}
use Rattle.serde_json.specs.View.{view}
use Rattle.values.specs.Name.{named_rows}
use Rattle.report.specs.PairingsText.{is_listed}
use Rattle.report_json.specs.PairingsJson.{listed_pairing_json, listed_pairings_json}
use Rattle.report_json.proofs.pairings.pairings_of.Given as goal

abbrev pub invariant-loop-id : goal.invariant-loop-id
invariant-loop-id l =
    map view l.rows.items ++ map listed_pairing_json (filter (λ entry. is_listed l.which entry.1) (named_rows (λ id. id) l.id-iterator))
    ≡ listed_pairings_json l.roster l.which
