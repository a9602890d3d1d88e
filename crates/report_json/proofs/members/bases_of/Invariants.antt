use Rattle.std.proofs.Common.{◌≡◌, ◌++◌, map}
use Rattle.serde_json.specs.View.{view}
use Rattle.values.specs.Name.{named_rows}
use Rattle.report_json.specs.MembersJson.{base_json, bases_json}
use Rattle.report_json.proofs.members.bases_of.Given as goal

abbrev pub invariant-loop-id : goal.invariant-loop-id
invariant-loop-id l =
    map view l.rows.items ++ map base_json (named_rows (λ id. id) l.id-iterator) ≡ bases_json l.roster
