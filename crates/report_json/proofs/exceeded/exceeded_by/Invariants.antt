use Rattle.std.proofs.Common.{◌≡◌, ◌++◌}
use Rattle.values.specs.Name.{named_rows}
use Rattle.roster.specs.State.{exceedance_name}
use Rattle.report_json.specs.BoardJson.{exceeded_by}
use Rattle.report_json.proofs.OwnSections.{exceeded_in}
use Rattle.report_json.proofs.exceeded.exceeded_by.Given as goal

abbrev pub invariant-loop-id : goal.invariant-loop-id
invariant-loop-id l =
    l.exceeded.items ++ exceeded_in l.who (named_rows (λ id. exceedance_name id.key id.crew id.section) l.id-iterator)
    ≡ exceeded_by l.roster l.who
