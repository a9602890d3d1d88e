use Rattle.std.proofs.Common.{◌≡◌, ◌++◌, map}
use Rattle.serde_json.specs.View.{view}
use Rattle.report_json.specs.ExceedancesJson.{exceedance_row_json}
use Rattle.report_json.proofs.exceedances.rows_of.Given as goal

abbrev pub invariant-loop-id : goal.invariant-loop-id
invariant-loop-id l =
    map view l.rows.items ++ map exceedance_row_json l.id-iterator ≡ map exceedance_row_json l.initial.id-iterator
