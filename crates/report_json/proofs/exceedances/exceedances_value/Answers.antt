use Rattle.std.proofs.Common.{◌≡◌, ap, ◌∙◌, map}
use Rattle.std.proofs.lemmas.Result.{IfOk-weaker}
use Rattle.std.specs.Prelude.{codes}
use Rattle.serde_json.specs.View.{view}
use Rattle.report_json.specs.ExceedancesJson.{IsExceedancesValue}
use Rattle.report_json.specs.Objects.{list_json}
use Rattle.report_json.proofs.exceedances.exceedances_value.Goals as goal

pub returns : goal.returns
returns c =
    let rows = c.in_ok-rows.ensures in
    IfOk-weaker c.list_of.result
    (λ value. view value ≡ list_json (codes "exceedances") (map view c.in_ok-rows.rows.items))
    (λ value. IsExceedancesValue c.args.roster.now (view value))
    (λ value is. record { rows = rows.rows; are = rows.are; is = is ∙ ap (list_json (codes "exceedances")) rows.is })
    c.list_of.ensures
