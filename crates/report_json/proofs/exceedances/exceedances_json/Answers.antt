use Rattle.std.proofs.Common.{◌≡◌, string_bytes}
use Rattle.std.proofs.lemmas.Result.{IfOk-weaker}
use Rattle.serde_json.specs.View.{view}
use Rattle.report_json.specs.ExceedancesJson.{IsExceedancesJson}
use Rattle.report_json.specs.Objects.{json_text}
use Rattle.report_json.proofs.Plain.{exceedances_plain}
use Rattle.report_json.proofs.exceedances.exceedances_json.Goals as goal

pub written-requires : goal.written-requires
written-requires c = exceedances_plain c.args.roster.now _ c.in_ok-exceedances_value.ensures

pub returns : goal.returns
returns c =
    let value = view c.in_ok-exceedances_value.field-0 in
    IfOk-weaker c.written.result (λ text. string_bytes text ≡ json_text value)
    (λ text. IsExceedancesJson c.args.roster.now (string_bytes text))
    (λ text is. record { value = value; of_state = c.in_ok-exceedances_value.ensures; is = is })
    c.written.ensures
