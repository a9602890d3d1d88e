-- The exceedances of a sound state, and the limits of a member who is there, have a text in JSON.
use Rattle.std.proofs.Common.{refl}
use Rattle.report.proofs.EachText.{each_exceedance_text}
use Rattle.limits_report.proofs.EachText.{each_nearest}
use Rattle.report_json.specs.ExceedancesJson.{exceedances_of_json}
use Rattle.report_json.specs.Laws.{EachHasExceedancesJson, EachHasLimitsJson}
use Rattle.report_json.specs.LimitsJson.{limits_of_json}
use Rattle.report_json.specs.Objects.{json_text}

pub each_exceedances_json : EachHasExceedancesJson
each_exceedances_json s sound =
    let told = (each_exceedance_text s sound).1 in
    let value = exceedances_of_json told.rows in
    (json_text value, record { value = value; of_state = record { rows = told.rows; are = told.are; is = refl }; is = refl })

pub each_limits_json : EachHasLimitsJson
each_limits_json s who pairing member of there are =
    let found = each_nearest s who pairing of are in
    let value = limits_of_json who member pairing found.0 in
    (json_text value, record { value = value; of_state = record { member = member; is_there = there; limits = found.0; are = found.1; is = refl }; is = refl })
