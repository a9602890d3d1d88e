-- The exceedances of a state, and the limits of a member, have one text in JSON.
use Rattle.std.proofs.Common.{◌≡◌, ◌∙◌, sym, ap, ap₂, ℕ, List, Option}
use Rattle.std.proofs.lemmas.Option.{same_Some}
use Rattle.serde_json.specs.Data.{Data}
use Rattle.command.specs.declared.member.Member.{Member}
use Rattle.roster.specs.State.{State}
use Rattle.report.proofs.OneText.{same_rows}
use Rattle.limits_report.proofs.OneText.{one_nearest_list}
use Rattle.report_json.specs.ExceedancesJson.{IsExceedancesValue, exceedances_of_json}
use Rattle.report_json.specs.Laws.{HasOneExceedancesJson, HasOneLimitsJson}
use Rattle.report_json.specs.LimitsJson.{IsLimitsValue, limits_of_json}
use Rattle.report_json.specs.Objects.{json_text}

one_exceedances_value : (s : State) (a b : Data) → IsExceedancesValue s a → IsExceedancesValue s b → a ≡ b
one_exceedances_value s a b x y =
    x.is ∙ ap exceedances_of_json (same_rows x.rows y.rows (x.are ∙ sym y.are)) ∙ sym y.is

pub one_exceedances_json : HasOneExceedancesJson
one_exceedances_json s a b x y =
    x.is ∙ ap json_text (one_exceedances_value s x.value y.value x.of_state y.of_state) ∙ sym y.is

one_limits_value : (s : State) (who : List ℕ) (pairing : Option (List ℕ)) (a b : Data) → IsLimitsValue s who pairing a → IsLimitsValue s who pairing b → a ≡ b
one_limits_value s who pairing a b x y =
    let member : x.member ≡ y.member = same_Some x.member y.member (sym x.is_there ∙ y.is_there) in
    x.is ∙ ap₂ (λ (m : Member) limits. limits_of_json who m pairing limits) member (one_nearest_list s who pairing x.limits y.limits x.are y.are) ∙ sym y.is

pub one_limits_json : HasOneLimitsJson
one_limits_json s who pairing a b x y =
    x.is ∙ ap json_text (one_limits_value s who pairing x.value y.value x.of_state y.of_state) ∙ sym y.is
