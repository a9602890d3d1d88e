-- What holds of the reports as JSON, of each state.
use Rattle.std.specs.Prelude.{◌≡◌, ℕ, List, Option, Some}
use Rattle.std.specs.FinMap as fin
use Rattle.command.specs.declared.member.Member.{Member}
use Rattle.roster.specs.Sound.{Sound}
use Rattle.roster.specs.State.{State}
use Rattle.limits_report.specs.NearestLimits.{Judged, judged_duties}
use Rattle.report_json.specs.ExceedancesJson.{IsExceedancesJson}
use Rattle.report_json.specs.LimitsJson.{IsLimitsJson}

-- The exceedances of a sound state have a text in JSON.
abbrev pub EachHasExceedancesJson : Type 0
EachHasExceedancesJson = (s : State) → Sound s → (text : List ℕ) × IsExceedancesJson s text

-- The exceedances of a state have at most one text in JSON.
abbrev pub HasOneExceedancesJson : Type 0
HasOneExceedancesJson = (s : State) (a b : List ℕ) → IsExceedancesJson s a →
    IsExceedancesJson s b → a ≡ b

-- The limits of a member who is in a state have a text in JSON, with each pairing that is in the
-- state and without one.
abbrev pub EachHasLimitsJson : Type 0
EachHasLimitsJson = (s : State) (who : List ℕ) (pairing : Option (List ℕ)) (member : Member)
    (of : Judged) → fin.get s.crew who ≡ Some member → judged_duties s who pairing ≡ Some of →
    (text : List ℕ) × IsLimitsJson s who pairing text

-- The limits of a member have at most one text in JSON, with each pairing and without one.
abbrev pub HasOneLimitsJson : Type 0
HasOneLimitsJson = (s : State) (who : List ℕ) (pairing : Option (List ℕ)) (a b : List ℕ) →
    IsLimitsJson s who pairing a → IsLimitsJson s who pairing b → a ≡ b
