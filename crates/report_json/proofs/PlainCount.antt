-- The value of a count has no floats, so that its text is that of its value.
use Rattle.std.proofs.Common.{◌≡◌, ℕ, Option, Some, None, false, refl}
use Rattle.serde_json.specs.Written.{has_float}
use Rattle.report_json.specs.CountJson.{count_json}

pub count_plain : (kept : ℕ) (next : Option ℕ) → has_float (count_json kept next) ≡ false
count_plain kept None = refl
count_plain kept (Some number) = refl
