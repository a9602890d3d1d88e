-- How near a member's duties are to each of the eight limits of 14 CFR Part 117, as JSON.
use Rattle.std.specs.Prelude.{◌≡◌, ◌^◌, nat_lt, ℕ, List, [], ◌∷◌, map, codes, Option, Some, None}
use Rattle.std.specs.Prelude.{if◌then◌else◌}
use Rattle.std.specs.FinMap as fin
use Rattle.serde_json.specs.Data.{Data, null, boolean, number, unsigned, string}
use Rattle.limits.specs.SectionText.{section_text}
use Rattle.command.specs.Texts.{seat_text}
use Rattle.command.specs.declared.member.Member.{Member}
use Rattle.roster.specs.State.{State}
use Rattle.limits_report.specs.NearestLimits.{AreNearestLimits}
use Rattle.limits_report.specs.declared.nearest.FirstMinute.{FirstMinute}
use Rattle.limits_report.specs.declared.nearest.FirstMinute.TheVariants.{At, Before2000}
use Rattle.limits_report.specs.declared.nearest.NearestLimit.{NearestLimit}
use Rattle.stored_json.specs.Values.{object_of, array_of, instant_json}
use Rattle.report_json.specs.Objects.{json_text, length_or_null, text_or_null}

-- minutes as a number of JSON; null from 2 ^ 64 on, which no number of JSON holds, and no duty of a
-- book comes near
abbrev pub whole_json : ℕ → Data
whole_json minutes = if nat_lt minutes (2 ^ 64) then number (unsigned minutes) else null

-- the minutes that a limit counts; null if there is no flight duty period to measure
abbrev pub minutes_json : Option ℕ → Data
minutes_json (Some minutes) = whole_json minutes
minutes_json None = null

-- the first minute of a window as an instant; null if the minute is before the first instant
abbrev pub first_minute_json : FirstMinute → Data
first_minute_json (At minute) = instant_json minute
first_minute_json Before2000 = null

-- the first minute of the window that is nearest; null if there is no window
abbrev pub from_json : Option FirstMinute → Data
from_json (Some minute) = first_minute_json minute
from_json None = null

-- the object of a limit: the section, what is nearest to the limit, and whether the limit is
-- exceeded
abbrev pub limit_json : NearestLimit → Data
limit_json limit =
    object_of ((codes "duty", text_or_null limit.duty) ∷ (codes "exceeds", boolean limit.exceeds)
    ∷ (codes "from", from_json limit.from) ∷ (codes "limit", length_or_null limit.limit)
    ∷ (codes "minutes", minutes_json limit.minutes)
    ∷ (codes "section", string (section_text limit.section)) ∷ [])

-- the object of the limits of a member, with a pairing or without one
abbrev pub limits_of_json : (who : List ℕ) → Member → (pairing : Option (List ℕ)) →
    List NearestLimit → Data
limits_of_json who member pairing limits =
    object_of ((codes "crew", string who) ∷ (codes "limits", array_of (map limit_json limits))
    ∷ (codes "name", string member.name) ∷ (codes "pairing", text_or_null pairing)
    ∷ (codes "seat", string (seat_text member.seat)) ∷ [])

-- The value is that of the limits of the member with this id, who is in the state, with a pairing
-- that is in the state or without one.
pub record IsLimitsValue (s : State) (who : List ℕ) (pairing : Option (List ℕ)) (value : Data)
    : Type 0 where
  pub member : Member
  pub is_there : fin.get s.crew who ≡ Some member
  pub limits : List NearestLimit
  pub are : AreNearestLimits s who pairing limits
  pub is : value ≡ limits_of_json who member pairing limits

-- The text is that of the value of these limits.
pub record IsLimitsJson (s : State) (who : List ℕ) (pairing : Option (List ℕ)) (text : List ℕ)
    : Type 0 where
  pub value : Data
  pub of_state : IsLimitsValue s who pairing value
  pub is : text ≡ json_text value
