-- How near a member's duties are to each of the eight limits of 14 CFR Part 117, as a text.
use Rattle.std.specs.Prelude.{◌≡◌, ℕ, Bool, true, false, List, [], ◌++◌, codes, Option, Some, None}
use Rattle.std.specs.FinMap as fin
use Rattle.std.specs.List.{flat_map}
use Rattle.time117.specs.Instant.{written}
use Rattle.limits.specs.SectionText.{section_text}
use Rattle.command.specs.Texts.{seat_text}
use Rattle.command.specs.declared.member.Member.{Member}
use Rattle.roster.specs.State.{State}
use Rattle.period_verdict.specs.Texts.{hours_text}
use Rattle.limits_report.specs.NearestLimits.{AreNearest, Judged, judged_duties}
use Rattle.limits_report.specs.declared.nearest.FirstMinute.{FirstMinute}
use Rattle.limits_report.specs.declared.nearest.FirstMinute.TheVariants.{At, Before2000}
use Rattle.limits_report.specs.declared.nearest.NearestLimit.{NearestLimit}

-- ---- The line of a limit

-- this many minutes of the minutes that a limit sets, as `8:30 of 9:00`
abbrev pub of_limit : (minutes limit : ℕ) → List ℕ
of_limit minutes limit = hours_text minutes ++ codes " of " ++ hours_text limit

-- no minutes of the minutes that a limit sets, where none are counted, as `- of 10:00`
abbrev pub no_minutes_text : (limit : ℕ) → List ℕ
no_minutes_text limit = codes "- of " ++ hours_text limit

-- the minutes that are counted, if some are, of the minutes that the limit sets; a dash if the
-- limit sets none
abbrev pub minutes_text : (limit minutes : Option ℕ) → List ℕ
minutes_text None minutes = codes "-"
minutes_text (Some limit) None = no_minutes_text limit
minutes_text (Some limit) (Some minutes) = of_limit minutes limit

-- the name of the flight duty period that is nearest, behind a blank, if a period is
abbrev pub duty_name_text : Option (List ℕ) → List ℕ
duty_name_text (Some name) = codes " " ++ name
duty_name_text None = []

-- the first minute of a window: an instant, or the words that the minute is before the first
-- instant
abbrev pub first_minute_text : FirstMinute → List ℕ
first_minute_text (At minute) = written minute
first_minute_text Before2000 = codes "before 2000-01-01T00:00Z"

-- from when on the window that is nearest goes, if a window is
abbrev pub from_text : Option FirstMinute → List ℕ
from_text (Some minute) = codes " from " ++ first_minute_text minute
from_text None = []

-- the word for whether a limit is exceeded
abbrev pub exceeds_word : Bool → List ℕ
exceeds_word true = codes "exceeds"
exceeds_word false = codes "within"

-- the line of a limit: the section, what is nearest to the limit, and whether the limit is exceeded
abbrev pub limit_line : NearestLimit → List ℕ
limit_line limit =
    (section_text limit.section ++ codes " " ++ minutes_text limit.limit limit.minutes)
    ++ (duty_name_text limit.duty ++ from_text limit.from)
    ++ codes " " ++ exceeds_word limit.exceeds ++ codes "\n"

-- ---- The text

-- the end of the first line, which names the pairing, if there is one
abbrev pub with_text : (pairing : Option (List ℕ)) → List ℕ
with_text (Some id) = codes " with " ++ id
with_text None = []

-- the begin of the first line: the member's id, seat and name
abbrev pub member_text : (who : List ℕ) → Member → List ℕ
member_text who member =
    codes "LIMITS " ++ who ++ codes " " ++ seat_text member.seat ++ codes " " ++ member.name

-- the first line of a limits text: the member, and the pairing, if there is one
abbrev pub header : (who : List ℕ) → Member → (pairing : Option (List ℕ)) → List ℕ
header who member pairing = member_text who member ++ with_text pairing ++ codes "\n"

-- The text of duties that are judged: the first line, and a line for each limit in turn.
pub record IsJudgedText (judged : Judged) (first text : List ℕ) : Type 0 where
  pub limits : List NearestLimit
  pub are : AreNearest judged limits
  pub is : text ≡ first ++ flat_map limit_line limits

-- The text of the limits of the member with this id, who is in the state, with a pairing that is in
-- the state or without one.
pub record IsLimitsText (s : State) (who : List ℕ) (pairing : Option (List ℕ)) (text : List ℕ)
    : Type 0 where
  pub member : Member
  pub is_there : fin.get s.crew who ≡ Some member
  pub of : Judged
  pub are_judged : judged_duties s who pairing ≡ Some of
  pub told : IsJudgedText of (header who member pairing) text
