-- What was flown of a period as JSON.
use Rattle.std.specs.Prelude.{[], ◌∷◌, map, codes, Option, Some, None}
use Rattle.serde_json.specs.Data.{Data, null}
use Rattle.duty.specs.Plans.{ActualTimes}
use Rattle.stored_json.specs.KeptText.{times_json}
use Rattle.stored_json.specs.Values.{object_of, array_of, instant_json}

-- the object of the times as flown, with those of the segments
abbrev pub flown_json : ActualTimes → Data
flown_json a =
    object_of ((codes "release", instant_json a.release) ∷ (codes "report", instant_json a.report)
    ∷ (codes "segments", array_of (map times_json a.segments)) ∷ [])

-- the times as flown, or null where a period wasn't flown
abbrev pub actual_json : Option ActualTimes → Data
actual_json (Some a) = flown_json a
actual_json None = null

-- the object of the report and the release as flown
abbrev pub flown_ends_json : ActualTimes → Data
flown_ends_json a =
    object_of ((codes "release", instant_json a.release) ∷ (codes "report", instant_json a.report)
    ∷ [])

-- the report and the release as flown, or null where a period wasn't flown
abbrev pub actual_ends_json : Option ActualTimes → Data
actual_ends_json (Some a) = flown_ends_json a
actual_ends_json None = null
