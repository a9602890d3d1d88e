-- Whole days by UTC, and what lies in them.
use Rattle.std.specs.Prelude.{ℕ, Bool, ◌&&◌, ◌+◌, ◌-◌, ◌==◌, nat_le, nat_lt, if◌then◌else◌, List}
use Rattle.std.specs.Prelude.{◌++◌, length, codes, take, Option, Some, None}
use Rattle.std.specs.Result.{result_ok}
use Rattle.time117.specs.Instant.{read_instant, written}

-- days from a first to a last, each by its first minute
pub record Days : Type 0 where
  pub first : ℕ
  pub last : ℕ

-- the first minute of the day that a text `YYYY-MM-DD` names, if it names one
abbrev pub day_begin : List ℕ → Option ℕ
day_begin text =
    if length text == 10 then result_ok (read_instant (text ++ codes "T00:00Z")) else None

-- the days from one to another, if there are these two, at most 62, and the last isn't before the
-- first
abbrev pub days_from : Option ℕ → Option ℕ → Option Days
days_from None to = None
days_from (Some first) None = None
days_from (Some first) (Some last) =
    if nat_le first last && nat_le (last - first) 87_840
    then Some (record { first = first; last = last }) else None

-- the days whose first and last are these texts, if they are days
abbrev pub days_read : List ℕ → List ℕ → Option Days
days_read from to = days_from (day_begin from) (day_begin to)

-- the day of a minute as a text `YYYY-MM-DD`
abbrev pub day_text : ℕ → List ℕ
day_text minute = take 10 (written minute)

-- whether what goes from one minute to another has a minute in these days
abbrev pub meets : Days → ℕ → ℕ → Bool
meets days begin end = nat_lt begin (days.last + 1_440) && nat_lt days.first end
