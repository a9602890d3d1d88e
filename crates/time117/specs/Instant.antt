-- Instants as text: whole minutes since 2000-01-01T00:00Z, on the Gregorian calendar and in UTC.
use Rattle.std.specs.Prelude.{ℕ, zero, suc, pos, ◌+◌, ◌-◌, ◌*◌, ◌/◌, ◌%◌, Bool, not, ◌&&◌, ◌||◌}
use Rattle.std.specs.Prelude.{◌==◌, nat_le, nat_lt, if◌then◌else◌, List, [], ◌∷◌, ◌++◌, length}
use Rattle.std.specs.Prelude.{slice_index, codes, Result, Ok, Err}
use Rattle.std.specs.List.{list_all, zip}
use Rattle.std.specs.Char.{is_ascii_digit}
use Rattle.jiff_core.specs.Calendar.{day_count, days_in_month}
use Rattle.time117.specs.declared.minute.TimeFault.{TimeFault}
use Rattle.time117.specs.declared.minute.TimeFault.TheVariants.{Malformed, NoSuchTime, OutOfRange}

-- a byte fits a letter of a form: any digit fits the letter `d`, and every other letter is itself
abbrev pub fits : ℕ → ℕ → Bool
fits letter byte = if letter == 100 then is_ascii_digit byte else (letter == byte)

-- the text has as many bytes as the form has letters, and each fits its letter
abbrev pub has_form : List ℕ → List ℕ → Bool
has_form form text = (length form == length text) && list_all (λ p. fits p.0 p.1) (zip form text)

-- the text has one of the two written forms of an instant, without seconds or with 00 seconds
abbrev pub is_written : List ℕ → Bool
is_written text =
    has_form (codes "dddd-dd-ddTdd:ddZ") text || has_form (codes "dddd-dd-ddTdd:dd:00Z") text

-- the number that the two digits from place i on write
abbrev pub pair_at : List ℕ → ℕ → ℕ
pair_at text i = 10 * (slice_index text i - 48) + (slice_index text (i + 1) - 48)

-- the calendar has this month, this day of the month and this time of the day
abbrev pub is_time : ℕ → ℕ → ℕ → ℕ → ℕ → Bool
is_time year month day hour minute =
    nat_le 1 month && nat_le month 12
    && nat_le 1 day && nat_le day (days_in_month (pos year) month)
    && nat_lt hour 24 && nat_lt minute 60

-- how many days lie between 2000-01-01 and a later date
abbrev pub day_number : ℕ → ℕ → ℕ → ℕ
day_number year month day = day_count (pos year) month day - day_count (pos 2000) 1 1

-- the minute that a year, month, day, hour and minute name: first this time has to exist, then its
-- year has to be in range
abbrev pub instant : ℕ → ℕ → ℕ → ℕ → ℕ → Result ℕ TimeFault
instant year month day hour minute =
    if not (is_time year month day hour minute) then Err NoSuchTime
    else (if not (nat_le 2000 year && nat_le year 2099) then Err OutOfRange
    else Ok (1_440 * day_number year month day + 60 * hour + minute))

-- the instant that a text holds, or why the text holds none
unfoldable pub read_instant : List ℕ → Result ℕ TimeFault
read_instant text =
    if not (is_written text) then Err Malformed
    else instant (100 * pair_at text 0 + pair_at text 2)
    (pair_at text 5) (pair_at text 8) (pair_at text 11) (pair_at text 14)

-- a date on the calendar
pub record CalendarDate : Type 0 where
  pub year : ℕ
  pub month : ℕ
  pub day : ℕ

-- the date of the day after a date
abbrev pub next_date : CalendarDate → CalendarDate
next_date d =
    if nat_lt d.day (days_in_month (pos d.year) d.month) then record d { day = d.day + 1 }
    else (if nat_lt d.month 12 then record { year = d.year; month = d.month + 1; day = 1 }
    else record { year = d.year + 1; month = 1; day = 1 })

-- the date of a day: day 0 is 2000-01-01, and each day has the date after the one before it
unfoldable pub date_of : ℕ → CalendarDate
date_of zero = record { year = 2000; month = 1; day = 1 }
date_of (suc n) = next_date (date_of n)

-- the two digits of a number below 100
abbrev pub two_digits : ℕ → List ℕ
two_digits n = (48 + n / 10) ∷ (48 + n % 10) ∷ []

-- a date and a time of the day as text, in the form without seconds
abbrev pub written_at : CalendarDate → ℕ → ℕ → List ℕ
written_at d hour minute =
    two_digits (d.year / 100) ++ two_digits (d.year % 100)
    ++ codes "-" ++ two_digits d.month ++ codes "-" ++ two_digits d.day
    ++ codes "T" ++ two_digits hour ++ codes ":" ++ two_digits minute ++ codes "Z"

-- a minute as text, in the form without seconds: `2000-01-01T00:00Z` for 0
unfoldable pub written : ℕ → List ℕ
written minute = written_at (date_of (minute / 1_440)) (minute % 1_440 / 60) (minute % 60)
