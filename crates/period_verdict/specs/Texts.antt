-- Times of day and lengths of time as they are printed.
use Rattle.std.specs.Prelude.{ℕ, ◌/◌, ◌%◌, List, ◌++◌, codes}
use Rattle.std.specs.Fmt.{decimal}

-- a number under 100 in two digits
abbrev pub two_digit_text : ℕ → List ℕ
two_digit_text n = decimal (n / 10) ++ decimal (n % 10)

-- a minute of the day, as 07:05
unfoldable pub clock_text : ℕ → List ℕ
clock_text minute = two_digit_text (minute / 60) ++ codes ":" ++ two_digit_text (minute % 60)

-- minutes in hours and minutes, as 13:05
unfoldable pub hours_text : ℕ → List ℕ
hours_text minutes = decimal (minutes / 60) ++ codes ":" ++ two_digit_text (minutes % 60)
