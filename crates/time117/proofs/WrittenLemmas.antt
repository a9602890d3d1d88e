-- What is written is read back.
use Rattle.std.proofs.Common.{◌≡◌, ℕ, ◌+◌, ◌-◌, ◌*◌, ◌/◌, ◌%◌, ◌<◌, ◌≤◌, true, refl, ap, ◌∙◌, arith, pos, nat_le, nat_lt, Ok}
use Rattle.std.proofs.lemmas.Bool.Decides.{nat_tests}
use Rattle.std.specs.Char.{is_ascii_digit}
use Rattle.jiff_core.specs.Calendar.{day_count, days_in_month}
use Rattle.jiff_core.proofs.CalendarLemmas.{days_in_month_bounds}
use Rattle.time117.specs.Instant.{CalendarDate, date_of, day_number, instant, is_written, read_instant, written, written_at}
use Rattle.time117.proofs.DateFacts.{date_of_reached, day_count-2000, reached_year}

is_digit : (n : ℕ) → n < 10 → is_ascii_digit (48 + n) ≡ true
is_digit n h = grind (arith, nat_tests)

le_true : (a b : ℕ) → a ≤ b → nat_le a b ≡ true
le_true a b h = grind (arith, nat_tests)

lt_true : (a b : ℕ) → a < b → nat_lt a b ≡ true
lt_true a b h = grind (arith, nat_tests)

-- the two digits of a number below 100 write it
pair_of : (n : ℕ) → n < 100 → 10 * (48 + n / 10 - 48) + (48 + n % 10 - 48) ≡ n
pair_of n h = omega arith

tens : (n : ℕ) → n < 100 → is_ascii_digit (48 + n / 10) ≡ true
tens n h = is_digit (n / 10) (omega arith)

ones : (n : ℕ) → is_ascii_digit (48 + n % 10) ≡ true
ones n = is_digit (n % 10) (omega arith)

written_form : (d : CalendarDate) (hour minute : ℕ) → d.year < 10_000 → d.month < 100 → d.day < 100 → hour < 100 → minute < 100 → is_written (written_at d hour minute) ≡ true
written_form d hour minute year month day h m =
    rw (tens (d.year / 100) (omega arith), ones (d.year / 100), tens (d.year % 100) (omega arith), ones (d.year % 100), tens d.month month, ones d.month, tens d.day day, ones d.day, tens hour h, ones hour, tens minute m, ones minute) refl

-- a time that exists in a year of the range names its minute
instant_of_time : (n year month day hour minute : ℕ) → day_count (pos year) month day ≡ 4_382_910 + n → (2000 ≤ year) × (year ≤ 2099) → (1 ≤ month) × (month ≤ 12) → (1 ≤ day) × (day ≤ days_in_month (pos year) month) → hour < 24 → minute < 60 → instant year month day hour minute ≡ Ok (1_440 * n + 60 * hour + minute)
instant_of_time n year month day hour minute count y m d h i =
    let number : day_number year month day ≡ n = omega (arith, count, day_count-2000) in
    rw (le_true 1 month m.0, le_true month 12 m.1, le_true 1 day d.0, le_true day _ d.1, lt_true hour 24 h, lt_true minute 60 i, le_true 2000 year y.0, le_true year 2099 y.1) (ap (λ days. Ok (1_440 * days + 60 * hour + minute)) number)

-- what is written is read back
pub read_written : (m : ℕ) → m < 52_596_000 → read_instant (written m) ≡ Ok m
unfolding read_instant written
read_written m lt =
    let n = m / 1_440 in
    let d = date_of (m / 1_440) in
    let reached = date_of_reached (m / 1_440) in
    let days : m / 1_440 < 36_525 = omega arith in
    let year = reached_year (m / 1_440) d reached days in
    let day_bound = days_in_month_bounds (pos d.year) d.month in
    let hour : m % 1_440 / 60 < 24 = omega arith in
    let minute : m % 60 < 60 = omega arith in
    let form = written_form d (m % 1_440 / 60) (m % 60) (omega (arith, year)) (omega (arith, reached.month)) (omega (arith, reached.day, day_bound)) (omega arith) (omega arith) in
    let at = instant_of_time (m / 1_440) d.year d.month d.day (m % 1_440 / 60) (m % 60) reached.count (reached.year, year) reached.month reached.day hour minute in
    let whole : 1_440 * (m / 1_440) + 60 * (m % 1_440 / 60) + m % 60 ≡ m = omega arith in
    let in_century : 100 * (d.year / 100) + d.year % 100 ≡ d.year = omega arith in
    rw (form, pair_of (d.year / 100) (omega (arith, year)), pair_of (d.year % 100) (omega arith), in_century, pair_of d.month (omega (arith, reached.month)), pair_of d.day (omega (arith, reached.day, day_bound)), pair_of (m % 1_440 / 60) (omega arith), pair_of (m % 60) (omega arith)) (at ∙ ap Ok whole)
