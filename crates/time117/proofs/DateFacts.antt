-- The dates of the years 2000 to 2099 and their day numbers.
use Rattle.std.proofs.Common.{negsuc, ◌≡◌, ℕ, zero, suc, ◌+◌, ◌*◌, ◌<◌, ◌≤◌, Bool, true, false, refl, ap, ◌∙◌, arith, rules, ℤ, pos, ◌+ℤ◌, ◌-ℤ◌, ◌*ℤ◌, ◌≤ℤ◌, unsigned_abs, nat_lt, nat_le, int_div, if◌then◌else◌}
use Rattle.std.proofs.lemmas.Bool.Decides.{nat_tests}
use Rattle.std.proofs.lemmas.Int.{by_lt_z}
use Rattle.jiff_core.specs.declared.civil.date.Date.{Date}
use Rattle.jiff_core.specs.Calendar.{day_count, days_in_month, IsBetween, IsCivilDate, IsDate, IsEpochDay}
use Rattle.jiff_core.specs.Date.{epoch_day, IsYmd}
use Rattle.jiff_core.proofs.SignedLemmas.{signed_arith}
use Rattle.jiff_core.proofs.MarchLemmas.{day_count-early}
use Rattle.jiff_core.proofs.CalendarLemmas.{days_from_civil-day_count, days_in_month_bounds, day_count-day_of_year, day_count-day, day_count-lt_year, day_count-later_year, day_count-next_month, day_count-next_year, day_count-last_of_year}
use Rattle.jiff_core.proofs.DateLemmas.{civil, epoch_day_injective}
use Rattle.time117.proofs.FormLemmas.{both}
use Rattle.time117.specs.Instant.{CalendarDate, is_time, next_date, date_of, day_number}

pub day_count-2000 : day_count (pos 2000) 1 1 ≡ 4_382_910
day_count-2000 = day_count-early (pos 2000) 11999 1 1 refl (omega arith) (omega arith) (omega arith)

pub day_count-2100 : day_count (pos 2100) 1 1 ≡ 4_419_435
day_count-2100 = day_count-early (pos 2100) 12099 1 1 refl (omega arith) (omega arith) (omega arith)

-- the dates of these years have the days from 0 to 36,524
pub day_count_in_century : (y : ℤ) (m d : ℕ) → IsCivilDate y m d → IsBetween (pos 2000) (pos 2099) y → (4_382_910 ≤ day_count y m d) × (day_count y m d < 4_419_435)
day_count_in_century y m d h century = (
  by_lt_z (pos 2000) y
      (λ lt. omega (arith, day_count-2000, day_count-lt_year (pos 2000) 1 1 y m d (search rules, search rules, search rules) h.2.0 lt))
      (λ le. let e : y ≡ pos 2000 = omega (arith, signed_arith) in
      omega (arith, day_count-2000, day_count-day_of_year y m d h.2.0, ap (λ z. day_count z 1 1) e)),
  omega (arith, day_count-2100, day_count-lt_year y m d (pos 2100) 1 1 h (omega arith) (omega (arith, signed_arith))),
)

-- the whole hours of that many days
pub hours_of_days : (n : ℕ) → int_div (pos n *ℤ pos 86_400_000_000_000) (pos 3_600_000_000_000) ≡ pos (24 * n)
hours_of_days n = omega (arith, signed_arith)

whole : (y : ℤ) → pos 0 ≤ℤ y → pos (unsigned_abs y) ≡ y
whole (pos n) h = refl
whole (negsuc n) h = absurd (omega (arith, signed_arith))

first_count : (first : Date) → IsYmd (pos 2000) (pos 1) (pos 1) first → day_count first.year first.month first.day ≡ 4_382_910
first_count first is = same _ _ _ is.0 (omega (arith, signed_arith, is.1)) (omega (arith, signed_arith, is.2))
  where
    same : (y : ℤ) (m d : ℕ) → y ≡ pos 2000 → m ≡ 1 → d ≡ 1 → day_count y m d ≡ 4_382_910
    same y m d a b e = rw (a, b, e, day_count-2000) refl

-- from 2000-01-01 to a date of these years
pub days_between : (first day : Date) → IsYmd (pos 2000) (pos 1) (pos 1) first → IsBetween (pos 2000) (pos 2099) day.year → (epoch_day day -ℤ epoch_day first ≡ pos (day_number (unsigned_abs day.year) day.month day.day)) × (day_number (unsigned_abs day.year) day.month day.day < 36_525)
days_between first day is century =
    let count = first_count first is in
    let bounds = day_count_in_century day.year day.month day.day (civil day) century in
    rw (whole day.year (omega (arith, signed_arith))) (omega (arith, signed_arith, days_from_civil-day_count, day_count-2000), omega (arith, day_count-2000))

-- a date that the counting of days has reached
pub record IsReached (n : ℕ) (c : CalendarDate) : Type 0 where
  pub count : day_count (pos c.year) c.month c.day ≡ 4_382_910 + n
  pub year : 2000 ≤ c.year
  pub month : (1 ≤ c.month) × (c.month ≤ 12)
  pub day : (1 ≤ c.day) × (c.day ≤ days_in_month (pos c.year) c.month)

below : (a b : ℕ) → nat_lt a b ≡ true → a < b
below a b h = grind (arith, nat_tests)

not_below : (a b : ℕ) → nat_lt a b ≡ false → b ≤ a
not_below a b h = grind (arith, nat_tests)

-- the day after a last day is the first of the next month
next_month : (y m d n : ℕ) → day_count (pos y) m d ≡ 4_382_910 + n → 1 ≤ m → 1 ≤ d → d ≡ days_in_month (pos y) m → day_count (pos y) (m + 1) 1 ≡ 4_382_910 + suc n
next_month y m d n count month day last =
    omega (arith, day_count-next_month (pos y) m month, day_count-day (pos y) m d 1 day (omega arith))

-- and after a last December day the first of the next year
next_year : (y m d n : ℕ) → day_count (pos y) m d ≡ 4_382_910 + n → m ≡ 12 → d ≡ days_in_month (pos y) m → day_count (pos (y + 1)) 1 1 ≡ 4_382_910 + suc n
next_year y m d n count month last =
    let december : days_in_month (pos y) m ≡ 31 = rw month refl in
    let end = rw (month, last ∙ december) at count in
    omega (arith, day_count-next_year (pos y) (pos (y + 1)) (omega (arith, signed_arith)) (omega (arith, signed_arith)), day_count-last_of_year (pos y))

next_reached : (n : ℕ) (c : CalendarDate) → IsReached n c → IsReached (suc n) (next_date c)
next_reached n c h =
    by_day (nat_lt c.day (days_in_month (pos c.year) c.month)) refl
  where
    first_day : (y m : ℕ) → (1 ≤ 1) × (1 ≤ days_in_month (pos y) m)
    first_day y m = (omega arith, omega (arith, days_in_month_bounds (pos y) m))

    by_month : (b : Bool) → nat_lt c.day (days_in_month (pos c.year) c.month) ≡ false → nat_lt c.month 12 ≡ b → IsReached (suc n) (if b then record { year = c.year; month = c.month + 1; day = 1 } else record { year = c.year + 1; month = 1; day = 1 })
    by_month true last e = record {
      count = next_month c.year c.month c.day n h.count h.month.0 h.day.0 (omega (arith, h.day.1, not_below _ _ last));
      year = h.year;
      month = (omega arith, omega (arith, below _ _ e));
      day = first_day c.year (c.month + 1);
    }
    by_month false last e = record {
      count = next_year c.year c.month c.day n h.count (omega (arith, h.month.1, not_below _ _ e)) (omega (arith, h.day.1, not_below _ _ last));
      year = omega (arith, h.year);
      month = (omega arith, omega arith);
      day = first_day (c.year + 1) 1;
    }

    by_day : (b : Bool) → nat_lt c.day (days_in_month (pos c.year) c.month) ≡ b → IsReached (suc n) (if b then record c { day = c.day + 1 } else (if nat_lt c.month 12 then record { year = c.year; month = c.month + 1; day = 1 } else record { year = c.year + 1; month = 1; day = 1 }))
    by_day true e = record {
      count = omega (arith, h.count, day_count-day (pos c.year) c.month c.day (c.day + 1) h.day.0 (omega arith));
      year = h.year;
      month = h.month;
      day = (omega arith, omega (arith, below _ _ e));
    }
    by_day false e = by_month (nat_lt c.month 12) e refl

pub date_of_reached : (n : ℕ) → IsReached n (date_of n)
unfolding date_of
date_of_reached zero = record { count = day_count-2000; year = omega arith; month = (omega arith, omega arith); day = (omega arith, search rules) }
date_of_reached (suc n) = next_reached n (date_of n) (date_of_reached n)

-- the days of the years to 2099 have dates of these years
pub reached_year : (n : ℕ) (c : CalendarDate) → IsReached n c → n < 36_525 → c.year ≤ 2099
reached_year n c h lt =
    by_lt_z (pos c.year) (pos 2100) (λ before. omega (arith, signed_arith))
    (λ after. by_lt_z (pos 2100) (pos c.year)
    (λ later. absurd (omega (arith, h.count, day_count-2100, day_count-later_year (pos 2100) (pos c.year) (search rules) later, day_count-day_of_year (pos c.year) c.month c.day h.day.0, h.day.0)))
    (λ same. let e : c.year ≡ 2100 = omega (arith, signed_arith) in
    absurd (omega (arith, h.count, day_count-2100, ap (λ y. day_count (pos y) 1 1) e, day_count-day_of_year (pos c.year) c.month c.day h.day.0, h.day.0))))

-- the date of a day as jiff has it
reached_date : (n : ℕ) (c : CalendarDate) → IsReached n c → c.year ≤ 2099 → Date
reached_date n c h year = record {
  year = pos c.year;
  month = c.month;
  day = c.day;
  year_in = (omega (arith, signed_arith), omega (arith, signed_arith));
  month_in = h.month;
  day_in = h.day;
}

-- a date that lies n days after 2000-01-01 is the one that counting n days reaches
pub date_of_is : (first date : Date) (n : ℕ) → IsYmd (pos 2000) (pos 1) (pos 1) first → n < 36_525 → epoch_day date ≡ epoch_day first +ℤ pos n → IsYmd (pos (date_of n).year) (pos (date_of n).month) (pos (date_of n).day) date
unfolding reached_date
date_of_is first date n is lt later =
    let h = date_of_reached n in
    let same = epoch_day_injective date (reached_date n (date_of n) h (reached_year n (date_of n) h lt))
    (omega (arith, signed_arith, days_from_civil-day_count, h.count, first_count first is, later)) in
    (same.0, ap pos same.1, ap pos same.2)

-- a day of these years is a day of the library
pub day_in_reach : (first : Date) (n : ℕ) → IsYmd (pos 2000) (pos 1) (pos 1) first → n < 36_525 → IsEpochDay (epoch_day first +ℤ pos n)
day_in_reach first n is lt =
    (omega (arith, signed_arith, days_from_civil-day_count, first_count first is), omega (arith, signed_arith, days_from_civil-day_count, first_count first is))

-- what the test of a time says of its parts
pub record IsTime (year month day hour minute : ℕ) : Type 0 where
  pub month_in : (1 ≤ month) × (month ≤ 12)
  pub day_in : (1 ≤ day) × (day ≤ days_in_month (pos year) month)
  pub hour_in : hour < 24
  pub minute_in : minute < 60

pub at_most : (a b : ℕ) → nat_le a b ≡ true → a ≤ b
at_most a b h = grind (arith, nat_tests)

pub time_parts : (year month day hour minute : ℕ) → is_time year month day hour minute ≡ true → IsTime year month day hour minute
time_parts year month day hour minute e =
    let to_hour = both _ _ e in
    let to_last_day = both _ _ to_hour.0 in
    let to_first_day = both _ _ to_last_day.0 in
    let to_last_month = both _ _ to_first_day.0 in
    let to_first_month = both _ _ to_last_month.0 in
    record {
      month_in = (at_most _ _ to_first_month.0, at_most _ _ to_first_month.1);
      day_in = (at_most _ _ to_last_month.1, at_most _ _ to_first_day.1);
      hour_in = below _ _ to_last_day.1;
      minute_in = below _ _ to_hour.1;
    }

-- where the calendar has no date, it has no time on it
pub no_date_no_time : (year month day hour minute : ℕ) → year < 10_000 → ¬ IsDate (pos year) (pos month) (pos day) → is_time year month day hour minute ≡ false
no_date_no_time year month day hour minute lt none =
    by_time (is_time year month day hour minute) refl
  where
    by_time : (b : Bool) → is_time year month day hour minute ≡ b → b ≡ false
    by_time false e = refl
    by_time true e =
        let t = time_parts year month day hour minute e in
        absurd (none (
          (omega (arith, signed_arith), omega (arith, signed_arith)),
          (omega (arith, signed_arith, t.month_in), omega (arith, signed_arith, t.month_in)),
          (omega (arith, signed_arith, t.day_in), omega (arith, signed_arith, t.day_in)),
        ))

-- the date of these years with a day number is the one that counting reaches
pub date_of_unique : (year month day : ℕ) → (2000 ≤ year) × (year ≤ 2099) → (1 ≤ month) × (month ≤ 12) → (1 ≤ day) × (day ≤ days_in_month (pos year) month) → ((date_of (day_number year month day)).year ≡ year) × ((date_of (day_number year month day)).month ≡ month) × ((date_of (day_number year month day)).day ≡ day)
unfolding reached_date
date_of_unique year month day y m d =
    let c : CalendarDate = record { year = year; month = month; day = day } in
    let n = day_number year month day in
    let bounds = day_count_in_century (pos year) month day ((omega (arith, signed_arith), omega (arith, signed_arith)), m, d) (omega (arith, signed_arith), omega (arith, signed_arith)) in
    let reached : IsReached (day_number year month day) c = record { count = omega (arith, day_count-2000); year = y.0; month = m; day = d } in
    let counted = date_of_reached (day_number year month day) in
    let lt : day_number year month day < 36_525 = omega (arith, day_count-2000) in
    let same = epoch_day_injective (reached_date _ (date_of (day_number year month day)) counted (reached_year _ _ counted lt)) (reached_date _ c reached y.1)
    (omega (arith, signed_arith, days_from_civil-day_count, counted.count, reached.count)) in
    (omega (arith, signed_arith, same.0), same.1, same.2)
